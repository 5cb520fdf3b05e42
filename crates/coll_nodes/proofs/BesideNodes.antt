-- What stands beside a node among those of all entries, as the rings tell it.
use Rattle.std.proofs.Common.{◌≡◌, ℕ, zero, suc, ◌+◌, ◌==◌, ◌||◌, true, false, cond, List, [], ◌∷◌, ◌++◌, Option, Some, None, get_or, flat_map, sym, ap, subst, ◌∙◌, refl, arith}
use Rattle.std.specs.Option.{option_or}
use Rattle.std.proofs.lemmas.List.{append-nil}
use Rattle.std.proofs.lemmas.List.Folds.{list_any-append}
use Rattle.std.proofs.lemmas.Bool.Decides.{Decides-eqb}
use Rattle.coll_order.specs.Layout.{head_of, is_in, place_from}
use Rattle.coll_order.specs.Lists.{same_node, has_node, first_in, next_in, place_in, end_of}
use Rattle.coll_order.specs.Sound.{AreDistinct, StandOnce}
use Rattle.coll_order.specs.declared.places.NodeId.{NodeId}
use Rattle.coll_order.specs.declared.places.RingId.{RingId}
use Rattle.coll_order.specs.declared.places.Place.{Place}
use Rattle.coll_order.specs.declared.places.Place.TheVariants.{Head, After}
use Rattle.coll_order.proofs.ListLemmas.{absent_place, neither, or_first, or_second, place_absent}
use Rattle.coll_order.proofs.RingLemmas.{distinct_ring, in_some, is_in_ring, not_apart}
use Rattle.coll_order.proofs.Sameness.{by_test, not_both, same_node_is, same_node_itself}
use Rattle.coll_nodes.specs.Beside.{last_behind}
use Rattle.coll_nodes.specs.Bodies.{IsLaidOut}
use Rattle.coll_nodes.specs.NodeNumbers.{entry_nodes, entry_nodes_in, entry_nodes_of}
use Rattle.coll_nodes.specs.NodesBeside.{before_among, is_asked, node_between, ring_if, section_among}
use Rattle.coll_nodes.specs.SoundBodies.{IsShaped, read_at, ring_at}
use Rattle.coll_nodes.specs.TableLayout.{TableLayout, content_of, if_any, nodes_in, sections_ring}
use Rattle.coll_nodes.specs.WalkStates.{ComesNext, from_node, left_of}
use Rattle.coll_nodes.specs.declared.contents.Content.{Content}
use Rattle.coll_nodes.specs.declared.contents.Content.TheVariants as content
use Rattle.coll_nodes.proofs.LayoutReads.{section_at}
use Rattle.coll_nodes.proofs.WalkLemmas.{from_here, left_next}

-- One list.

-- where a node isn't in a list, what stands before it stands behind the list
skip_between : (before : Option NodeId) (here later : List NodeId) (node : NodeId) → has_node here node ≡ false
    → node_between before (here ++ later) node ≡ node_between (last_behind before here) later node
skip_between before [] later node off = refl
skip_between before (first ∷ here) later node off =
    let apart = neither (same_node node first) (has_node here node) off in
    ap (λ b. cond b before (node_between (Some first) (here ++ later) node)) apart.0 ∙ skip_between (Some first) here later node apart.1

-- so it is with what stands behind it
skip_next : (here later : List NodeId) (node : NodeId) → has_node here node ≡ false → next_in (here ++ later) node ≡ next_in later node
skip_next [] later node off = refl
skip_next (first ∷ here) later node off =
    let apart = neither (same_node node first) (has_node here node) off in
    ap (λ b. cond b (first_in (here ++ later)) (next_in (here ++ later) node)) apart.0 ∙ skip_next here later node apart.1

-- a node behind another has this before it
place_between : (start : Place) (before : Option NodeId) (here later : List NodeId) (node other : NodeId) → place_in start here node ≡ Some (After other) → (start ≡ After other → before ≡ Some other)
    → node_between before (here ++ later) node ≡ Some other
place_between start before [] later node other at from = cc
place_between start before (first ∷ here) later node other at from =
    by_test (λ b. cond b (Some start) (place_in (After first) here node) ≡ Some (After other) → cond b before (node_between (Some first) (here ++ later) node) ≡ Some other) (same_node node first)
    (λ on e. from (same e))
    (λ off e. place_between (After first) (Some first) here later node other e (λ one. cc)) at where
      same : {a b : Place} → Some a ≡ Some b → a ≡ b
      same e = cc

-- behind a node there is no head of a ring
no_head : (first : NodeId) (here : List NodeId) (node : NodeId) (ring : RingId) → place_in (After first) here node ≡ Some (Head ring) → ⊥
no_head first [] node ring e = cc
no_head first (next ∷ here) node ring e = by_test (λ b. cond b (Some (After first)) (place_in (After next) here node) ≡ Some (Head ring) → ⊥) (same_node node next)
    (λ on e. cc) (λ off e. no_head next here node ring e) e

-- a node at the head of a ring is its first
place_head : (own ring : RingId) (here : List NodeId) (node : NodeId) → place_in (Head own) here node ≡ Some (Head ring) → (own ≡ ring) × (rest : List NodeId) × (here ≡ node ∷ rest)
place_head own ring [] node at = absurd (none at) where
  none : None ≡ Some (Head ring) → ⊥
  none e = cc
place_head own ring (first ∷ here) node at =
    by_test (λ b. same_node node first ≡ b → cond b (Some (Head own)) (place_in (After first) here node) ≡ Some (Head ring) → (own ≡ ring) × (rest : List NodeId) × (first ∷ here ≡ node ∷ rest))
    (same_node node first)
    (λ on t e. (same e, here, ap (λ n. n ∷ here) (sym (same_node_is node first t))))
    (λ off t e. absurd (no_head first here node ring e)) refl at where
      same : Some (Head own) ≡ Some (Head ring) → own ≡ ring
      same e = cc

-- a list is cut at a node of it, behind which stands what comes next, whatever follows the list
cut_next : (nodes : List NodeId) (node : NodeId) → has_node nodes node ≡ true
    → (prefix : List NodeId) × (rest : List NodeId) × (nodes ≡ prefix ++ node ∷ rest) × ((later : List NodeId) → next_in (nodes ++ later) node ≡ first_in (rest ++ later))
cut_next [] node there = not_both there refl
cut_next (first ∷ nodes) node there =
    by_test (λ b. same_node node first ≡ b → (prefix : List NodeId) × (rest : List NodeId) × (first ∷ nodes ≡ prefix ++ node ∷ rest)
    × ((later : List NodeId) → cond b (first_in (nodes ++ later)) (next_in (nodes ++ later) node) ≡ first_in (rest ++ later))) (same_node node first)
    (λ on e. ([], nodes, ap (λ n. n ∷ nodes) (sym (same_node_is node first on)), λ later. refl))
    (λ off e. let cut = cut_next nodes node (sym (ap (λ b. b || has_node nodes node) off) ∙ there) in
    (first ∷ cut.0, cut.1, ap (λ ns. first ∷ ns) cut.2, cut.3)) refl

-- where a list ends behind a node, that is its last, or what stands before the list
pub end_last : (start : Place) (before : Option NodeId) (nodes : List NodeId) (node : NodeId) → end_of start nodes ≡ After node → (start ≡ After node → before ≡ Some node)
    → last_behind before nodes ≡ Some node
end_last start before [] node is from = from is
end_last start before (first ∷ rest) node is from = end_last (After first) (Some first) rest node is (λ same. cc)

-- a list that ends at the head of a ring has no node
pub no_last : (ring own : RingId) (before : Option NodeId) (nodes : List NodeId) → end_of (Head ring) nodes ≡ Head own → last_behind before nodes ≡ before
no_last ring own before [] is = refl
no_last ring own before (first ∷ rest) is = absurd (behind first rest is) where
  behind : (first : NodeId) (rest : List NodeId) → end_of (After first) rest ≡ Head own → ⊥
  behind first [] is = cc
  behind first (next ∷ rest) is = behind next rest is

-- Rings.

-- what stands before a node is found in its ring
place_at : (first : ℕ) (rings : List (List NodeId)) (index : ℕ) (node : NodeId) → StandOnce rings → has_node (get_or rings index []) node ≡ true
    → place_from first rings node ≡ place_in (head_of (first + index)) (get_or rings index []) node
place_at first [] index node once there = not_both there refl
place_at first (nodes ∷ rings) zero node once there =
    let same : first ≡ first + zero = omega arith in
    elim (place_in (head_of first) nodes node) as (λ found. place_in (head_of first) nodes node ≡ found → option_or found (place_from (suc first) rings node) ≡ found) [
      | None ↦ λ none. not_both there (absent_place (head_of first) nodes node none)
      | Some place ↦ λ is. refl
    ] refl ∙ ap (λ k. place_in (head_of k) nodes node) same
place_at first (nodes ∷ rings) (suc index) node once there =
    let same : suc first + index ≡ first + suc index = omega arith in
    let absent = not_apart nodes rings node once.1 (is_in_ring rings index node there) in
    ap (λ found. option_or found (place_from (suc first) rings node)) (place_absent (head_of first) nodes node absent)
    ∙ (place_at (suc first) rings index node once.2 there ∙ ap (λ k. place_in (head_of k) (get_or rings index []) node) same)

-- a node stands in one ring alone
pub one_ring : (rings : List (List NodeId)) (a b : ℕ) (node : NodeId) → StandOnce rings → has_node (get_or rings a []) node ≡ true → has_node (get_or rings b []) node ≡ true → a ≡ b
one_ring [] a b node once at bt = not_both at refl
one_ring (nodes ∷ rings) zero zero node once at bt = refl
one_ring (nodes ∷ rings) zero (suc b) node once at bt = not_both (is_in_ring rings b node bt) (once.1 node at)
one_ring (nodes ∷ rings) (suc a) zero node once at bt = not_both (is_in_ring rings a node at) (once.1 node bt)
one_ring (nodes ∷ rings) (suc a) (suc b) node once at bt = ap suc (one_ring rings a b node once.2 at bt)

-- a node that isn't in the first of two lists is in the second
in_later : (here later : List NodeId) (node : NodeId) → has_node (here ++ later) node ≡ true → has_node here node ≡ false → has_node later node ≡ true
in_later here later node there off = sym (ap (λ b. b || has_node later node) off) ∙ (sym (list_any-append (same_node node) here later) ∙ there)

module _ (layout : TableLayout) where
  -- the nodes of a section's entries are those of its ring
  pub here_is : (section : NodeId) (ring : RingId) → ring_if (content_of layout section) ≡ Some ring → read_at (entry_nodes_in layout) layout section ≡ nodes_in layout ring
  here_is section ring is = by (content_of layout section) is where
    by : (found : Option Content) → ring_if found ≡ Some ring → flat_map (entry_nodes_in layout) (if_any found) ≡ nodes_in layout ring
    by None e = cc
    by (Some (content.Declared declaration)) e = cc
    by (Some (content.Begun name own)) e = append-nil (nodes_in layout own) ∙ ap (nodes_in layout) (let same : own ≡ ring = cc in same)
    by (Some (content.Placed entry)) e = cc

  -- each of these nodes is a section
  abbrev pub AreBegun : List NodeId → Type 0
  AreBegun sections = (section : NodeId) → has_node sections section ≡ true → (ring : RingId) × (ring_if (content_of layout section) ≡ Some ring)

  -- so are those of the ring of the sections
  pub all_begun : IsShaped layout → AreBegun (ring_at layout 1)
  all_begun shaped section there = let is = section_at layout shaped section there in (is.1, ap ring_if is.2)

  first_begun : (section : NodeId) (sections : List NodeId) → AreBegun (section ∷ sections) → (ring : RingId) × (ring_if (content_of layout section) ≡ Some ring)
  first_begun section sections begun = begun section (or_first (same_node section section) _ (same_node_itself section))

  later_begun : (section : NodeId) (sections : List NodeId) → AreBegun (section ∷ sections) → AreBegun sections
  later_begun section sections begun other there = begun other (or_second (same_node other section) _ there)

  module _ (once : StandOnce layout.rings) (ring : RingId) (node : NodeId) (there : has_node (nodes_in layout ring) node ≡ true) where
    -- a section of another ring hasn't the node
    off_node : (section : NodeId) (entries : RingId) → ring_if (content_of layout section) ≡ Some entries → is_asked (Some ring) (ring_if (content_of layout section)) ≡ false
        → has_node (read_at (entry_nodes_in layout) layout section) node ≡ false
    off_node section entries is off =
        let apart : (ring.index == entries.index) ≡ false = sym (ap (is_asked (Some ring)) is) ∙ off in
        ap (λ nodes. has_node nodes node) (here_is section entries is)
        ∙ by_test (λ b. has_node (nodes_in layout entries) node ≡ b → b ≡ false) (has_node (nodes_in layout entries) node)
        (λ on t. not_both ((Decides-eqb ring.index entries.index).1 (one_ring layout.rings ring.index entries.index node once there t)) apart)
        (λ off t. refl) refl

    -- that of its ring has the nodes of the ring
    on_node : (section : NodeId) (entries : RingId) → ring_if (content_of layout section) ≡ Some entries → is_asked (Some ring) (ring_if (content_of layout section)) ≡ true
        → read_at (entry_nodes_in layout) layout section ≡ nodes_in layout ring
    on_node section entries is on =
        let same : (ring.index == entries.index) ≡ true = sym (ap (is_asked (Some ring)) is) ∙ on in
        here_is section entries is ∙ ap (λ index. get_or layout.rings index []) (sym ((Decides-eqb ring.index entries.index).0 same))

    -- a first node has the last of the sections before it
    found_before : (before : Option NodeId) (sections rest : List NodeId) → AreBegun sections → has_node (entry_nodes_of layout sections) node ≡ true → nodes_in layout ring ≡ node ∷ rest
        → before_among layout (Some ring) before sections ≡ node_between before (entry_nodes_of layout sections) node
    found_before before [] rest begun has first = not_both has refl
    found_before before (section ∷ sections) rest begun has first =
        let own = first_begun section sections begun in
        let here = read_at (entry_nodes_in layout) layout section in
        let later = entry_nodes_of layout sections in
        by_test (λ b. is_asked (Some ring) (ring_if (content_of layout section)) ≡ b
        → cond b before (before_among layout (Some ring) (last_behind before here) sections) ≡ node_between before (here ++ later) node) (is_asked (Some ring) (ring_if (content_of layout section)))
        (λ on t. sym (ap (λ nodes. node_between before (nodes ++ later) node) (on_node section own.0 own.1 t ∙ first)
        ∙ ap (λ b. cond b before (node_between (Some node) (rest ++ later) node)) (same_node_itself node)))
        (λ off t. let absent = off_node section own.0 own.1 t in
        found_before (last_behind before here) sections rest (later_begun section sections begun) (in_later here later node has absent) first ∙ sym (skip_between before here later node absent))
        refl

    -- a node behind another of its ring has that before it
    after_between : (before : Option NodeId) (sections : List NodeId) (other : NodeId) → AreBegun sections → has_node (entry_nodes_of layout sections) node ≡ true
        → place_in (Head ring) (nodes_in layout ring) node ≡ Some (After other) → node_between before (entry_nodes_of layout sections) node ≡ Some other
    after_between before [] other begun has at = not_both has refl
    after_between before (section ∷ sections) other begun has at =
        let own = first_begun section sections begun in
        let here = read_at (entry_nodes_in layout) layout section in
        let later = entry_nodes_of layout sections in
        by_test (λ b. is_asked (Some ring) (ring_if (content_of layout section)) ≡ b → node_between before (here ++ later) node ≡ Some other)
        (is_asked (Some ring) (ring_if (content_of layout section)))
        (λ on t. ap (λ nodes. node_between before (nodes ++ later) node) (on_node section own.0 own.1 t)
        ∙ place_between (Head ring) before (nodes_in layout ring) later node other at (λ same. cc))
        (λ off t. let absent = off_node section own.0 own.1 t in
        skip_between before here later node absent
        ∙ after_between (last_behind before here) sections other (later_begun section sections begun) (in_later here later node has absent) at)
        refl

    -- the section of a node is found, and what comes next is in its ring, or in a later section
    found_next : (sections rest : List NodeId) → AreBegun sections → has_node (entry_nodes_of layout sections) node ≡ true
        → ((later : List NodeId) → next_in (nodes_in layout ring ++ later) node ≡ first_in (rest ++ later))
        → (prefix : List NodeId) × (section : NodeId) × (later : List NodeId) × (sections ≡ prefix ++ section ∷ later) × (section_among layout (Some ring) sections ≡ Some section)
        × (next_in (entry_nodes_of layout sections) node ≡ first_in (rest ++ entry_nodes_of layout later))
    found_next [] rest begun has cut = not_both has refl
    found_next (section ∷ sections) rest begun has cut =
        let own = first_begun section sections begun in
        let here = read_at (entry_nodes_in layout) layout section in
        let later = entry_nodes_of layout sections in
        by_test (λ b. is_asked (Some ring) (ring_if (content_of layout section)) ≡ b
        → (prefix : List NodeId) × (found : NodeId) × (behind : List NodeId) × (section ∷ sections ≡ prefix ++ found ∷ behind) × (cond b (Some section) (section_among layout (Some ring) sections) ≡ Some found)
        × (next_in (here ++ later) node ≡ first_in (rest ++ entry_nodes_of layout behind))) (is_asked (Some ring) (ring_if (content_of layout section)))
        (λ on t. ([], section, sections, refl, refl, ap (λ nodes. next_in (nodes ++ later) node) (on_node section own.0 own.1 t) ∙ cut later))
        (λ off t. let absent = off_node section own.0 own.1 t in
        let found = found_next sections rest (later_begun section sections begun) (in_later here later node has absent) cut in
        (section ∷ found.0, found.1, found.2, ap (λ ns. section ∷ ns) found.3, found.4, skip_next here later node absent ∙ found.5))
        refl

module _ (layout : TableLayout) (shaped : IsShaped layout) (laid : IsLaidOut layout) (node : NodeId) (linked : is_in layout.rings node ≡ true)
    (has : has_node (entry_nodes layout) node ≡ true) where
  -- a node stands behind its place in its ring
  place_is : (place : Place) → place_from 0 layout.rings node ≡ Some place → (index : ℕ) × (has_node (get_or layout.rings index []) node ≡ true)
      × (place_in (head_of index) (get_or layout.rings index []) node ≡ Some place)
  place_is place at =
      let ring = in_some layout.rings node linked in
      let same : 0 + ring.0 ≡ ring.0 = omega arith in
      (ring.0, ring.1, sym (place_at 0 layout.rings ring.0 node laid.once ring.1 ∙ ap (λ k. place_in (head_of k) (get_or layout.rings ring.0 []) node) same) ∙ at)

  -- a node has before it what its place says
  pub node_after : (other : NodeId) → place_from 0 layout.rings node ≡ Some (After other) → Some other ≡ node_between None (entry_nodes layout) node
  node_after other at =
      let is = place_is (After other) at in
      sym (after_between layout laid.once (record { index = is.0 }) node is.1 None (ring_at layout 1) other (all_begun layout shaped) has is.2)

  -- that of a section's head is the last before the section
  pub node_at_head : (ring : RingId) → place_from 0 layout.rings node ≡ Some (Head ring) → before_among layout (Some ring) None (nodes_in layout sections_ring) ≡ node_between None (entry_nodes layout) node
  node_at_head ring at =
      let is = place_is (Head ring) at in
      let own : RingId = record { index = is.0 } in
      let first = place_head own ring (get_or layout.rings is.0 []) node is.2 in
      subst (λ r. before_among layout (Some r) None (nodes_in layout sections_ring) ≡ node_between None (entry_nodes layout) node) first.0
      (found_before layout laid.once own node is.1 None (ring_at layout 1) first.1 (all_begun layout shaped) has first.2)

  module _ (ring : RingId) (there : has_node (nodes_in layout ring) node ≡ true) (next : Option NodeId) (comes : ComesNext layout.rings node next) where
    -- what comes next in the ring of a node, or else is the first of the sections behind its own
    next_is : (rest : List NodeId) × (prefix : List NodeId) × (section : NodeId) × (later : List NodeId) × (next ≡ first_in rest) × (nodes_in layout sections_ring ≡ prefix ++ section ∷ later)
        × (section_among layout (Some ring) (nodes_in layout sections_ring) ≡ Some section) × (next_in (entry_nodes layout) node ≡ first_in (rest ++ entry_nodes_of layout later))
    next_is =
        let cut = cut_next (nodes_in layout ring) node there in
        let found = found_next layout laid.once ring node there (ring_at layout 1) cut.1 (all_begun layout shaped) has cut.3 in
        (cut.1, found.0, found.1, found.2, comes ring.index cut.0 cut.1 cut.2, found.3, found.4, found.5)

    -- behind a node stands what comes next in its ring
    pub next_there : (other : NodeId) → next ≡ Some other → Some other ≡ next_in (entry_nodes layout) node
    next_there other is = by next_is.0 (entry_nodes_of layout next_is.3) (sym next_is.4 ∙ is) ∙ sym next_is.7 where
      by : (rest later : List NodeId) → first_in rest ≡ Some other → Some other ≡ first_in (rest ++ later)
      by [] later e = cc
      by (first ∷ rest) later e = sym e

    -- or, where there is none, the first of the sections behind its own
    pub next_behind : (section : NodeId) (first : Option NodeId) → next ≡ None → section_among layout (Some ring) (nodes_in layout sections_ring) ≡ Some section
        → ((prefix later : List NodeId) → nodes_in layout sections_ring ≡ prefix ++ section ∷ later → first ≡ first_in (entry_nodes_of layout later)) → first ≡ next_in (entry_nodes layout) node
    next_behind section first none is begins =
        let found = next_is in
        let same : found.2 ≡ section = some (sym found.6 ∙ is) in
        begins found.1 found.3 (found.5 ∙ ap (λ n. found.1 ++ n ∷ found.3) same) ∙ sym (found.7 ∙ by found.0 (entry_nodes_of layout found.3) (sym found.4 ∙ none)) where
          some : {a b : NodeId} → Some a ≡ Some b → a ≡ b
          some e = cc

          by : (rest later : List NodeId) → first_in rest ≡ None → first_in (rest ++ later) ≡ first_in later
          by [] later e = refl
          by (x ∷ rest) later e = cc

    -- its section is found
    pub next_section : section_among layout (Some ring) (nodes_in layout sections_ring) ≡ None → {X : Type 0} → X
    next_section none = absurd (off (sym next_is.6 ∙ none)) where
      off : {a : NodeId} → Some a ≡ None → ⊥
      off e = cc

-- where no ring is asked for, all nodes stand before
pub all_before : (layout : TableLayout) (before : Option NodeId) (sections : List NodeId) → before_among layout None before sections ≡ last_behind before (entry_nodes_of layout sections)
all_before layout before [] = refl
all_before layout before (section ∷ sections) =
    let here = read_at (entry_nodes_in layout) layout section in
    all_before layout (last_behind before here) sections ∙ sym (last_twice before here (entry_nodes_of layout sections)) where
      last_twice : (before : Option NodeId) (here later : List NodeId) → last_behind before (here ++ later) ≡ last_behind (last_behind before here) later
      last_twice before [] later = refl
      last_twice before (first ∷ here) later = last_twice (Some first) here later

-- One step of a loop through sections.

module _ (layout : TableLayout) where
  -- behind a section, which stands once, the others are left
  pub left_behind : (section : NodeId) (next : Option NodeId) → IsLaidOut layout → has_node (nodes_in layout sections_ring) section ≡ true → ComesNext layout.rings section next
      → (prefix later : List NodeId) → nodes_in layout sections_ring ≡ prefix ++ section ∷ later → left_of layout sections_ring next ≡ later
  left_behind section next laid there comes prefix later cut =
      let whole : from_node (nodes_in layout sections_ring) section ≡ section ∷ later =
      ap (λ nodes. from_node nodes section) cut ∙ from_here prefix later section (subst AreDistinct cut (distinct_ring layout.rings 1 laid.once)) in
      same (sym (left_next layout sections_ring section next laid there comes) ∙ whole) where
        same : {a : NodeId} {xs ys : List NodeId} → a ∷ xs ≡ a ∷ ys → xs ≡ ys
        same e = cc

  -- the first node of a section is the first of it and of those behind it
  pub begins_here : (section : NodeId) (sections : List NodeId) (ring : RingId) (first : NodeId) → ring_if (content_of layout section) ≡ Some ring → Some first ≡ first_in (nodes_in layout ring)
      → Some first ≡ first_in (entry_nodes_of layout (section ∷ sections))
  begins_here section sections ring first is begins =
      by (nodes_in layout ring) (entry_nodes_of layout sections) begins ∙ sym (ap (λ nodes. first_in (nodes ++ entry_nodes_of layout sections)) (here_is layout section ring is)) where
        by : (nodes later : List NodeId) → Some first ≡ first_in nodes → Some first ≡ first_in (nodes ++ later)
        by [] later e = cc
        by (node ∷ nodes) later e = e

  -- where it has none, that is the first of those behind it
  pub begins_later : (section : NodeId) (sections : List NodeId) (ring : RingId) → ring_if (content_of layout section) ≡ Some ring → first_in (nodes_in layout ring) ≡ None
      → first_in (entry_nodes_of layout (section ∷ sections)) ≡ first_in (entry_nodes_of layout sections)
  begins_later section sections ring is none =
      ap (λ nodes. first_in (nodes ++ entry_nodes_of layout sections)) (here_is layout section ring is) ∙ by (nodes_in layout ring) (entry_nodes_of layout sections) none where
        by : (nodes later : List NodeId) → first_in nodes ≡ None → first_in (nodes ++ later) ≡ first_in later
        by [] later e = refl
        by (node ∷ nodes) later e = cc

  module _ (ring : Option RingId) (section : NodeId) (sections : List NodeId) (own : RingId) (is : ring_if (content_of layout section) ≡ Some own) where
    -- a section of the ring that is asked for is found
    pub asked_here : is_asked ring (Some own) ≡ true → section_among layout ring (section ∷ sections) ≡ Some section
    asked_here on = ap (λ b. cond b (Some section) (section_among layout ring sections)) (ap (is_asked ring) is ∙ on)

    -- and what stood before it stands before it
    pub before_here : (before : Option NodeId) → is_asked ring (Some own) ≡ true → before_among layout ring before (section ∷ sections) ≡ before
    before_here before on =
        ap (λ b. cond b before (before_among layout ring (last_behind before (read_at (entry_nodes_in layout) layout section)) sections)) (ap (is_asked ring) is ∙ on)

    -- another is gone past
    pub not_asked : is_asked ring (Some own) ≡ false → section_among layout ring (section ∷ sections) ≡ section_among layout ring sections
    not_asked off = ap (λ b. cond b (Some section) (section_among layout ring sections)) (ap (is_asked ring) is ∙ off)

    pub before_later : (before : Option NodeId) → is_asked ring (Some own) ≡ false
        → before_among layout ring before (section ∷ sections) ≡ before_among layout ring (last_behind before (nodes_in layout own)) sections
    before_later before off =
        ap (λ b. cond b before (before_among layout ring (last_behind before (read_at (entry_nodes_in layout) layout section)) sections)) (ap (is_asked ring) is ∙ off)
        ∙ ap (λ nodes. before_among layout ring (last_behind before nodes) sections) (here_is layout section own is)
