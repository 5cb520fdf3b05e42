-- Numbers that nodes get one after another are the places of their entries.
use Rattle.std.proofs.Common.{◌≡◌, ◌≤◌, ℕ, zero, suc, ◌+◌, Bool, true, false, ◌||◌, cond, List, [], ◌∷◌, ◌++◌, Option, Some, None, is_some, length, flat_map, sym, ap, ap₂, subst, ◌∙◌, refl, arith}
use Rattle.std.specs.List.{list_any}
use Rattle.std.specs.Option.{option_or, option_map, unwrap_or}
use Rattle.coll_order.specs.Layout.{is_in}
use Rattle.coll_order.specs.Lists.{same_node, has_node}
use Rattle.coll_order.specs.declared.places.NodeId.{NodeId}
use Rattle.coll_order.specs.declared.places.RingId.{RingId}
use Rattle.coll_order.proofs.ListLemmas.{or_first, or_second}
use Rattle.coll_order.proofs.Sameness.{by_test, not_both, same_node_is, same_node_itself}
use Rattle.coll_syntax.specs.Identifier.{same_id}
use Rattle.coll_syntax.specs.declared.identifiers.Id.{Id}
use Rattle.coll_lookups.specs.EntryNumbers.{number_at}
use Rattle.coll_nodes.specs.NodeNumbers.{entry_nodes, entry_nodes_in, last_number, AreNumbersOf}
use Rattle.coll_nodes.specs.Placement.{place_among}
use Rattle.coll_nodes.specs.SoundBodies.{has_key, ids_in, read_at, ring_at, Finds, IsEntry, IsShaped}
use Rattle.coll_nodes.specs.SoundLayouts.{AreOnce, IsSoundLayout}
use Rattle.coll_nodes.specs.Table.{ids_of, joined_entries}
use Rattle.coll_nodes.specs.TableLayout.{TableLayout, content_of, entry_in, nodes_in, sections_at}
use Rattle.coll_nodes.specs.WellFormed as are
use Rattle.coll_nodes.specs.declared.contents.Content.TheVariants as content
use Rattle.coll_nodes.specs.declared.entries.Entry.{Entry}
use Rattle.coll_nodes.proofs.BodyReads.{id_found, ids_of_node, one}
use Rattle.coll_nodes.proofs.LayoutReads.{and_true, both_true, entries_read, entry_is, in_rings, joined_at, joined_known, joined_read, placed_to, read_known, section_at}
use Rattle.coll_lookups.proofs.Sameness.{same_id_decides}
use Rattle.coll_nodes.proofs.NodeLists.{any_from, read_twice, same_read}

-- Places.

-- a place behind so many others
abbrev pub behind : ℕ → Option ℕ → Option ℕ
behind before None = None
behind before (Some place) = Some (before + place)

pub or_none : {X : Type 0} (a : Option X) → option_or a None ≡ a
or_none None = refl
or_none (Some x) = refl

-- one place further on
pub one_behind : (before : ℕ) (place : Option ℕ) → behind (suc before) place ≡ behind before (option_map (λ n. suc n) place)
one_behind before None = refl
one_behind before (Some n) = ap Some (let one : suc before + n ≡ before + suc n = omega arith in one)

-- an identifier that isn't there has no place
pub no_place : (entries : List Entry) (id : Id) → list_any (same_id id) (ids_of entries) ≡ false → place_among entries id ≡ None
no_place [] id h = refl
no_place (entry ∷ entries) id h =
    by_test (λ b. (b || list_any (same_id id) (ids_of entries)) ≡ false → cond b (Some 1) (option_map (λ place. suc place) (place_among entries id)) ≡ None) (same_id id entry.id)
    (λ on e. not_both refl e)
    (λ off e. ap (option_map (λ place. suc place)) (no_place entries id e)) h

module _ (layout : TableLayout) (shaped : IsShaped layout) where
  -- the nodes of a section's entries are those of its ring
  pub nodes_known : (section : NodeId) (name : Option (List ℕ)) (ring : RingId) → content_of layout section ≡ Some (content.Begun name ring) → read_at (entry_nodes_in layout) layout section
      ≡ nodes_in layout ring
  nodes_known section name ring is = read_known (entry_nodes_in layout) layout section (content.Begun name ring) is

  -- the entries of all sections are those of the nodes
  pub entries_of_nodes : joined_entries (sections_at layout) ≡ flat_map (read_at entry_in layout) (entry_nodes layout)
  entries_of_nodes =
      joined_read layout
      ∙ (same_read (λ section. flat_map (read_at entry_in layout) (read_at (entry_nodes_in layout) layout section)) (joined_at layout) (ring_at layout 1) (λ section there.
      let is = section_at layout shaped section there in
      joined_known layout section is.0 is.1 is.2 ∙ (entries_read layout is.1 ∙ sym (ap (flat_map (read_at entry_in layout)) (nodes_known section is.0 is.1 is.2))))
      ∙ sym (read_twice (read_at entry_in layout) (read_at (entry_nodes_in layout) layout) (ring_at layout 1)))

  -- each of the nodes is an entry, and stands in a ring
  pub entry_at_node : (node : NodeId) → has_node (entry_nodes layout) node ≡ true → ((entry : Entry) × (content_of layout node ≡ Some (content.Placed entry))) × (is_in layout.rings node ≡ true)
  entry_at_node node there =
      let section = any_from (same_node node) (read_at (entry_nodes_in layout) layout) (ring_at layout 1) there in
      let is = section_at layout shaped section.0 section.1 in
      let here : has_node (ring_at layout is.1.index) node ≡ true = sym (ap (λ nodes. has_node nodes node) (nodes_known section.0 is.0 is.1 is.2)) ∙ section.2 in
      (entry_is (content_of layout node) (is_entry is.1.index is.3 here), in_rings layout is.1.index node here) where
        is_entry : (index : ℕ) → 2 ≤ index → has_node (ring_at layout index) node ≡ true → IsEntry (content_of layout node)
        is_entry zero far here = absurd (omega (arith, far))
        is_entry (suc zero) far here = absurd (omega (arith, far))
        is_entry (suc (suc index)) far here = (shaped.placed index node here).0

  -- nodes that are entries are as many as their entries
  pub as_many : length (entry_nodes layout) ≡ length (joined_entries (sections_at layout))
  as_many = each (entry_nodes layout) (λ node there. (entry_at_node node there).0) ∙ sym (ap length entries_of_nodes) where
    each : (nodes : List NodeId) → ((node : NodeId) → has_node nodes node ≡ true → (entry : Entry) × (content_of layout node ≡ Some (content.Placed entry)))
        → length nodes ≡ length (flat_map (read_at entry_in layout) nodes)
    each [] entries = refl
    each (node ∷ nodes) entries =
        let here = entries node (or_first (same_node node node) _ (same_node_itself node)) in
        ap suc (each nodes (λ other there. entries other (or_second (same_node other node) _ there)))
        ∙ ap (λ es. length (es ++ flat_map (read_at entry_in layout) nodes)) (sym (read_known entry_in layout node (content.Placed here.0) here.1))

  module _ (once : AreOnce same_id ids_in layout) (id : Id) (node : NodeId) (has : has_key same_id ids_in layout id node ≡ true) where
    -- a node has the identifier of an entry where it is the entry's node
    pub same_entry : (other : NodeId) (entry : Entry) → content_of layout other ≡ Some (content.Placed entry) → is_in layout.rings other ≡ true → same_node node other ≡ same_id id entry.id
    same_entry other entry is linked =
        by_test (λ b. same_id id entry.id ≡ b → same_node node other ≡ b) (same_id id entry.id)
        (λ on same. let key : has_key same_id ids_in layout id other
        ≡ true = and_true linked (ap (list_any (same_id id)) (read_known ids_in layout other (content.Placed entry) is) ∙ or_first _ false same) in
        ap (same_node node) (sym (once id node other has key)) ∙ same_node_itself node)
        (λ off other_id. by_test (λ b. same_node node other ≡ b → b ≡ false) (same_node node other)
        (λ on same. let here = same_node_is node other same in
        let read : read_at ids_in layout node ≡ entry.id ∷ [] = ap (read_at ids_in layout) here ∙ read_known ids_in layout other (content.Placed entry) is in
        not_both (one _ (sym (ap (list_any (same_id id)) read) ∙ (both_true _ _ has).1)) other_id)
        (λ off same. refl) refl) refl

    -- the last number of a node is the place of its identifier
    last_is_place : (before : ℕ) (nodes : List NodeId)
        → ((other : NodeId) → has_node nodes other ≡ true → ((entry : Entry) × (content_of layout other ≡ Some (content.Placed entry))) × (is_in layout.rings other ≡ true))
        → are.AreDistinct same_id (ids_of (flat_map (read_at entry_in layout) nodes)) → last_number before nodes node ≡ behind before (place_among (flat_map (read_at entry_in layout) nodes) id)
    last_is_place before [] entries distinct = refl
    last_is_place before (first ∷ nodes) entries distinct =
        let here = entries first (or_first (same_node first first) _ (same_node_itself first)) in
        let entry = here.0.0 in
        let later = flat_map (read_at entry_in layout) nodes in
        let whole : flat_map (read_at entry_in layout) (first ∷ nodes) ≡ entry ∷ later = ap (λ es. es ++ later) (read_known entry_in layout first (content.Placed entry) here.0.1) in
        let apart : are.AreDistinct same_id (ids_of (entry ∷ later)) = subst (λ es. are.AreDistinct same_id (ids_of es)) whole distinct in
        ap₂ (λ (p : Option ℕ) (b : Bool). option_or p (cond b (Some (suc before)) None))
        (last_is_place (suc before) nodes (λ other there. entries other (or_second (same_node other first) _ there)) apart.1) (same_entry first entry here.0.1 here.1)
        ∙ (by_test (λ b. same_id id entry.id ≡ b → option_or (behind (suc before) (place_among later id)) (cond b (Some (suc before)) None)
        ≡ behind before (cond b (Some 1) (option_map (λ n. suc n) (place_among later id)))) (same_id id entry.id)
        (λ on same.
        let none : place_among later id ≡ None = no_place later id (ap (λ i. list_any (same_id i) (ids_of later)) ((same_id_decides id entry.id).0 same) ∙ apart.0) in
        ap (λ p. option_or (behind (suc before) p) (Some (suc before))) none ∙ ap Some (let one : suc before ≡ before + 1 = omega arith in one))
        (λ off other. or_none (behind (suc before) (place_among later id)) ∙ one_behind before (place_among later id)) refl
        ∙ ap (λ es. behind before (place_among es id)) (sym whole))

-- what has no place isn't there
place_none : (entries : List Entry) (id : Id) → place_among entries id ≡ None → list_any (λ (entry : Entry). same_id id entry.id) entries ≡ false
place_none [] id none = refl
place_none (entry ∷ entries) id none =
    by_test (λ b. cond b (Some 1) (option_map (λ n. suc n) (place_among entries id)) ≡ None → (b || list_any (λ (e : Entry). same_id id e.id) entries) ≡ false) (same_id id entry.id)
    (λ on e. cc)
    (λ off e. place_none entries id (by (place_among entries id) e)) none where
      by : (p : Option ℕ) → option_map (λ n. suc n) p ≡ None → p ≡ None
      by None e = refl
      by (Some n) e = cc

-- the identifier of a node that is an entry is there
placed_at : (layout : TableLayout) → IsShaped layout → (id : Id) (node : NodeId) → has_key same_id ids_in layout id node ≡ true
    → list_any (λ (entry : Entry). same_id id entry.id) (joined_entries (sections_at layout)) ≡ true
placed_at layout shaped id node has =
    let both = both_true _ _ has in
    placed_to layout shaped (λ (entry : Entry). same_id id entry.id) node both.0 (sym (ids_of_node layout shaped id (content_of layout node)) ∙ both.1)

-- the number of the node that is found is the place of its identifier
pub found_place : (layout : TableLayout) (numbers : List ℕ) (find : Id → Option NodeId) (id : Id) → IsShaped layout → Finds same_id ids_in layout find → AreNumbersOf numbers layout
    → option_map (number_at numbers) (find id) ≡ place_among (joined_entries (sections_at layout)) id
found_place layout numbers find id shaped sound numbered = by (find id) refl where
  by : (node : Option NodeId) → find id ≡ node → option_map (number_at numbers) node ≡ place_among (joined_entries (sections_at layout)) id
  by None none = sym (no_place (joined_entries (sections_at layout)) id (id_found layout shaped find id sound ∙ ap is_some none))
  by (Some node) is = sym (numbered id node (sound.leads id node is))

-- numbers that all entries were given are those of a layout
pub are_numbers : (layout : TableLayout) (old new : List ℕ) → IsSoundLayout layout → are.AreDistinct same_id (ids_of (joined_entries (sections_at layout)))
    → ((node : NodeId) → number_at new node ≡ unwrap_or (last_number 0 (entry_nodes layout) node) (number_at old node)) → AreNumbersOf new layout
are_numbers layout old new sound distinct given id node has = by (place_among (joined_entries (sections_at layout)) id) refl where
  numbered : last_number 0 (entry_nodes layout) node ≡ behind 0 (place_among (joined_entries (sections_at layout)) id)
  numbered =
      last_is_place layout sound.shaped sound.ids id node has 0 (entry_nodes layout) (entry_at_node layout sound.shaped)
      (subst (λ es. are.AreDistinct same_id (ids_of es)) (entries_of_nodes layout sound.shaped) distinct)
      ∙ ap (λ es. behind 0 (place_among es id)) (sym (entries_of_nodes layout sound.shaped))

  by : (place : Option ℕ) → place_among (joined_entries (sections_at layout)) id ≡ place → place ≡ Some (number_at new node)
  by None none = not_both (placed_at layout sound.shaped id node has) (place_none (joined_entries (sections_at layout)) id none)
  by (Some n) is = ap Some (let same : 0 + n ≡ n = omega arith in sym (given node ∙ (ap (λ p. unwrap_or p (number_at old node)) (numbered ∙ ap (behind 0) is) ∙ same)))

-- One step of a loop.

-- the number of a node where one more got its number
pub one_numbered : (left later : List NodeId) (first : NodeId) (last next : ℕ) (old new : List ℕ) → left ≡ first ∷ later → next ≡ suc last
    → ((node : NodeId) → number_at new node ≡ cond (same_node node first) next (number_at old node))
    → (node : NodeId) → unwrap_or (last_number next later node) (number_at new node) ≡ unwrap_or (last_number last left node) (number_at old node)
one_numbered left later first last next old new is one given node =
    ap₂ (λ (n : ℕ) (x : ℕ). unwrap_or (last_number n later node) x) one (given node ∙ ap (λ n. cond (same_node node first) n (number_at old node)) one)
    ∙ (by (last_number (suc last) later node) (same_node node first) ∙ ap (λ nodes. unwrap_or (last_number last nodes node) (number_at old node)) (sym is)) where
      by : (p : Option ℕ) (b : Bool) → unwrap_or p (cond b (suc last) (number_at old node)) ≡ unwrap_or (option_or p (cond b (Some (suc last)) None)) (number_at old node)
      by None true = refl
      by None false = refl
      by (Some n) b = refl

-- the last numbers of two lists, one behind the other
last_of_both : (before : ℕ) (here later : List NodeId) (node : NodeId) → last_number before (here ++ later) node
    ≡ option_or (last_number (before + length here) later node) (last_number before here node)
last_of_both before [] later node = ap (λ n. last_number n later node) (let same : before ≡ before + 0 = omega arith in same) ∙ sym (or_none (last_number (before + 0) later node))
last_of_both before (first ∷ here) later node =
    ap (λ p. option_or p (cond (same_node node first) (Some (suc before)) None)) (last_of_both (suc before) here later node
    ∙ ap (λ n. option_or (last_number n later node) (last_number (suc before) here node)) (let one : suc before + length here ≡ before + suc (length here) = omega arith in one))
    ∙ assoc (last_number (before + suc (length here)) later node) (last_number (suc before) here node) (cond (same_node node first) (Some (suc before)) None) where
      assoc : {X : Type 0} (a b c : Option X) → option_or (option_or a b) c ≡ option_or a (option_or b c)
      assoc None b c = refl
      assoc (Some x) b c = refl

-- the number of a node where those of one more section got theirs
pub section_numbered : (left here later : List NodeId) (last next : ℕ) (old new : List ℕ) → left ≡ here ++ later → next ≡ last + length here
    → ((node : NodeId) → number_at new node ≡ unwrap_or (last_number last here node) (number_at old node))
    → (node : NodeId) → unwrap_or (last_number next later node) (number_at new node) ≡ unwrap_or (last_number last left node) (number_at old node)
section_numbered left here later last next old new is more given node =
    ap₂ (λ (n : ℕ) (x : ℕ). unwrap_or (last_number n later node) x) more (given node)
    ∙ (by (last_number (last + length here) later node) (last_number last here node)
    ∙ ap (λ p. unwrap_or p (number_at old node)) (sym (ap (λ nodes. last_number last nodes node) is ∙ last_of_both last here later node))) where
      by : (p q : Option ℕ) → unwrap_or p (unwrap_or q (number_at old node)) ≡ unwrap_or (option_or p q) (number_at old node)
      by None q = refl
      by (Some n) q = refl
