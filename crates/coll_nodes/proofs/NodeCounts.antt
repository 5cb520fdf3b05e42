-- A count of nodes that stand in rings has room for one more that is there.
use Rattle.std.proofs.Common.{◌≡◌, ℕ, ◌+◌, ◌^◌, ◌<◌, ◌≤◌, ◌++◌, true, false, ◌||◌, IsSome, List, [], ◌∷◌, Option, Some, None, length, flat_map, sym, ap, subst, ◌∙◌, refl, arith}
use Rattle.std.proofs.lemmas.List.{length-append}
use Rattle.std.proofs.lemmas.List.Folds.{list_any-append}
use Rattle.coll_order.specs.Layout.{is_in}
use Rattle.coll_order.specs.Lists.{same_node, has_node}
use Rattle.coll_order.specs.Sound.{AreDistinct}
use Rattle.coll_order.specs.declared.places.NodeId.{NodeId}
use Rattle.coll_order.specs.declared.places.RingId.{RingId}
use Rattle.coll_order.proofs.ListLemmas.{nor, or_first, or_second}
use Rattle.coll_order.proofs.Sameness.{by_test, not_both, same_node_is, same_node_itself}
use Rattle.coll_order.proofs.RingLemmas.{distinct_ring}
use Rattle.coll_nodes.specs.Bodies.{IsLaidOut, IsLooseNode}
use Rattle.coll_nodes.specs.Counting.{AreFew, HasRoomFor, counts_at}
use Rattle.coll_nodes.specs.SoundBodies.{read_at, ring_at, IsShaped}
use Rattle.coll_nodes.specs.Table.{Section, joined_entries}
use Rattle.coll_nodes.specs.TableLayout.{TableLayout, content_of, if_any, declaration_in, entry_in, section_in, declared_at, sections_at}
use Rattle.coll_nodes.specs.declared.contents.Content.{Content}
use Rattle.coll_nodes.specs.declared.contents.Content.TheVariants as content
use Rattle.coll_nodes.specs.declared.declarations.Declaration.{Declaration}
use Rattle.coll_nodes.specs.declared.entries.Entry.{Entry}
use Rattle.coll_nodes.proofs.LayoutLists.{ring_key}
use Rattle.coll_nodes.proofs.LayoutReads.{declared_read, sections_read, entries_read, joined_at, joined_read, joined_known, section_at, in_rings}
use Rattle.coll_nodes.proofs.NodeLists.{any_from}
use Rattle.coll_nodes.proofs.RingPlaces.{in_one}

-- lists that are no longer than others are not longer together
no_longer : {X Y : Type 0} (f : NodeId → List X) (g : NodeId → List Y) (nodes : List NodeId) → ((node : NodeId) → has_node nodes node ≡ true → length (f node) ≤ length (g node))
    → length (flat_map f nodes) ≤ length (flat_map g nodes)
no_longer f g [] each = omega arith
no_longer f g (node ∷ nodes) each =
    let here = each node (or_first (same_node node node) _ (same_node_itself node)) in
    let later = no_longer f g nodes (λ other there. each other (or_second (same_node other node) _ there)) in
    let left = length-append (f node) (flat_map f nodes) in
    let right = length-append (g node) (flat_map g nodes) in
    omega (arith, here, later, left, right)

-- lists of nodes, one after the other, each once
distinct_append : (xs ys : List NodeId) → AreDistinct xs → AreDistinct ys → ((node : NodeId) → has_node xs node ≡ true → has_node ys node ≡ true → ⊥) → AreDistinct (xs ++ ys)
distinct_append [] ys first second apart = second
distinct_append (x ∷ xs) ys first second apart = (
  list_any-append (same_node x) xs ys ∙ nor (has_node xs x) (has_node ys x) first.0
      (by_test (λ b. has_node ys x ≡ b → b ≡ false) (has_node ys x) (λ on there. absurd (apart x (or_first (same_node x x) _ (same_node_itself x)) there)) (λ off _. refl) refl),
  distinct_append xs ys first.1 second (λ node there. apart node (or_second (same_node node x) _ there)),
)

pub distinct_lists : (f : NodeId → List NodeId) (nodes : List NodeId) → AreDistinct nodes → ((node : NodeId) → has_node nodes node ≡ true → AreDistinct (f node))
    → ((a b node : NodeId) → has_node nodes a ≡ true → has_node nodes b ≡ true → has_node (f a) node ≡ true → has_node (f b) node ≡ true → a ≡ b) → AreDistinct (flat_map f nodes)
distinct_lists f [] distinct each apart = tt
distinct_lists f (first ∷ rest) distinct each apart =
    let here : has_node (first ∷ rest) first ≡ true = or_first (same_node first first) _ (same_node_itself first) in
    let behind = λ (other : NodeId) (there : has_node rest other ≡ true). or_second (same_node other first) _ there in
    distinct_append (f first) (flat_map f rest) (each first here)
    (distinct_lists f rest distinct.1 (λ node there. each node (behind node there)) (λ a b node p q. apart a b node (behind a p) (behind b q)))
    (λ node mine there.
    let other = any_from (same_node node) f rest there in
    let same : first ≡ other.0 = apart first other.0 node here (behind other.0 other.1) mine other.2 in
    not_both (ap (has_node rest) same ∙ other.1) distinct.0)

-- at most one thing is read of a node
declarations_few : (found : Option Content) → length (flat_map declaration_in (if_any found)) ≤ 1
declarations_few None = omega arith
declarations_few (Some (content.Declared declaration)) = omega arith
declarations_few (Some (content.Begun name ring)) = omega arith
declarations_few (Some (content.Placed entry)) = omega arith

sections_few : (layout : TableLayout) (found : Option Content) → length (flat_map (section_in layout) (if_any found)) ≤ 1
sections_few layout None = omega arith
sections_few layout (Some (content.Declared declaration)) = omega arith
sections_few layout (Some (content.Begun name ring)) = omega arith
sections_few layout (Some (content.Placed entry)) = omega arith

entries_few : (found : Option Content) → length (flat_map entry_in (if_any found)) ≤ 1
entries_few None = omega arith
entries_few (Some (content.Declared declaration)) = omega arith
entries_few (Some (content.Begun name ring)) = omega arith
entries_few (Some (content.Placed entry)) = omega arith

-- so of a list no more things than it has nodes
as_many_at_most : {X : Type 0} (f : NodeId → List X) (nodes : List NodeId) → ((node : NodeId) → length (f node) ≤ 1) → length (flat_map f nodes) ≤ length nodes
as_many_at_most f [] each = omega arith
as_many_at_most f (node ∷ nodes) each =
    let here = each node in
    let later = as_many_at_most f nodes each in
    let sum = length-append (f node) (flat_map f nodes) in
    omega (arith, here, later, sum)

module _ (layout : TableLayout) (node : NodeId) (laid : IsLaidOut layout) (shaped : IsShaped layout) (few : AreFew layout) (loose : IsLooseNode layout node) where
  -- nodes that stand are fewer by one than a count may be
  room : (nodes : List NodeId) → AreDistinct nodes → ((other : NodeId) → has_node nodes other ≡ true → is_in layout.rings other ≡ true) → length nodes + 1 < 2 ^ 64
  room nodes distinct stand =
      let absent : has_node nodes node ≡ false = by_test (λ b. has_node nodes node ≡ b → b ≡ false) (has_node nodes node) (λ on there. not_both (stand node there) loose.apart) (λ off _. refl) refl in
      let all = few (node ∷ nodes) (absent, distinct)
      (λ other there. by_test (λ b. same_node other node ≡ b → (b || has_node nodes other) ≡ true → IsSome (content_of layout other)) (same_node other node)
      (λ on t e. subst (λ n. IsSome (content_of layout n)) (sym (same_node_is other node t)) loose.made) (λ off t e. laid.made other (stand other e)) refl there) in
      omega (arith, all)

  -- the nodes of a ring are
  ring_room : (index : ℕ) → length (ring_at layout index) + 1 < 2 ^ 64
  ring_room index = room (ring_at layout index) (distinct_ring layout.rings index laid.once) (in_rings layout index)

  -- the ring of a section
  abbrev ring_in : Option Content → List NodeId
  ring_in None = []
  ring_in (Some (content.Declared declaration)) = []
  ring_in (Some (content.Begun name ring)) = ring_at layout ring.index
  ring_in (Some (content.Placed entry)) = []

  -- the nodes of a section
  abbrev nodes_at : NodeId → List NodeId
  nodes_at section = ring_in (content_of layout section)

  nodes_known : (section : NodeId) → has_node (ring_at layout 1) section ≡ true → (name : Option (List ℕ)) × (ring : RingId) × (content_of layout section ≡ Some (content.Begun name ring))
      × (nodes_at section ≡ ring_at layout ring.index)
  nodes_known section there = let is = section_at layout shaped section there in (is.0, is.1, is.2, ap ring_in is.2)

  -- no node is one of two sections
  nodes_once : AreDistinct (flat_map nodes_at (ring_at layout 1))
  nodes_once = distinct_lists nodes_at (ring_at layout 1) (distinct_ring layout.rings 1 laid.once)
      (λ section there. let is = nodes_known section there in subst AreDistinct (sym is.3) (distinct_ring layout.rings is.1.index laid.once))
      (λ a b other p q mine there.
      let first = nodes_known a p in
      let second = nodes_known b q in
      let same : first.1.index ≡ second.1.index = in_one layout.rings first.1.index second.1.index other laid.once
      (ap (λ nodes. has_node nodes other) (sym first.3) ∙ mine) (ap (λ nodes. has_node nodes other) (sym second.3) ∙ there) in
      let ring : first.1 ≡ second.1 = ap (λ index. record { index = index }) same in
      shaped.own first.1 a b (ring_key layout a first.0 first.1 (in_rings layout 1 a p) first.2)
      (ring_key layout b second.0 first.1 (in_rings layout 1 b q) (second.2 ∙ ap (λ r. Some (content.Begun second.0 r)) (sym ring))))

  -- and all of them stand in rings
  nodes_stand : (other : NodeId) → has_node (flat_map nodes_at (ring_at layout 1)) other ≡ true → is_in layout.rings other ≡ true
  nodes_stand other there =
      let section = any_from (same_node other) nodes_at (ring_at layout 1) there in
      let is = nodes_known section.0 section.1 in
      in_rings layout is.1.index other (ap (λ nodes. has_node nodes other) (sym is.3) ∙ section.2)

  declared_room : length (declared_at layout) + 1 < 2 ^ 64
  declared_room =
      let all = ring_room 0 in
      let few = as_many_at_most (read_at declaration_in layout) (ring_at layout 0) (λ other. declarations_few (content_of layout other)) in
      let read = ap (λ (xs : List Declaration). length xs) (declared_read layout) in
      omega (arith, all, few, read)

  section_room : length (sections_at layout) + 1 < 2 ^ 64
  section_room =
      let all = ring_room 1 in
      let few = as_many_at_most (read_at (section_in layout) layout) (ring_at layout 1) (λ other. sections_few layout (content_of layout other)) in
      let read = ap (λ (xs : List Section). length xs) (sections_read layout) in
      omega (arith, all, few, read)

  entry_room : length (joined_entries (sections_at layout)) + 1 < 2 ^ 64
  entry_room =
      let all = room (flat_map nodes_at (ring_at layout 1)) nodes_once nodes_stand in
      let few = no_longer (joined_at layout) nodes_at (ring_at layout 1) (λ section there.
      let is = nodes_known section there in
      let entries : length (joined_at layout section) ≡ length (flat_map (read_at entry_in layout) (ring_at layout is.1.index)) =
      ap (λ (xs : List Entry). length xs) (joined_known layout section is.0 is.1 is.2 ∙ entries_read layout is.1) in
      let nodes : length (nodes_at section) ≡ length (ring_at layout is.1.index) = ap (λ (xs : List NodeId). length xs) is.3 in
      let fewer = as_many_at_most (read_at entry_in layout) (ring_at layout is.1.index) (λ other. entries_few (content_of layout other)) in
      omega (arith, entries, nodes, fewer)) in
      let read = ap (λ (xs : List Entry). length xs) (joined_read layout) in
      omega (arith, all, few, read)

  -- whatever the node is
  pub has_room : (it : Content) → HasRoomFor it (counts_at layout)
  has_room (content.Declared declaration) = declared_room
  has_room (content.Begun name ring) = section_room
  has_room (content.Placed entry) = entry_room
