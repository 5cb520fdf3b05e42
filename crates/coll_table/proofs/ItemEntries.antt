-- An item that puts an entry's node directly after another's: what the table is then.
use Rattle.std.proofs.Common.{◌≡◌, ℕ, ◌+◌, ◌<◌, Bool, true, false, ◌&&◌, ◌||◌, cond, List, [], ◌∷◌, Option, Some, None, length, flat_map, slice_index_or, sym, ap, subst, ◌∙◌, refl}
use Rattle.std.specs.List.{list_any}
use Rattle.coll_order.specs.Layout.{head_of, is_in, rings_with, rings_without}
use Rattle.coll_order.specs.Lists.{same_node, has_node, put_after, without}
use Rattle.coll_order.specs.declared.places.NodeId.{NodeId}
use Rattle.coll_order.specs.declared.places.Place.TheVariants.{After}
use Rattle.coll_order.proofs.ListLemmas.{is_in_without, or_first}
use Rattle.coll_order.proofs.RingLemmas.{among_after, is_in_put, is_in_put_itself}
use Rattle.coll_order.proofs.Sameness.{by_test, not_both, same_node_is, same_node_itself}
use Rattle.coll_syntax.specs.Identifier.{same_id, has_id}
use Rattle.coll_syntax.specs.declared.identifiers.Id.{Id}
use Rattle.coll_syntax.specs.declared.weights.Weight.{Weight}
use Rattle.coll_nodes.proofs.EntryMoves.{Tells, take_read, put_read}
use Rattle.coll_table.proofs.ItemPlaces.{finds_once, node_by}
use Rattle.coll_table.proofs.ItemRings.{anew_other, anew_put, before_taken}
use Rattle.coll_nodes.proofs.LayoutMoves.{changed_twice, declared_stays, found_entry, found_tells, ids_read, not_begun, not_declared, sections_changed}
use Rattle.coll_nodes.proofs.LayoutReads.{and_true, entries_read, in_rings, read_known}
use Rattle.coll_lookups.proofs.Sameness.{same_id_decides, same_id_itself}
use Rattle.coll_nodes.proofs.TurningNodes.{content_weighed, weighed_if}
use Rattle.coll_nodes.specs.Placement.{entries_after, entries_without, placed_after, without as sections_without}
use Rattle.coll_nodes.specs.SoundBodies.{IsShaped, has_key, ids_in, read_at, ring_at}
use Rattle.coll_nodes.specs.SoundLayouts.{IsSoundLayout}
use Rattle.coll_nodes.specs.Table.{ids_of}
use Rattle.coll_nodes.specs.TableLayout.{TableLayout, MadeNode, content_among, content_of, if_any, entry_in, declared_at, sections_at}
use Rattle.coll_nodes.specs.Moving.{moved_rings, weighed, weighed_nodes}
use Rattle.coll_table.specs.Turning.{item_on}
use Rattle.coll_nodes.specs.declared.contents.Content.{Content}
use Rattle.coll_nodes.specs.declared.contents.Content.TheVariants as content
use Rattle.coll_nodes.specs.declared.entries.Entry.{Entry}
use Rattle.coll_table.specs.declared.records.Item.{Item}

-- Weights of nodes.

-- the others are what they were
pub others_weighed : (node other : NodeId) (weights : Option (List Weight)) (nodes : List MadeNode) → same_node other node ≡ false → content_among (weighed_nodes node weights nodes) other
    ≡ content_among nodes other
others_weighed node other weights nodes differ = content_weighed node weights nodes other ∙ ap (λ b. cond b (weighed_if weights (content_among nodes other)) (content_among nodes other)) differ

-- the node is what it was, with the weights
pub itself_weighed : (node : NodeId) (weights : Option (List Weight)) (nodes : List MadeNode) (it : Content) → content_among nodes node ≡ Some it
    → content_among (weighed_nodes node weights nodes) node ≡ Some (weighed weights it)
itself_weighed node weights nodes it is =
    content_weighed node weights nodes node ∙ (ap (λ b. cond b (weighed_if weights (content_among nodes node)) (content_among nodes node)) (same_node_itself node) ∙ ap (weighed_if weights) is)

-- an entry with other weights, if some are given
abbrev pub entry_with : Option (List Weight) → Entry → Entry
entry_with None entry = entry
entry_with (Some weights) entry = record entry { weights = weights }

-- it has the identifier that it had
pub entry_with_id : (weights : Option (List Weight)) (entry : Entry) → (entry_with weights entry).id ≡ entry.id
entry_with_id None entry = refl
entry_with_id (Some weights) entry = refl

pub weighed_entry : (weights : Option (List Weight)) (entry : Entry) → weighed weights (content.Placed entry) ≡ content.Placed (entry_with weights entry)
weighed_entry None entry = refl
weighed_entry (Some weights) entry = refl

-- Nodes of entries.

-- a node is the entry of an identifier, which no other has that stands in a ring
pub record IsEntryOf (layout : TableLayout) (id : Id) (node : NodeId) (entry : Entry) : Type 0 where
  pub is : content_of layout node ≡ Some (content.Placed entry)
  pub same : entry.id ≡ id
  pub tells : (other : NodeId) → is_in layout.rings other ≡ true → Tells (read_at entry_in layout) id node other
  pub undeclared : has_node (ring_at layout 0) node ≡ false
  pub unbegun : has_node (ring_at layout 1) node ≡ false

module _ (layout : TableLayout) (id : Id) (node : NodeId) where
  -- one that stands and has the identifier is its entry
  pub placed_entry : IsSoundLayout layout → has_key same_id ids_in layout id node ≡ true → (entry : Entry) × IsEntryOf layout id node entry
  placed_entry sound has =
      let find = node_by same_id ids_in layout in
      let finds = finds_once same_id ids_in layout sound.ids in
      let found : find id ≡ Some node = finds.finds id node has in
      let is = found_entry layout sound.shaped find id node finds found in (
        is.0,
        record {
          is = is.1;
          same = sym ((same_id_decides id is.0.id).0 is.2);
          tells = λ other linked. found_tells layout sound.shaped find id node finds found other linked;
          undeclared = not_declared layout sound.shaped find id node finds found;
          unbegun = not_begun layout sound.shaped find id node finds found;
        },
      )

  -- a loose one is, where nothing that stands has its identifier
  pub loose_entry : (entry : Entry) → content_of layout node ≡ Some (content.Placed entry) → entry.id ≡ id → is_in layout.rings node ≡ false
      → ((other : NodeId) → has_key same_id ids_in layout id other ≡ false) → IsEntryOf layout id node entry
  loose_entry entry is same apart fresh = record {
    is = is;
    same = same;
    tells = λ other linked. record {
      here = λ on. not_both (ap (is_in layout.rings) (same_node_is node other on) ∙ linked) apart;
      off = λ differ. by_test (λ b. has_id (ids_of (read_at entry_in layout other)) id ≡ b → b ≡ false) (has_id (ids_of (read_at entry_in layout other)) id)
          (λ on t. not_both (and_true linked (sym (ap (λ ids. has_id ids id) (ids_read (content_of layout other))) ∙ t)) (fresh other)) (λ off t. refl) refl;
    };
    undeclared = absent 0;
    unbegun = absent 1;
  } where
    absent : (index : ℕ) → has_node (ring_at layout index) node ≡ false
    absent index = by_test (λ b. has_node (ring_at layout index) node ≡ b → b ≡ false) (has_node (ring_at layout index) node) (λ on t. not_both (in_rings layout index node t) apart) (λ off t. refl)
        refl

  -- the nodes of two identifiers are two
  pub entries_apart : (target : Id) (after : NodeId) (mine other : Entry) → IsEntryOf layout id node mine → IsEntryOf layout target after other → same_id id target ≡ false
      → same_node after node ≡ false
  entries_apart target after mine other own aim differ = by_test (λ b. same_node after node ≡ b → b ≡ false) (same_node after node)
      (λ on t.
      let same : mine ≡ other = placed_same (sym own.is ∙ (ap (content_of layout) (sym (same_node_is after node t)) ∙ aim.is)) in
      let ids : target ≡ id = sym aim.same ∙ (ap (λ (e : Entry). e.id) (sym same) ∙ own.same) in
      not_both (ap (same_id id) ids ∙ same_id_itself id) differ) (λ off t. refl) refl where
        placed_same : {a b : Entry} → Some (content.Placed a) ≡ Some (content.Placed b) → a ≡ b
        placed_same e = cc

-- A node put directly after another.

-- an entry's node is taken out, if it stands, and put directly after another; and what it is then
pub record Puts (old new : TableLayout) (node after : NodeId) (entry : Entry) : Type 0 where
  pub rings : new.rings ≡ rings_with (After after) node 0 (rings_without node old.rings)
  pub itself : content_of new node ≡ Some (content.Placed entry)
  pub others : (other : NodeId) → same_node other node ≡ false → content_of new other ≡ content_of old other

-- so it is by an item
pub item_puts : (layout : TableLayout) (item : Item) (after : NodeId) (entry : Entry) → item.new ≡ Some (After after) → content_of layout item.node ≡ Some (content.Placed entry)
    → Puts layout (item_on layout item) item.node after (entry_with item.weights entry)
item_puts layout item after entry goes is = record {
  rings = ap (λ to. moved_rings to layout.rings item.node to) goes;
  itself = itself_weighed item.node item.weights layout.nodes (content.Placed entry) is ∙ ap Some (weighed_entry item.weights entry);
  others = λ other differ. others_weighed item.node other item.weights layout.nodes differ;
}

module _ (old new : TableLayout) (shaped : IsShaped old) (id target : Id) (node after : NodeId) (entry : Entry) (was other_entry : Entry) (puts : Puts old new node after entry)
    (own : IsEntryOf old id node was) (aim : IsEntryOf old target after other_entry) (differ : same_id id target ≡ false) (linked : is_in old.rings after ≡ true) (same : entry.id ≡ id) where
  apart : same_node after node ≡ false
  apart = entries_apart old id node target after was other_entry own aim differ

  -- a ring then
  ring_put : (index : ℕ) → index < length old.rings → ring_at new index ≡ put_after (After after) node (head_of (0 + index)) (without node (ring_at old index))
  ring_put index below = ap (λ rings. slice_index_or rings index []) puts.rings ∙ anew_put old node (After after) index below

  -- a ring that has neither is as it was
  ring_other : (index : ℕ) → has_node (ring_at old index) node ≡ false → has_node (ring_at old index) after ≡ false → ring_at new index ≡ ring_at old index
  ring_other index absent absent_target = ap (λ rings. slice_index_or rings index []) puts.rings ∙ anew_other old node after index absent absent_target

  -- what stands in a ring that hasn't the node is what it was
  ring_others : (index : ℕ) → has_node (ring_at old index) node ≡ false → (other : NodeId) → has_node (ring_at old index) other ≡ true → content_of new other ≡ content_of old other
  ring_others index absent other there = puts.others other (by_test (λ b. same_node other node ≡ b → b ≡ false) (same_node other node)
      (λ on t. not_both (ap (has_node (ring_at old index)) (sym (same_node_is other node t)) ∙ there) absent) (λ off t. refl) refl)

  -- the same is declared
  pub put_declared : declared_at new ≡ declared_at old
  put_declared = declared_stays old new (ring_other 0 own.undeclared aim.undeclared) (ring_others 0 own.undeclared)

  -- and the entry stands directly after the target's
  pub put_sections : sections_at new ≡ placed_after (sections_without (sections_at old) id) target entry
  put_sections =
      sections_changed old new (λ es. entries_after (entries_without es id) target entry) shaped (ring_other 1 own.unbegun aim.unbegun) (ring_others 1 own.unbegun) (λ ring below.
      let nodes = ring_at old ring.index in
      let itself : read_at entry_in new node ≡ entry ∷ [] = read_known entry_in new node (content.Placed entry) puts.itself in
      entries_read new ring
      ∙ (ap (flat_map (read_at entry_in new)) (ring_put ring.index below)
      ∙ (put_read (read_at entry_in old) (read_at entry_in new) target after node entry itself (head_of (0 + ring.index)) (without node nodes) refl
      (λ other there. ap (λ known. flat_map entry_in (if_any known)) (puts.others other (before_taken node nodes other there).0))
      (λ other there. aim.tells other (in_rings old ring.index other (before_taken node nodes other there).1))
      ∙ (ap (λ es. entries_after es target entry) (take_read (read_at entry_in old) id node nodes (λ other there. own.tells other (in_rings old ring.index other there)))
      ∙ ap (λ es. entries_after (entries_without es id) target entry) (sym (entries_read old ring))))))
      ∙ changed_twice (λ es. entries_without es id) (λ es. entries_after es target entry) (sections_at old)

  -- the others stand where they stood
  pub put_others : (other : NodeId) → same_node other node ≡ false → is_in new.rings other ≡ is_in old.rings other
  put_others other off = ap (λ rings. is_in rings other) puts.rings ∙ (is_in_put (After after) node other 0 (rings_without node old.rings) off ∙ is_in_without node other old.rings off)

  -- the node stands in a ring
  pub put_itself : is_in new.rings node ≡ true
  put_itself = ap (λ rings. is_in rings node) puts.rings
      ∙ is_in_put_itself (After after) node 0 (rings_without node old.rings) (among_after after 0 (rings_without node old.rings) ∙ (is_in_without node after old.rings apart ∙ linked))

  -- and has the identifier
  pub put_key : has_key same_id ids_in new id node ≡ true
  put_key = and_true put_itself (ap (list_any (same_id id)) (read_known ids_in new node (content.Placed entry) puts.itself)
      ∙ (ap (λ other. same_id id other || false) same ∙ or_first (same_id id id) false (same_id_itself id)))

  -- other identifiers are those of the nodes that had them
  pub put_keys : (key : Id) (other : NodeId) → same_id key id ≡ false → has_key same_id ids_in new key other ≡ has_key same_id ids_in old key other
  put_keys key other far = by_test (λ b. same_node other node ≡ b → has_key same_id ids_in new key other ≡ has_key same_id ids_in old key other) (same_node other node)
      (λ on t.
      let at : other ≡ node = same_node_is other node t in
      subst (λ n. has_key same_id ids_in new key n ≡ has_key same_id ids_in old key n) (sym at)
      (none new entry puts.itself same ∙ sym (none old was own.is own.same)))
      (λ off t. ap (λ b. b && list_any (same_id key) (read_at ids_in new other)) (put_others other t)
      ∙ ap (λ known. is_in old.rings other && list_any (same_id key) (flat_map ids_in (if_any known))) (puts.others other t)) refl where
        never : (b : Bool) → (b && false) ≡ false
        never true = refl
        never false = refl

        none : (layout : TableLayout) (it : Entry) → content_of layout node ≡ Some (content.Placed it) → it.id ≡ id → has_key same_id ids_in layout key node ≡ false
        none layout it is named =
            ap (λ keys. is_in layout.rings node && list_any (same_id key) keys) (read_known ids_in layout node (content.Placed it) is)
            ∙ (ap (λ b. is_in layout.rings node && (b || false)) (ap (same_id key) named ∙ far) ∙ never (is_in layout.rings node))
