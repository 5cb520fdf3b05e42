-- Items that are prepared for the lines of a block, one line after another.
use Rattle.std.proofs.Common.{◌≡◌, ℕ, suc, ◌+◌, ◌<◌, Bool, true, false, List, [], ◌∷◌, ◌++◌, Option, Some, None, length, flat_map, take, get_or, sym, ap, subst, ◌∙◌, refl}
use Rattle.std.specs.List.{list_any}
use Rattle.std.proofs.lemmas.List.{append-nil, append_assoc, take_more}
use Rattle.coll_order.specs.Layout.{is_in}
use Rattle.coll_order.specs.Lists.{same_node}
use Rattle.coll_order.specs.declared.places.NodeId.{NodeId}
use Rattle.coll_order.specs.declared.places.Place.{Place}
use Rattle.coll_order.specs.declared.places.Place.TheVariants.{After}
use Rattle.coll_order.proofs.ListLemmas.{or_first}
use Rattle.coll_order.proofs.Sameness.{same_node_itself}
use Rattle.coll_syntax.specs.Identifier.{same_id}
use Rattle.coll_syntax.specs.declared.identifiers.Id.{Id}
use Rattle.coll_syntax.specs.declared.statements.OrderLine.{OrderLine}
use Rattle.coll_syntax.specs.declared.weights.Weight.{Weight}
use Rattle.coll_table.proofs.GrowthLemmas.{collation_grown, has_nodes, joined, linked_same, none_added, same_rings}
use Rattle.coll_nodes.proofs.LayoutReads.{both_true, and_true}
use Rattle.coll_table.specs.Growth.{AddsLoose}
use Rattle.coll_table.proofs.KeyReads.{key_placed, no_key_placed}
use Rattle.coll_table.specs.Prepared.{ArePrepared, IsNodeFor, IsPreparedLine, made_entry, weights_to}
use Rattle.coll_table.specs.Record.{added_by, added_nodes}
use Rattle.coll_nodes.specs.SoundBodies.{IsShaped, has_key, ids_in, read_at}
use Rattle.coll_nodes.specs.Table.{Collation, is_placed}
use Rattle.coll_nodes.specs.TableLayout.{TableLayout, TableValue, collation, content_of, if_any}
use Rattle.coll_nodes.specs.declared.contents.Content.TheVariants.{Placed}
use Rattle.coll_table.specs.declared.records.Item.{Item}

-- the node that the next line goes behind
abbrev pub last_node : NodeId → List Item → NodeId
last_node before [] = before
last_node before (item ∷ items) = last_node item.node items

-- the nodes that items added, and one more
pub added_more : (items : List Item) (item : Item) → added_nodes (items ++ item ∷ []) ≡ added_nodes items ++ added_by item.old item.new item.node
unfolding added_nodes
added_more [] item = append-nil (added_by item.old item.new item.node)
added_more (first ∷ items) item =
    let node = added_by first.old first.new first.node in
    ap (λ nodes. node ++ nodes) (added_more items item) ∙ sym (append_assoc node (added_nodes items) (added_by item.old item.new item.node))

-- the last node of items with one more
pub last_more : (before : NodeId) (items : List Item) (item : Item) → last_node before (items ++ item ∷ []) ≡ item.node
last_more before [] item = refl
last_more before (first ∷ items) item = last_more first.node items item

-- an item more is prepared, for a line more
pub prepared_more : (table : Collation) (layout : TableLayout) (before : NodeId) (lines : List OrderLine) (items : List Item) (line : OrderLine) (item : Item)
    → ArePrepared table layout before lines items → IsPreparedLine table layout (last_node before items) line item → ArePrepared table layout before (lines ++ line ∷ []) (items ++ item ∷ [])
unfolding ArePrepared
prepared_more table layout before [] [] line item prepared one = (one, tt)
prepared_more table layout before [] (first ∷ items) line item prepared one = absurd prepared
prepared_more table layout before (first ∷ lines) [] line item prepared one = absurd prepared
prepared_more table layout before (head ∷ lines) (first ∷ items) line item prepared one =
    (prepared.0, prepared_more table layout first.node lines items line item prepared.1 one)

-- there is an item for each line
pub as_many : (table : Collation) (layout : TableLayout) (before : NodeId) (lines : List OrderLine) (items : List Item) → ArePrepared table layout before lines items → length items ≡ length lines
unfolding ArePrepared
as_many table layout before [] [] prepared = refl
as_many table layout before [] (item ∷ items) prepared = absurd prepared
as_many table layout before (line ∷ lines) [] prepared = absurd prepared
as_many table layout before (line ∷ lines) (item ∷ items) prepared = ap suc (as_many table layout item.node lines items prepared.1)

module _ (old new : TableValue) (added : List NodeId) (adds : AddsLoose old new added) (table : Collation) where
  -- the node of an identifier is that still
  pub key_kept : (id : Id) (node : NodeId) → has_key same_id ids_in old.layout id node ≡ true → has_key same_id ids_in new.layout id node ≡ true
  key_kept id node has =
      let parts = both_true (is_in old.layout.rings node) (list_any (same_id id) (read_at ids_in old.layout node)) has in
      let linked : is_in new.layout.rings node ≡ true = ap (λ rings. is_in rings node) (same_rings old new added adds) ∙ parts.0 in
      and_true linked (subst (λ found. list_any (same_id id) (flat_map ids_in (if_any found)) ≡ true) (sym (linked_same old new added adds node linked)) parts.1)

  node_kept : (placed : Bool) (id : Id) (item : Item) → IsNodeFor placed table old.layout id item → IsNodeFor placed table new.layout id item
  node_kept true id item is = (is.0, key_kept id item.node is.1)
  node_kept false id item is = (is.0, ap (λ rings. is_in rings item.node) (same_rings old new added adds) ∙ is.1, has_nodes old new added adds item.node _ is.2)

  -- what is prepared stays prepared where loose nodes are added
  pub prepared_still : (before : NodeId) (lines : List OrderLine) (items : List Item) → ArePrepared table old.layout before lines items → ArePrepared table new.layout before lines items
  unfolding ArePrepared
  prepared_still before [] [] prepared = tt
  prepared_still before [] (item ∷ items) prepared = absurd prepared
  prepared_still before (line ∷ lines) [] prepared = absurd prepared
  prepared_still before (line ∷ lines) (item ∷ items) prepared = (
    record { goes = prepared.0.goes; weights = prepared.0.weights; node = node_kept (is_placed table line.id) line.id item prepared.0.node },
    prepared_still item.node lines items prepared.1,
  )

-- items are prepared for the first lines, and the nodes that they need are added
pub record Preparing (start now : TableValue) (target : NodeId) (lines : List OrderLine) (count : ℕ) (items : List Item) (before : NodeId) : Type 0 where
  pub added : AddsLoose start now (added_nodes items)
  pub prepared : ArePrepared (collation start) now.layout target (take count lines) items
  pub last : before ≡ last_node target items

-- at first there are none
pub none_prepared : (table : TableValue) (target : NodeId) (lines : List OrderLine) (items : List Item) → items ≡ [] → Preparing table table target lines 0 items target
unfolding ArePrepared added_nodes
none_prepared table target lines [] none = record { added = none_added table; prepared = tt; last = refl }
none_prepared table target lines (item ∷ items) none = absurd (differ none) where
  differ : item ∷ items ≡ [] → ⊥
  differ e = cc

-- one line more
pub line_prepared : (start now later : TableValue) (target : NodeId) (lines : List OrderLine) (count : ℕ) (items : List Item) (before : NodeId) (line : OrderLine) (item : Item) (more : List Item)
    → Preparing start now target lines count items before → count < length lines → line ≡ get_or lines count line
    → IsPreparedLine (collation now) later.layout before line item → AddsLoose now later (added_by item.old item.new item.node) → more ≡ items ++ item ∷ []
    → Preparing start later target lines (count + 1) more item.node
line_prepared start now later target lines count items before line item more so_far within at one adds all =
    let added : List NodeId = added_by item.old item.new item.node in
    let same : collation now ≡ collation start = collation_grown start now (added_nodes items) so_far.added in
    let behind : IsPreparedLine (collation start) later.layout (last_node target items) line item =
    subst (λ b. IsPreparedLine (collation start) later.layout b line item) so_far.last (subst (λ t. IsPreparedLine t later.layout before line item) same one) in
    let still = prepared_still now later added adds (collation start) target (take count lines) items so_far.prepared in
    let lines_more : take (count + 1) lines ≡ take count lines ++ line ∷ [] = take_more lines count line within ∙ ap (λ (l : OrderLine). take count lines ++ l ∷ []) (sym at) in
    subst (λ is. Preparing start later target lines (count + 1) is item.node) (sym all) (record {
      added = subst (λ nodes. AddsLoose start later nodes) (sym (added_more items item)) (joined start now later (added_nodes items) added so_far.added adds);
      prepared = subst (λ ls. ArePrepared (collation start) later.layout target ls (items ++ item ∷ [])) (sym lines_more)
          (prepared_more (collation start) later.layout target (take count lines) items line item still behind);
      last = sym (last_more target items item);
    })

-- the item of a line whose entry has a node
pub prepared_here : (table : TableValue) (before node : NodeId) (place : Place) (line : OrderLine) (weights : Option (List Weight)) → IsShaped table.layout
    → has_key same_id ids_in table.layout line.id node ≡ true → weights ≡ weights_to (length (collation table).rules) line.id line.weights
    → IsPreparedLine (collation table) table.layout before line (record { node = node; old = Some place; new = Some (After before); weights = weights })
unfolding collation
prepared_here table before node place line weights shaped has given =
    let item : Item = record { node = node; old = Some place; new = Some (After before); weights = weights } in
    record {
      goes = refl;
      weights = given;
      node = subst (λ b. IsNodeFor b (collation table) table.layout line.id item) (sym (key_placed table.layout shaped line.id node has)) (refl, has);
    }

-- the item of a line whose entry is new
pub prepared_new : (table later : TableValue) (before node : NodeId) (line : OrderLine) (weights : Option (List Weight)) → IsShaped table.layout
    → ((other : NodeId) → has_key same_id ids_in table.layout line.id other ≡ false) → weights ≡ weights_to (length (collation table).rules) line.id line.weights
    → AddsLoose table later (node ∷ []) → content_of later.layout node ≡ Some (Placed (made_entry (collation table) line.id))
    → IsPreparedLine (collation table) later.layout before line (record { node = node; old = None; new = Some (After before); weights = weights })
unfolding collation
prepared_new table later before node line weights shaped none given adds made =
    let item : Item = record { node = node; old = None; new = Some (After before); weights = weights } in
    record {
      goes = refl;
      weights = given;
      node = subst (λ b. IsNodeFor b (collation table) later.layout line.id item) (sym (no_key_placed table.layout shaped line.id none))
          (refl, (adds.loose.loose node (or_first (same_node node node) false (same_node_itself node))).apart, made);
    }

-- one item that adds its node adds it alone
pub one_added : (old new : TableValue) (node : NodeId) (place : Place) (weights : Option (List Weight)) (before items : List Item) → before ≡ []
    → items ≡ before ++ record { node = node; old = None; new = Some place; weights = weights } ∷ [] → AddsLoose old new (node ∷ []) → AddsLoose old new (added_nodes items)
unfolding added_nodes
one_added old new node place weights [] items none all adds = subst (λ (is : List Item). AddsLoose old new (added_nodes is)) (sym all) adds
one_added old new node place weights (item ∷ before) items none all adds = absurd (differ none) where
  differ : item ∷ before ≡ [] → ⊥
  differ e = cc
