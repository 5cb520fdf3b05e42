-- An item that gives an entry other weights, where it stands.
use Rattle.std.proofs.Common.{◌≡◌, ℕ, ◌+◌, true, false, not, cond, List, [], ◌∷◌, Option, Some, None, length, flat_map, map, slice_index_or, sym, ap, ap₂, subst, ◌∙◌, refl}
use Rattle.std.specs.Prelude.{is_none}
use Rattle.coll_order.specs.Layout.{is_in}
use Rattle.coll_order.specs.Lists.{same_node, has_node}
use Rattle.coll_order.specs.declared.places.NodeId.{NodeId}
use Rattle.coll_order.proofs.Sameness.{by_test, not_both, other_node_turned, same_node_is}
use Rattle.coll_syntax.specs.Identifier.{same_id, has_id}
use Rattle.coll_syntax.specs.declared.identifiers.Id.{Id}
use Rattle.coll_syntax.specs.declared.statements.OrderLine.{OrderLine}
use Rattle.coll_table.proofs.ItemEntries.{IsEntryOf, entry_with, itself_weighed, others_weighed, placed_entry, weighed_entry}
use Rattle.coll_table.proofs.ItemLines.{entry_done, no_symbol}
use Rattle.coll_table.proofs.ItemsDone.{AreDone}
use Rattle.coll_nodes.proofs.LayoutMoves.{declared_stays, sections_changed}
use Rattle.coll_nodes.proofs.LayoutReads.{both_true, entries_read, in_rings, read_known}
use Rattle.coll_nodes.proofs.NodeLists.{map_read, same_read}
use Rattle.coll_lookups.proofs.Sameness.{neither, same_id_itself}
use Rattle.coll_texts.proofs.SoundLines.{passed}
use Rattle.coll_table.specs.Delta.{reweight_refusal, reweighted, standing, weights_refusal}
use Rattle.coll_nodes.specs.Entries.{entry_of}
use Rattle.coll_nodes.specs.Placement.{entry_at, with_entry}
use Rattle.coll_table.specs.Prepared.{weights_to}
use Rattle.coll_nodes.specs.SoundBodies.{IsShaped, has_key, ids_in, read_at, ring_at}
use Rattle.coll_nodes.specs.SoundLayouts.{IsSoundLayout}
use Rattle.coll_nodes.specs.Table.{Section, entries_of, ids_of, is_known, is_placed}
use Rattle.coll_nodes.specs.TableLayout.{TableLayout, TableValue, collation, content_of, entry_in, if_any, declared_at, sections_at}
use Rattle.coll_nodes.specs.Moving.{moved_rings}
use Rattle.coll_table.specs.Turning.{CanTurnOn, ItemGoes, item_on, placed_at, placed_items, steps_between, steps_of, turned_on}
use Rattle.coll_nodes.specs.declared.contents.Content.TheVariants as content
use Rattle.coll_nodes.specs.declared.declarations.Declaration.{Declaration}
use Rattle.coll_nodes.specs.declared.entries.Entry.{Entry}
use Rattle.coll_table.specs.declared.records.Item.{Item}
use Rattle.coll_table.specs.declared.refusals.Refusal.TheVariants.{NoWeights, NotDeclared, NotPlaced}

-- an entry in place of the one that has its identifier
abbrev replaced : Entry → List Entry → List Entry
replaced entry entries = map (λ (old : Entry). cond (same_id entry.id old.id) entry old) entries

-- nothing is replaced where none has it
replaced_absent : (entry : Entry) (entries : List Entry) → has_id (ids_of entries) entry.id ≡ false → replaced entry entries ≡ entries
replaced_absent entry [] absent = refl
replaced_absent entry (first ∷ entries) absent =
    let apart = neither (same_id entry.id first.id) (has_id (ids_of entries) entry.id) absent in
    ap (λ b. cond b entry first ∷ replaced entry entries) apart.0 ∙ ap (λ es. first ∷ es) (replaced_absent entry entries apart.1)

-- the node of an entry is another entry of the same identifier, and all else is as it was
module _ (old new : TableLayout) (shaped : IsShaped old) (id : Id) (node : NodeId) (was entry : Entry) (own : IsEntryOf old id node was) (rings : new.rings ≡ old.rings)
    (itself : content_of new node ≡ Some (content.Placed entry)) (others : (other : NodeId) → same_node other node ≡ false → content_of new other ≡ content_of old other) (same : entry.id ≡ id) where
  ring_same : (index : ℕ) → ring_at new index ≡ ring_at old index
  ring_same index = ap (λ rings. slice_index_or rings index []) rings

  ring_others : (index : ℕ) → has_node (ring_at old index) node ≡ false → (other : NodeId) → has_node (ring_at old index) other ≡ true → content_of new other ≡ content_of old other
  ring_others index absent other there = others other (by_test (λ b. same_node other node ≡ b → b ≡ false) (same_node other node)
      (λ on t. not_both (ap (has_node (ring_at old index)) (sym (same_node_is other node t)) ∙ there) absent) (λ off t. refl) refl)

  -- the same is declared
  weighed_declared : declared_at new ≡ declared_at old
  weighed_declared = declared_stays old new (ring_same 0) (ring_others 0 own.undeclared)

  -- what is read of a node that stands
  read_replaced : (other : NodeId) → is_in old.rings other ≡ true → read_at entry_in new other ≡ replaced entry (read_at entry_in old other)
  read_replaced other linked =
      by_test (λ b. same_node other node ≡ b → read_at entry_in new other ≡ replaced entry (read_at entry_in old other)) (same_node other node)
      (λ on t. subst (λ n. read_at entry_in new n ≡ replaced entry (read_at entry_in old n)) (sym (same_node_is other node t))
      (read_known entry_in new node (content.Placed entry) itself
      ∙ (ap (λ b. cond b entry was ∷ []) (sym (ap₂ (λ (a b : Id). same_id a b) same own.same ∙ same_id_itself id))
      ∙ sym (ap (replaced entry) (read_known entry_in old node (content.Placed was) own.is)))))
      (λ off t.
      let absent : has_id (ids_of (read_at entry_in old other)) entry.id ≡ false =
      ap (has_id (ids_of (read_at entry_in old other))) same ∙ (own.tells other linked).off (other_node_turned other node t) in
      ap (λ known. flat_map entry_in (if_any known)) (others other t) ∙ sym (replaced_absent entry (read_at entry_in old other) absent)) refl

  -- and the entry stands in place of the one of its identifier
  weighed_sections : sections_at new ≡ with_entry (sections_at old) entry
  weighed_sections = sections_changed old new (replaced entry) shaped (ring_same 1) (ring_others 1 own.unbegun) (λ ring below.
      let nodes = ring_at old ring.index in
      entries_read new ring
      ∙ (ap (flat_map (read_at entry_in new)) (ring_same ring.index)
      ∙ (same_read (λ other. replaced entry (read_at entry_in old other)) (read_at entry_in new) nodes (λ other there. read_replaced other (in_rings old ring.index other there))
      ∙ (sym (map_read (λ (e : Entry). cond (same_id entry.id e.id) entry e) (read_at entry_in old) nodes)
      ∙ ap (replaced entry) (sym (entries_read old ring))))))

-- the item of an order line outside a block makes what the line makes
pub reweight_done : (table : TableValue) (line : OrderLine) (item : Item) → IsSoundLayout table.layout → has_key same_id ids_in table.layout line.id item.node ≡ true → item.old ≡ None
    → item.new ≡ None
    → item.weights ≡ weights_to (length table.rules) line.id line.weights → reweight_refusal (collation table) line ≡ None → AreDone table (item ∷ []) (reweighted (collation table) line) 0
unfolding collation CanTurnOn placed_items turned_on steps_of
reweight_done table line item sound has had gets given judged =
    let layout = table.layout in
    let new = item_on layout item in
    let mine = placed_entry layout line.id item.node sound has in
    let known = passed (not (is_known (collation table).declared line.id)) NotDeclared _ judged in
    let placed = passed (not (is_placed (collation table) line.id)) NotPlaced _ known.1 in
    let some = passed (is_none line.weights) NoWeights (weights_refusal (collation table) line None) placed.1 in
    let plain = no_symbol (collation table) line some.1 in
    let levels = length table.rules in
    let declared = declared_at layout in
    let entries = entries_of (collation table) in
    let entry : Entry = entry_of levels declared line in
    let made : entry_with item.weights mine.0 ≡ entry =
    entry_done levels declared entries line mine.0 item.weights line.weights given refl mine.1.same plain (λ none. not_both (ap is_none none) some.0)
    ∙ ap (λ b. standing b (entry_at entries line.id) entry) some.0 in
    let at : placed_at item.old layout item.node ≡ None = ap (λ old. placed_at old layout item.node) had in
    let rings : new.rings ≡ layout.rings = ap (λ to. moved_rings to layout.rings item.node item.new) gets in
    let itself = itself_weighed item.node item.weights layout.nodes (content.Placed mine.0) mine.1.is ∙ ap Some (weighed_entry item.weights mine.0 ∙ ap content.Placed made) in
    let others = λ (other : NodeId) (differ : same_node other item.node ≡ false). others_weighed item.node other item.weights layout.nodes differ in
    record {
      goes = (subst (λ to. ItemGoes to (placed_at item.old layout item.node) layout item.node (placed_at item.old layout item.node) item.new) (sym gets) (at, (both_true _ _ has).0), tt);
      made = ap₂ (λ (declared : List Declaration) (sections : List Section). record { rules = table.rules; declared = declared; sections = sections })
          (weighed_declared layout new sound.shaped line.id item.node mine.0 entry mine.1 rings itself others refl)
          (weighed_sections layout new sound.shaped line.id item.node mine.0 entry mine.1 rings itself others refl);
      steps = ap₂ (λ (from to : Option _). steps_between from to + 0) at gets;
    }
