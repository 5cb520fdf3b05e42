-- The items of the record of a statement are those of its lines, each as it was at its own moment.
use Rattle.std.proofs.Common.{◌≡◌, ℕ, suc, true, false, ◌||◌, List, [], ◌∷◌, ◌++◌, Option, Some, None, IsOk, length, sym, ap, subst, ◌∙◌, refl}
use Rattle.std.specs.Option.{option_or}
use Rattle.coll_order.specs.Layout.{head_of, is_in, place_from}
use Rattle.coll_order.specs.Lists.{has_node}
use Rattle.coll_order.specs.declared.places.NodeId.{NodeId}
use Rattle.coll_order.specs.declared.places.Place.{Place}
use Rattle.coll_order.specs.declared.places.Place.TheVariants.{After}
use Rattle.coll_order.proofs.ListLemmas.{neither, place_absent}
use Rattle.coll_syntax.specs.Identifier.{same_id, has_id}
use Rattle.coll_syntax.specs.declared.identifiers.Id.{Id}
use Rattle.coll_syntax.specs.declared.statements.OrderLine.{OrderLine}
use Rattle.coll_syntax.specs.declared.statements.Statement.TheVariants as statement
use Rattle.coll_syntax.specs.declared.weights.Weight.{Weight}
use Rattle.coll_texts.proofs.SoundLines.{neither_found}
use Rattle.coll_nodes.proofs.LayoutReads.{both_true}
use Rattle.coll_lookups.proofs.Sameness.{same_id_itself, same_id_symmetric}
use Rattle.coll_nodes.specs.Linking.{end_of_declarations}
use Rattle.coll_nodes.specs.Moving.{IsAt, exchanged, moved_rings}
use Rattle.coll_nodes.specs.SoundBodies.{has_key, ids_in}
use Rattle.coll_nodes.specs.SoundLayouts.{IsSoundLayout, IsTable}
use Rattle.coll_nodes.specs.Table.{Collation, is_placed}
use Rattle.coll_nodes.specs.TableLayout.{TableLayout, TableValue, collation, content_of}
use Rattle.coll_nodes.specs.declared.contents.Content.{Content}
use Rattle.coll_nodes.specs.declared.contents.Content.TheVariants as content
use Rattle.coll_nodes.specs.declared.declarations.Declaration.{Declaration}
use Rattle.coll_nodes.specs.declared.declarations.Declaration.TheVariants as declaration
use Rattle.coll_nodes.specs.declared.entries.Entry.{Entry}
use Rattle.coll_table.proofs.AcceptedStatements.{block_accepted}
use Rattle.coll_table.proofs.DeltaPlacing.{apart_when_new, lines_stay}
use Rattle.coll_table.proofs.DeltaRefusals.{has_last, has_push, has_still, passes}
use Rattle.coll_table.proofs.GrowthLemmas.{collation_grown, same_rings}
use Rattle.coll_table.proofs.ItemEntries.{itself_weighed}
use Rattle.coll_table.proofs.ItemLines.{line_done, line_made, lines_still, now, ready, still_standing, symbol_passes}
use Rattle.coll_table.proofs.ItemPlaces.{placed_standing, stands}
use Rattle.coll_table.proofs.ItemsDone.{record_of}
use Rattle.coll_table.proofs.KeyReads.{key_placed}
use Rattle.coll_table.specs.Applied.{declaring}
use Rattle.coll_table.specs.Delta.{block_entry, own_delta, line_refusal, lines_refusal, moved}
use Rattle.coll_table.specs.Growth.{AddsLoose}
use Rattle.coll_table.specs.Prepared.{ArePrepared, IsNodeFor, IsPreparedBlock, IsPreparedDeclaration, IsPreparedReweight, IsPreparedSection, weights_to}
use Rattle.coll_table.specs.Record.{added_nodes}
use Rattle.coll_table.specs.StatementItems.{AreOwnItems, AreLineItems, IsDeclarationItem, weights_before, without_weights}
use Rattle.coll_table.specs.Turning.{item_on, items_on, placed_at, placed_items, turned_on}
use Rattle.coll_table.specs.declared.records.Item.{Item}

-- a node that stands in no ring has no place
nowhere : (first : ℕ) (rings : List (List NodeId)) (node : NodeId) → is_in rings node ≡ false → place_from first rings node ≡ None
nowhere first [] node apart = refl
nowhere first (nodes ∷ rings) node apart =
    let both = neither (has_node nodes node) (is_in rings node) apart in
    ap (λ found. option_or found (place_from (suc first) rings node)) (place_absent (head_of first) nodes node both.0) ∙ nowhere (suc first) rings node both.1

-- where a node stands is its place, if it has one
stood_at : (layout : TableLayout) (node : NodeId) (at : Option Place) → IsAt layout node at → at ≡ place_from 0 layout.rings node
stood_at layout node None is = sym (nowhere 0 layout.rings node is.apart)
stood_at layout node (Some place) is = sym is

-- the weights that an entry gives in exchange for those of a line are those that the line takes the place of
gave : (table : Collation) (levels : ℕ) (id : Id) (given gets : Option (List Weight)) (it : Option Content) (entry : Entry) → gets ≡ weights_to levels id given → it ≡ Some (content.Placed entry)
    → entry ≡ block_entry table (without_weights id) → exchanged gets it ≡ weights_before table id given
gave table levels id None gets it entry is known same = ap (λ ws. exchanged ws it) is
gave table levels id (Some given) gets it entry is known same =
    ap (λ ws. exchanged ws it) is ∙ (ap (exchanged (weights_to levels id (Some given))) known ∙ ap (λ (e : Entry). Some e.weights) same)

-- Blocks.

-- the items of the lines of a block, once they are done, are listed; and what isn't one of these lines keeps its node
record Listed (old : Collation) (table : TableValue) (before : NodeId) (ids : List Id) (lines : List OrderLine) (items : List Item) : Type 0 where
  keys : (id : Id) (node : NodeId) → has_id ids id ≡ true → has_key same_id ids_in (turned_on table.layout items) id node ≡ has_key same_id ids_in table.layout id node
  listed : AreLineItems old (turned_on table.layout items) table.layout.rings before lines (items_on table.layout (placed_items table.layout items))

lines_listed : (old : Collation) (table : TableValue) (target : Id) (before : NodeId) (ids : List Id) (lines : List OrderLine) (items : List Item) → IsSoundLayout table.layout
    → has_key same_id ids_in table.layout target before ≡ true
    → has_id ids target ≡ true → lines_refusal (collation table) ids lines ≡ None → ArePrepared (collation table) table.layout before lines items
    → ((id : Id) → has_id ids id ≡ false → block_entry (collation table) (without_weights id) ≡ block_entry old (without_weights id))
    → Listed old table before ids lines items
unfolding ArePrepared AreLineItems items_on placed_items turned_on
lines_listed old table target before ids [] [] sound has here judged prepared same = record { keys = λ id node there. refl; listed = tt }
lines_listed old table target before ids [] (item ∷ items) sound has here judged prepared same = absurd prepared
lines_listed old table target before ids (line ∷ lines) [] sound has here judged prepared same = absurd prepared
lines_listed old table target before ids (line ∷ lines) (item ∷ items) sound has here judged prepared same =
    let first = passes (collation table) ids line lines judged in
    let plain = symbol_passes (collation table) ids line (neither_found (line_refusal (collation table) ids line) _ judged).0 in
    let done = line_done table target before line item sound has (apart_when_new ids target line.id here first.new) plain prepared.0 in
    let after : TableValue = now table target line item sound done in
    let made = line_made table target line item sound done in
    let more = ids ++ line.id ∷ [] in
    let passed : lines_refusal (collation after) more lines ≡ None =
    ap (λ (t : Collation). lines_refusal t more lines) made ∙ (lines_stay (collation table) (moved (collation table) target line).sections more lines ∙ first.later) in
    let last = has_last ids line.id in
    let still = lines_still table target line item sound done more item.node lines items last first.later prepared.1 in
    let later = lines_listed old after line.id item.node more lines items done.sound done.key last passed still (λ id absent.
    let both = neither (same_id id line.id) (has_id ids id) (sym (has_push ids line.id id) ∙ absent) in
    still_standing table target line item sound done id both.0 ∙ same id both.1) in
    let bare = ready table (without_weights line.id) item sound prepared.0.node in
    record {
      keys = λ id node there. later.keys id node (has_still ids line.id id there) ∙ done.keys id node (same_id_symmetric id line.id ∙ apart_when_new ids id line.id there first.new);
      listed = (
        record {
          node = later.keys line.id item.node last ∙ done.key;
          stood = stood_at table.layout item.node (placed_at item.old table.layout item.node) bare.stands;
          went = prepared.0.goes;
          weights = gave old (length (collation table).rules) line.id line.weights item.weights (content_of table.layout item.node) bare.entry prepared.0.weights bare.own.is
              (bare.kept refl ∙ same line.id first.new);
        },
        subst (λ to. AreLineItems old (turned_on (item_on table.layout item) items) (moved_rings to table.layout.rings item.node to) item.node lines
            (items_on (item_on table.layout item) (placed_items (item_on table.layout item) items))) prepared.0.goes later.listed,
      );
    }

-- the items of a block that is accepted are listed
pub block_listed : (old table : TableValue) (target : Id) (lines : List OrderLine) (items : List Item) → IsTable table → AddsLoose old table (added_nodes items)
    → IsOk (own_delta (collation old) (statement.Block target lines)) → IsPreparedBlock (collation old) table.layout target lines items
    → AreOwnItems old (turned_on table.layout items) (statement.Block target lines) (record_of table.layout items).items
unfolding AreOwnItems own_delta
block_listed old table target lines items is adds ok prepared_old =
    let same : collation table ≡ collation old = collation_grown old table (added_nodes items) adds in
    let prepared : IsPreparedBlock (collation table) table.layout target lines items = subst (λ t. IsPreparedBlock t table.layout target lines items) (sym same) prepared_old in
    let accepted = block_accepted (collation table) target lines (subst (λ t. IsOk (own_delta t (statement.Block target lines))) (sym same) ok) in
    let here : has_id (target ∷ []) target ≡ true = ap (λ b. b || false) (same_id_itself target) in
    let all = lines_listed (collation old) table target prepared.0 (target ∷ []) lines items is.sound prepared.1 here accepted.passes prepared.2
    (λ id absent. ap (λ t. block_entry t (without_weights id)) same) in (
      prepared.0,
      all.keys target prepared.0 here ∙ prepared.1,
      subst (λ rings. AreLineItems (collation old) (turned_on table.layout items) rings prepared.0 lines (record_of table.layout items).items) (same_rings old table (added_nodes items) adds)
          all.listed,
    )

-- Other statements.

-- the item of a declaration is listed
pub declaration_listed : (old table : TableValue) (new : Declaration) (items : List Item) → AddsLoose old table (added_nodes items) → IsPreparedDeclaration table.layout new items
    → AreOwnItems old (turned_on table.layout items) (declaring new) (record_of table.layout items).items
unfolding AreOwnItems turned_on items_on placed_items
declaration_listed old table new items adds prepared = subst (λ is. AreOwnItems old (turned_on table.layout is) (declaring new) (record_of table.layout is).items) (sym prepared.2) (by new refl) where
  item : Item
  item = record { node = prepared.0; old = None; new = Some (end_of_declarations table.layout); weights = None }

  it : IsDeclarationItem old.layout (turned_on table.layout (item ∷ [])) new (record_of table.layout (item ∷ [])).items
  it = (
    prepared.0,
    itself_weighed prepared.0 None table.layout.nodes (content.Declared new) prepared.1,
    ap (λ rings. record { node = prepared.0; old = None; new = Some (end_of_declarations (record { rings = rings; nodes = [] })); weights = None } ∷ [])
        (same_rings old table (added_nodes items) adds),
  )

  by : (other : Declaration) → new ≡ other → AreOwnItems old (turned_on table.layout (item ∷ [])) (declaring other) (record_of table.layout (item ∷ [])).items
  by (declaration.Symbol name) same = subst (λ d. IsDeclarationItem old.layout (turned_on table.layout (item ∷ [])) d (record_of table.layout (item ∷ [])).items) same it
  by (declaration.Element name text) same = subst (λ d. IsDeclarationItem old.layout (turned_on table.layout (item ∷ [])) d (record_of table.layout (item ∷ [])).items) same it
  by (declaration.Equivalence name symbol) same = subst (λ d. IsDeclarationItem old.layout (turned_on table.layout (item ∷ [])) d (record_of table.layout (item ∷ [])).items) same it

-- that of a section is
pub section_listed : (table : TableValue) (name after : List ℕ) (items : List Item) → IsPreparedSection table.layout name after items
    → AreOwnItems table (turned_on table.layout items) (statement.SectionAfter name after) (record_of table.layout items).items
unfolding AreOwnItems items_on placed_items
section_listed table name after items prepared =
    let layout = table.layout in
    let to = Some (After prepared.1) in
    let item : Item = record { node = prepared.0; old = to; new = to; weights = None } in
    let place = stands 0 layout.rings prepared.0 (both_true _ _ prepared.2).0 in
    let at : placed_at to layout prepared.0 ≡ place_from 0 layout.rings prepared.0 = placed_standing layout prepared.0 to place.0 refl place.1 ∙ sym place.1 in
    subst (λ is. AreOwnItems table (turned_on layout is) (statement.SectionAfter name after) (record_of layout is).items) (sym prepared.4)
    (prepared.0, prepared.1, prepared.2, prepared.3, ap (λ had. record { node = prepared.0; old = had; new = to; weights = None } ∷ []) at)

-- an identifier is placed whose node stands
placed_by : (table : TableValue) (id : Id) (node : NodeId) → IsTable table → has_key same_id ids_in table.layout id node ≡ true → is_placed (collation table) id ≡ true
unfolding collation
placed_by table id node is has = key_placed table.layout is.sound.shaped id node has

-- that of an order line outside a block is
pub reweight_listed : (table : TableValue) (line : OrderLine) (items : List Item) → IsTable table → IsPreparedReweight (collation table) table.layout line items
    → AreOwnItems table (turned_on table.layout items) (statement.Reweight line) (record_of table.layout items).items
unfolding AreOwnItems items_on placed_items
reweight_listed table line items is prepared =
    let layout = table.layout in
    let levels = length (collation table).rules in
    let weights = weights_to levels line.id line.weights in
    let stays : Item = record { node = prepared.0; old = Some (After prepared.0); new = None; weights = weights } in
    let bare = ready table (without_weights line.id) stays is.sound
    (subst (λ b. IsNodeFor b (collation table) layout line.id stays) (sym (placed_by table line.id prepared.0 is prepared.1)) (refl, prepared.1)) in
    subst (λ is. AreOwnItems table (turned_on layout is) (statement.Reweight line) (record_of layout is).items) (sym prepared.2) (
      prepared.0,
      prepared.1,
      ap (λ ws. record { node = prepared.0; old = None; new = None; weights = ws } ∷ [])
          (gave (collation table) levels line.id line.weights weights (content_of layout prepared.0) bare.entry refl bare.own.is (bare.kept refl)),
    )
