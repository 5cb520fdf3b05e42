-- A statement that a table accepts, once it is prepared and carried out.
use Rattle.std.proofs.Common.{◌≡◌, ◌≤◌, ℕ, Bool, true, false, List, [], ◌∷◌, ◌++◌, Some, None, Ok, IsOk, length, sym, ap, subst, ◌∙◌, refl, arith}
use Rattle.std.proofs.lemmas.List.Folds.{list_any-append}
use Rattle.coll_order.specs.Layout.{is_in}
use Rattle.coll_order.specs.Lists.{same_node, has_node}
use Rattle.coll_order.specs.declared.places.NodeId.{NodeId}
use Rattle.coll_order.specs.declared.places.Place.TheVariants.{After}
use Rattle.coll_order.proofs.ListLemmas.{neither, nor, or_first}
use Rattle.coll_order.proofs.Sameness.{by_test, not_both, same_node_is, same_node_itself}
use Rattle.coll_syntax.specs.Proper.{IsProper}
use Rattle.coll_syntax.specs.declared.identifiers.Id.{Id}
use Rattle.coll_syntax.specs.declared.statements.OrderLine.{OrderLine}
use Rattle.coll_syntax.specs.declared.statements.Statement.{Statement}
use Rattle.coll_syntax.specs.declared.statements.Statement.TheVariants as statement
use Rattle.coll_table.proofs.AcceptedStatements.{block_accepted, reweight_accepted, section_accepted, unless_accepted}
use Rattle.coll_table.proofs.DeltaTables.{own_delta_well_formed}
use Rattle.coll_table.proofs.ItemDeclarations.{declaration_done}
use Rattle.coll_table.proofs.ItemLines.{block_done}
use Rattle.coll_table.proofs.ItemSections.{section_done}
use Rattle.coll_table.proofs.ItemWeights.{reweight_done}
use Rattle.coll_table.proofs.ItemsDone.{AreDone, RecordDone, added_record, done_record, length_placed, others_still, record_of, same_without, with_layout}
use Rattle.coll_table.proofs.RecordTurns.{records_turn}
use Rattle.coll_table.proofs.TurningBack.{length_on}
use Rattle.coll_table.proofs.GrowthLemmas.{collation_grown, extends, has_nodes, none_added, same_rings, was_there}
use Rattle.coll_nodes.proofs.LayoutReads.{both_true}
use Rattle.coll_table.proofs.PreparedLemmas.{as_many}
use Rattle.coll_table.specs.Applied.{Applied, declaring}
use Rattle.coll_table.specs.Delta.{all_moved, declaration_delta, declaration_refusal, own_delta, reweighted}
use Rattle.coll_table.specs.Growth.{AddsLoose}
use Rattle.coll_nodes.specs.Bodies.{IsLooseNode}
use Rattle.coll_nodes.specs.Linking.{end_of_declarations}
use Rattle.coll_nodes.specs.Placement.{section_moved}
use Rattle.coll_table.specs.Prepared.{ArePrepared, IsNodeFor, IsPreparedBlock, IsPreparedDeclaration, IsPreparedReweight, IsPreparedSection, weights_to}
use Rattle.coll_table.specs.Record.{Extends, Fits, HasNodesOf, IsSame, KeepsLoose, added_by, added_nodes, named_nodes, statement_items, own_steps, turn, without_nodes}
use Rattle.coll_nodes.specs.SoundLayouts.{IsTable}
use Rattle.coll_nodes.specs.Table.{Collation, is_placed}
use Rattle.coll_nodes.specs.TableLayout.{TableLayout, TableValue, collation, content_of}
use Rattle.coll_table.specs.StatementItems.{AreOwnItems}
use Rattle.coll_table.specs.Turning.{placed_items, steps_of, turned_on}
use Rattle.coll_nodes.specs.WellFormed.{IsWellFormed}
use Rattle.coll_nodes.specs.declared.declarations.Declaration.{Declaration}
use Rattle.coll_nodes.specs.declared.declarations.Declaration.TheVariants as declaration
use Rattle.coll_table.specs.declared.records.Item.{Item}
use Rattle.coll_table.specs.declared.records.Record.{Record}

-- items name nodes that stand in rings, or that they add
abbrev pub NameTheirs : TableLayout → List Item → Type 0
NameTheirs layout items = (node : NodeId) → is_in layout.rings node ≡ false → has_node (added_nodes items) node ≡ false → has_node (named_nodes items) node ≡ false

-- a statement that a table accepts is prepared: the items can be done, and make of the table what the statement says
pub record IsReady (table : TableValue) (s : Statement) (items : List Item) : Type 0 where
  pub after : Collation
  pub accepted : own_delta (collation table) s ≡ Ok after
  pub done : AreDone table items after (own_steps (collation table) s)
  pub well_formed : IsWellFormed after
  pub few : length items ≤ 4096
  pub counted : length items ≡ statement_items s
  pub theirs : NameTheirs table.layout items

-- the table that results is well formed
pub ready_well_formed : (table : TableValue) (s : Statement) (items : List Item) → IsReady table s items → IsWellFormed (collation (with_layout table (turned_on table.layout items)))
ready_well_formed table s items ready = subst IsWellFormed (sym ready.done.made) ready.well_formed

-- a node that stands in a ring differs from one that doesn't
stands_apart : (layout : TableLayout) (node other : NodeId) → is_in layout.rings node ≡ false → is_in layout.rings other ≡ true → same_node node other ≡ false
stands_apart layout node other apart linked =
    by_test (λ b. same_node node other ≡ b → b ≡ false) (same_node node other)
    (λ on e. not_both (subst (λ n. is_in layout.rings n ≡ true) (sym (same_node_is node other e)) linked) apart) (λ off e. refl) refl

module _ (old table new : TableValue) (s : Statement) (items : List Item) (kept : Record) (is : IsTable table) (adds : AddsLoose old table (added_nodes items)) (ready : IsReady table s items)
    (rules : new.rules ≡ table.rules) (layout : new.layout ≡ turned_on table.layout items) (kept_is : kept ≡ record_of table.layout items) where
  record_done : RecordDone table new items (own_steps (collation table) s)
  record_done = done_record records_turn table new items ready.after (own_steps (collation table) s) is ready.done ready.well_formed ready.few rules layout

  same : collation table ≡ collation old
  same = collation_grown old table (added_nodes items) adds

  table_is : collation new ≡ ready.after
  unfolding collation
  table_is = rw (rules, layout) ready.done.made

  keeps_loose : KeepsLoose old.layout new.layout
  keeps_loose node it apart at =
      let unlinked : is_in table.layout.rings node ≡ false = ap (λ rings. is_in rings node) (same_rings old table (added_nodes items) adds) ∙ apart in
      let unnamed = ready.theirs node unlinked (was_there old table (added_nodes items) adds node it at) in
      let still = others_still table.layout items node unnamed in (
        ap (λ (l : TableLayout). is_in l.rings node) layout ∙ (still.0 ∙ unlinked),
        ap (λ (l : TableLayout). content_of l node) layout ∙ (still.1 ∙ has_nodes old table (added_nodes items) adds node it at),
      )

  back : IsSame (turn new kept) table
  back = subst (λ k. IsSame (turn new k) table) (sym kept_is) record_done.back

  turns_back : Extends (turn new kept) old
  turns_back =
      let wide = extends old table (added_nodes items) adds in
      record {
        rules = back.rules ∙ wide.rules;
        rings = ap (λ (l : TableLayout). l.rings) back.layout ∙ wide.rings;
        nodes = subst (λ (l : TableLayout). HasNodesOf l old.layout) (sym back.layout) wide.nodes;
      }

  adds_theirs : IsSame (without_nodes (turn new kept) (added_nodes kept.items)) old
  adds_theirs =
      let theirs : added_nodes kept.items ≡ added_nodes items = ap (λ (k : Record). added_nodes k.items) kept_is ∙ added_record table.layout items in
      subst (λ nodes. IsSame (without_nodes (turn new kept) nodes) old) (sym theirs)
      (subst (λ t. IsSame (without_nodes (turn new kept) (added_nodes items)) t) adds.dropped (same_without (turn new kept) table (added_nodes items) back))

  -- a statement that is ready is applied
  pub applied : AreOwnItems old (turned_on table.layout items) s (record_of table.layout items).items → Applied old new s kept
  applied listed = record {
    ok = ap (λ t. own_delta t s) (sym same) ∙ (ready.accepted ∙ ap Ok (sym table_is));
    in_force = ap (λ (k : Record). k.undone) kept_is;
    fits = subst (λ k. Fits new k) (sym kept_is) record_done.fits;
    back = turns_back;
    added = adds_theirs;
    items = ap (λ (k : Record). length k.items) kept_is ∙ (length_on table.layout (placed_items table.layout items) ∙ (length_placed table.layout items ∙ ready.counted));
    listed = subst (λ l. AreOwnItems old l s kept.items) (sym layout) (subst (λ (k : Record). AreOwnItems old (turned_on table.layout items) s k.items) (sym kept_is) listed);
    steps = ap (λ (k : Record). steps_of k.items) kept_is ∙ (record_done.steps ∙ ap (λ t. own_steps t s) same);
    loose = keeps_loose;
  }

-- the items of a block name nodes of entries, and such as they add
block_theirs : (table : Collation) (layout : TableLayout) (before : NodeId) (lines : List OrderLine) (items : List Item) → ArePrepared table layout before lines items → NameTheirs layout items
unfolding ArePrepared added_nodes
block_theirs table layout before [] [] prepared node apart new = refl
block_theirs table layout before [] (item ∷ items) prepared node apart new = absurd prepared
block_theirs table layout before (line ∷ lines) [] prepared node apart new = refl
block_theirs table layout before (line ∷ lines) (item ∷ items) prepared node apart new =
    let parts = neither _ _ (sym (list_any-append (same_node node) (added_by item.old item.new item.node) (added_nodes items)) ∙ new) in
    nor (same_node node item.node) (has_node (named_nodes items) node)
    (by_placed (is_placed table line.id) prepared.0.node parts.0) (block_theirs table layout item.node lines items prepared.1 node apart parts.1) where
      by_placed : (placed : Bool) → IsNodeFor placed table layout line.id item → has_node (added_by item.old item.new item.node) node ≡ false → same_node node item.node ≡ false
      by_placed true is off = stands_apart layout node item.node apart (both_true _ _ is.1).0
      by_placed false is off =
          let added : added_by item.old item.new item.node ≡ item.node ∷ [] = ap (λ had. added_by had item.new item.node) is.0 ∙ ap (λ gets. added_by None gets item.node) prepared.0.goes in
          (neither (same_node node item.node) false (sym (ap (λ nodes. has_node nodes node) added) ∙ off)).0

-- a block that is accepted, and prepared, is ready
pub block_ready : (old table : TableValue) (target : Id) (lines : List OrderLine) (items : List Item) → IsTable table → AddsLoose old table (added_nodes items)
    → IsProper (statement.Block target lines) → IsOk (own_delta (collation old) (statement.Block target lines)) → IsPreparedBlock (collation old) table.layout target lines items
    → IsReady table (statement.Block target lines) items
unfolding own_delta statement_items own_steps
block_ready old table target lines items is adds proper ok prepared_old =
    let same : collation old ≡ collation table = sym (collation_grown old table (added_nodes items) adds) in
    let prepared : IsPreparedBlock (collation table) table.layout target lines items = subst (λ t. IsPreparedBlock t table.layout target lines items) same prepared_old in
    let accepted = block_accepted (collation table) target lines (subst (λ t. IsOk (own_delta t (statement.Block target lines))) same ok) in
    record {
      after = all_moved (collation table) target lines;
      accepted = accepted.result;
      done = block_done table target prepared.0 lines items is.sound prepared.1 accepted.passes prepared.2;
      well_formed = own_delta_well_formed (collation table) (all_moved (collation table) target lines) (statement.Block target lines) is.well_formed proper accepted.result;
      few = subst (λ n. n ≤ 4096) (sym (as_many (collation table) table.layout prepared.0 lines items prepared.2)) proper.1;
      counted = as_many (collation table) table.layout prepared.0 lines items prepared.2;
      theirs = block_theirs (collation table) table.layout prepared.0 lines items prepared.2;
    }

-- what a statement that declares makes of a table
declares : (table : Collation) (new : Declaration) → own_delta table (declaring new) ≡ declaration_delta table new
unfolding own_delta
declares table (declaration.Symbol name) = refl
declares table (declaration.Element name text) = refl
declares table (declaration.Equivalence name symbol) = refl

-- it takes one step
takes_one : (table : Collation) (new : Declaration) → own_steps table (declaring new) ≡ 1
unfolding own_steps
takes_one table (declaration.Symbol name) = refl
takes_one table (declaration.Element name text) = refl
takes_one table (declaration.Equivalence name symbol) = refl

-- and has one item
has_one : (new : Declaration) → statement_items (declaring new) ≡ 1
unfolding statement_items
has_one (declaration.Symbol name) = refl
has_one (declaration.Element name text) = refl
has_one (declaration.Equivalence name symbol) = refl

-- a declaration that is accepted, and prepared, is ready
pub declaration_ready : (old table : TableValue) (new : Declaration) (items : List Item) → IsTable table → AddsLoose old table (added_nodes items)
    → IsProper (declaring new) → IsOk (own_delta (collation old) (declaring new)) → IsPreparedDeclaration table.layout new items → IsReady table (declaring new) items
unfolding added_nodes
declaration_ready old table new items is adds_all proper ok prepared =
    let s : Statement = declaring new in
    let same : collation old ≡ collation table = sym (collation_grown old table (added_nodes items) adds_all) in
    let item : Item = record { node = prepared.0; old = None; new = Some (end_of_declarations table.layout); weights = None } in
    let adds : AddsLoose old table (prepared.0 ∷ []) = subst (λ (is : List Item). AddsLoose old table (added_nodes is)) prepared.2 adds_all in
    let after : Collation = record (collation table) { declared = (collation table).declared ++ new ∷ [] } in
    let accepted = unless_accepted (declaration_refusal (collation table) new) after (subst IsOk (ap (λ t. own_delta t s) same ∙ declares (collation table) new) ok) in
    let result : own_delta (collation table) s ≡ Ok after = declares (collation table) new ∙ accepted.1 in
    let loose : IsLooseNode table.layout prepared.0 = adds.loose.loose prepared.0 (or_first (same_node prepared.0 prepared.0) false (same_node_itself prepared.0)) in
    subst (λ is. IsReady table s is) (sym prepared.2) (record {
      after = after;
      accepted = result;
      done = subst (λ n. AreDone table (item ∷ []) after n) (sym (takes_one (collation table) new)) (declaration_done table new item is.sound loose prepared.1 refl refl refl accepted.0);
      well_formed = own_delta_well_formed (collation table) after s is.well_formed proper result;
      few = omega arith;
      counted = sym (has_one new);
      theirs = λ node apart added. added;
    })

-- a section move that is accepted, and prepared, is ready
pub section_ready : (table : TableValue) (name after : List ℕ) (items : List Item) → IsTable table
    → IsProper (statement.SectionAfter name after) → IsOk (own_delta (collation table) (statement.SectionAfter name after)) → IsPreparedSection table.layout name after items
    → IsReady table (statement.SectionAfter name after) items
unfolding own_delta statement_items own_steps
section_ready table name after items is proper ok prepared =
    let item : Item = record { node = prepared.0; old = Some (After prepared.1); new = Some (After prepared.1); weights = None } in
    let moved : Collation = record (collation table) { sections = section_moved (collation table).sections name after } in
    let accepted = section_accepted (collation table) name after ok in
    subst (λ is. IsReady table (statement.SectionAfter name after) is) (sym prepared.4) (record {
      after = moved;
      accepted = accepted.result;
      done = section_done table name after item prepared.1 is.sound prepared.2 prepared.3 refl refl refl accepted.apart;
      well_formed = own_delta_well_formed (collation table) moved (statement.SectionAfter name after) is.well_formed proper accepted.result;
      few = omega arith;
      counted = refl;
      theirs = λ node apart added. nor (same_node node prepared.0) false (stands_apart table.layout node prepared.0 apart (both_true _ _ prepared.2).0) refl;
    })

-- it adds no nodes
pub section_adds : (table : TableValue) (name after : List ℕ) (items : List Item) → IsPreparedSection table.layout name after items → AddsLoose table table (added_nodes items)
unfolding added_nodes
section_adds table name after items prepared = subst (λ (is : List Item). AddsLoose table table (added_nodes is)) (sym prepared.4) (none_added table)

-- the rules that a layout's table has
rules_are : (table : TableValue) → (collation table).rules ≡ table.rules
unfolding collation
rules_are table = refl

-- an order line outside a block that is accepted, and prepared, is ready
pub reweight_ready : (table : TableValue) (line : OrderLine) (items : List Item) → IsTable table
    → IsProper (statement.Reweight line) → IsOk (own_delta (collation table) (statement.Reweight line)) → IsPreparedReweight (collation table) table.layout line items
    → IsReady table (statement.Reweight line) items
unfolding own_delta statement_items own_steps
reweight_ready table line items is proper ok prepared =
    let item : Item = record { node = prepared.0; old = None; new = None; weights = weights_to (length table.rules) line.id line.weights } in
    let accepted = reweight_accepted (collation table) line ok in
    subst (λ is. IsReady table (statement.Reweight line) is)
    (sym (prepared.2 ∙ ap (λ rules. record { node = prepared.0; old = None; new = None; weights = weights_to (length rules) line.id line.weights } ∷ []) (rules_are table))) (record {
      after = reweighted (collation table) line;
      accepted = accepted.result;
      done = reweight_done table line item is.sound prepared.1 refl refl refl accepted.passes;
      well_formed = own_delta_well_formed (collation table) (reweighted (collation table) line) (statement.Reweight line) is.well_formed proper accepted.result;
      few = omega arith;
      counted = refl;
      theirs = λ node apart added. nor (same_node node prepared.0) false (stands_apart table.layout node prepared.0 apart (both_true _ _ prepared.1).0) refl;
    })

-- it adds no nodes
pub reweight_adds : (table : TableValue) (line : OrderLine) (items : List Item) → IsPreparedReweight (collation table) table.layout line items → AddsLoose table table (added_nodes items)
unfolding added_nodes
reweight_adds table line items prepared = subst (λ (is : List Item). AddsLoose table table (added_nodes is)) (sym prepared.2) (none_added table)
