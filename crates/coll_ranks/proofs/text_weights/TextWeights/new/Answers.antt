-- The elements by their rows, and the rows of their weights, have the numbers of the elements.
use Rattle.std.proofs.Common.{List, length, chars, sym, ap, subst, arith, ◌∙◌}
use Rattle.coll_syntax.specs.declared.identifiers.Id.TheVariants.{Undefined}
use Rattle.coll_nodes.specs.Table.{Collation}
use Rattle.coll_nodes.specs.TableLayout.{collation}
use Rattle.coll_elements.specs.Elements.{elements_of}
use Rattle.coll_elements.specs.ElementEntries.{AreElementsOf}
use Rattle.coll_elements.specs.declared.element_entries.ElementEntry.{ElementEntry}
use Rattle.coll_elements.specs.Rank.{known_rank}
use Rattle.coll_ranks.specs.Ranks.{compiled_row_by}
use Rattle.coll_ranks.specs.WeightNumbers.{undefined_weights}
use Rattle.coll_ranks.proofs.TextRows.{few_elements, few_text_elements, text_numbers}
use Rattle.coll_ranks.proofs.text_weights.TextWeights.new.Goals as goal

pub compiled_undefined-requires : goal.compiled_undefined-requires
compiled_undefined-requires c =
    let few = few_elements (collation c.args.table.now) (chars c.args.text.now) c.in_ok-elements.elements.items c.in_ok-elements.ensures in
    record { few = omega (arith, few, c.len.ensures, c.in_ok-elements.elements.ok.0, c.requires.few) }

pub compiled_elements-requires : goal.compiled_elements-requires
compiled_elements-requires c =
    let few = few_elements (collation c.args.table.now) (chars c.args.text.now) c.in_ok-elements.elements.items c.in_ok-elements.ensures in
    omega (arith, few, c.deref.ensures.len, c.in_ok-elements.elements.ok.0, c.requires.few)

pub returns-clause-numbers : goal.returns-clause-numbers
returns-clause-numbers c =
    let table = collation c.args.table.now in
    let are = subst (λ (elements : List ElementEntry). AreElementsOf table (elements_of table (chars c.args.text.now)) elements) (sym c.deref.ensures.value) c.in_ok-elements.ensures in
    let undefined = c.in_ok-weights.ensures in
    let lists = undefined.lists ∙ ap (λ (t : Collation). compiled_row_by (known_rank t) (length table.rules) Undefined (undefined_weights table)) (sym c.new-recent.ensures) in
    text_numbers table c.new-recent.result c.in_ok-weights.weights c.compiled_elements.new.weights (chars c.args.text.now) c.deref.result.now c.in_ok-text_elements.text_elements.items are
    (c.new-recent.ensures ∙ c.new-ranks.ensures) undefined.levels lists undefined.own c.in_ok-text_elements.ensures.rows c.in_ok-text_elements.ensures.text_elements

pub returns-clause-count : goal.returns-clause-count
returns-clause-count c =
    let table = collation c.args.table.now in
    let are = subst (λ (elements : List ElementEntry). AreElementsOf table (elements_of table (chars c.args.text.now)) elements) (sym c.deref.ensures.value) c.in_ok-elements.ensures in
    few_text_elements table (chars c.args.text.now) c.deref.result.now c.in_ok-text_elements.text_elements.items are c.in_ok-text_elements.ensures.text_elements
