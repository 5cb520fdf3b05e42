-- Each element is put in, and where none is left, all are.
use Rattle.std.proofs.Common.{◌∙◌, ◌++◌, ℕ, ap₂, arith}
use Rattle.coll_nodes.specs.Table.{Collation}
use Rattle.coll_elements.specs.Rank.{known_rank}
use Rattle.coll_ranks.specs.TextWeights.{element_row}
use Rattle.coll_ranks.proofs.TextRows.{text_elements_go_on, rows_go_on, text_elements_done, rows_done}
use Rattle.coll_ranks.proofs.text_weights.compiled_elements.Goals as goal

pub push_element-requires : goal.push_element-requires
push_element-requires c = omega (arith, c.loop-element.invariant.few, c.loop-element-test.true, c.requires)

pub loop-element-preserved : goal.loop-element-preserved
loop-element-preserved c =
    let added = c.in_ok-row.ensures.rows in
    record {
      few = omega (arith, c.loop-element.invariant.few, c.in_ok-row.ensures.few);
      text_elements = text_elements_go_on c.args.elements.now c.element-item.result c.loop-element.element-index c.loop-element.row c.in_ok-row.row c.loop-element.text_elements.items
          c.push_element.new.text_elements.items _
          c.loop-element-test.true c.element-item.is c.in_ok-row.ensures.text_elements c.loop-element.invariant.text_elements;
      levels = added.levels_are ∙ c.loop-element.invariant.levels;
      own = added.own_are ∙ c.loop-element.invariant.own;
      lists = rows_go_on (element_row (known_rank c.args.ranks.now) c.args.weights.now.levels) c.args.elements.now c.element-item.result c.loop-element.element-index c.loop-element.weights.lists
          c.push_element.new.weights.lists _ c.loop-element-test.true c.element-item.is
          (added.lists_are ∙ ap₂ (λ (t : Collation) (n : ℕ). c.loop-element.weights.lists ++ element_row (known_rank t) n c.element-item.result) c.loop-element.invariant.same
          c.loop-element.invariant.levels) c.loop-element.invariant.lists;
      same = c.push_element.ensures.same ∙ c.loop-element.invariant.same;
    }

pub returns-clause-text_elements : goal.returns-clause-text_elements
returns-clause-text_elements c =
    text_elements_done c.args.elements.now c.loop-element.element-index c.loop-element.row c.loop-element.text_elements.items _ c.loop-element-test.false c.loop-element.invariant.text_elements

pub returns-clause-rows : goal.returns-clause-rows
returns-clause-rows c = record {
  levels_are = c.loop-element.invariant.levels;
  lists_are = rows_done (element_row (known_rank c.args.ranks.now) c.args.weights.now.levels) c.args.elements.now c.loop-element.element-index c.loop-element.weights.lists _ c.loop-element-test.false
      c.loop-element.invariant.lists;
  own_are = c.loop-element.invariant.own;
}
