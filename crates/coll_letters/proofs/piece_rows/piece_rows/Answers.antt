-- Each character and each string has the row of its element.
use Rattle.std.proofs.Common.{◌≡◌, arith, chars, get_or, ap, ◌∙◌, rules}
use Rattle.coll_nodes.specs.TableLayout.{collation}
use Rattle.coll_ranks.specs.LevelWeights.{row_of}
use Rattle.coll_ranks.specs.RankLists.{WeightsValue}
use Rattle.coll_ranks.specs.declared.text_elements.TextElement.{TextElement}
use Rattle.coll_ranks.specs.declared.text_elements.TextElement.TheVariants.{Placed}
use Rattle.coll_letters.proofs.PieceRowLemmas.{pieces_go_on}
use Rattle.coll_letters.proofs.piece_rows.piece_rows.Goals as goal

pub loop-element-init : goal.loop-element-init
loop-element-init c =
    let table = collation c.args.table.now in
    let weights = c.args.made.now.weights in
    record {
      text = search rules;
      so_far = record {
        rows = record { letters = search rules; strings = c.new.ensures table weights };
        later = c.requires.numbers;
      };
    }

pub loop-element-preserved : goal.loop-element-preserved
loop-element-preserved c =
    let table = collation c.args.table.now in
    let weights = c.args.made.now.weights in
    let same : c.elements-element-items.result.now ≡ c.args.made.now.elements = c.elements-element-items.ensures in
    let none : TextElement = Placed 0 in
    let element : TextElement = get_or c.elements-element-items.result.now c.loop-element.element-index none in
    record {
      text = search rules;
      so_far = pieces_go_on table weights c.args.made.now.elements c.elements-element-items.result.now c.loop-element.element-index none c.loop-element.rows c.put_piece.new.rows c.in-Some.piece
          c.row-row.result (chars c.loop-element.left.now) c.in_ok-left.left.now same (omega (arith, c.loop-element-test.true)) c.in-Some.ensures
          (c.row-row.ensures ∙ ap (λ (w : WeightsValue). row_of w element) c.weights-weights.ensures) (c.in_ok-left.ensures.rows weights) c.in_ok-left.ensures.rest
          c.loop-element.invariant.so_far;
    }

pub returns : goal.returns
returns c = c.loop-element.invariant.so_far.rows

pub returns-in_default : goal.returns-in_default
returns-in_default c = c.loop-element.invariant.so_far.rows
