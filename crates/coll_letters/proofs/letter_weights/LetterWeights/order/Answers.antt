-- The first level that decides is the order, and where none does, or the texts are the same, it is `Equal`.
use Rattle.std.proofs.Common.{◌∙◌, ap, arith, chars, refl, sym}
use Rattle.std.proofs.lemmas.Slice.Eq.{bytes_eq-Decides}
use Rattle.coll_nodes.specs.TableLayout.{collation}
use Rattle.coll_elements.specs.Elements.{elements_of}
use Rattle.coll_ranks.specs.WeightNumbers.{numbers_at}
use Rattle.coll_key.proofs.OrderLemmas.{order_undecided}
use Rattle.coll_letters.proofs.LetterLemmas.{found_decides, found_goes_on, order_by_levels, same_texts}
use Rattle.coll_letters.proofs.letter_weights.LetterWeights.order.Goals as goal

pub returns-then-eq : goal.returns-then-eq
returns-then-eq c =
    same_texts (collation c.args.table.now) c.lemma_well_formed.ensures.well_formed (chars c.args.text.now) (chars c.args.other.now)
    (ap chars ((bytes_eq-Decides c.args.text.now c.args.other.now).0 (sym c.eq.ensures ∙ c.if-eq.true)))

pub loop-level-init : goal.loop-level-init
loop-level-init c = record {
  levels = refl;
  alike = λ level within. absurd (omega (arith, within));
}

pub loop-level-preserved : goal.loop-level-preserved
loop-level-preserved c =
    let table = collation c.args.table.now in
    record {
      levels = found_goes_on (numbers_at table) (elements_of table (chars c.args.text.now)) (elements_of table (chars c.args.other.now)) c.loop-level.level c.rules-rule-items.result.now table.rules _
          c.in_ok-order.field-0 c.in-Some.order _ c.in-Some.is c.rules-rule-items.ensures c.loop-level-test.true c.if-is_ne.ensures c.in_ok-order.ensures c.loop-level.invariant.levels;
      alike = c.alike_behind-alike.ensures;
    }

pub returns-then-is_ne : goal.returns-then-is_ne
returns-then-is_ne c =
    let table = collation c.args.table.now in
    let decided = found_decides (numbers_at table) (elements_of table (chars c.args.text.now)) (elements_of table (chars c.args.other.now)) c.loop-level.level c.rules-rule-items.result.now table.rules _
    c.in_ok-order.field-0 c.in-Some.order c.in-Some.is c.rules-rule-items.ensures c.loop-level-test.true c.if-is_ne.ensures c.in_ok-order.ensures in
    sym (order_by_levels table (chars c.args.text.now) (chars c.args.other.now) ∙ c.loop-level.invariant.levels ∙ decided)

pub returns : goal.returns
returns c =
    let table = collation c.args.table.now in
    let undecided = order_undecided (numbers_at table) (elements_of table (chars c.args.text.now)) (elements_of table (chars c.args.other.now)) c.loop-level.level c.rules-rule-items.result.now table.rules
    c.rules-rule-items.ensures c.loop-level-test.false in
    sym (order_by_levels table (chars c.args.text.now) (chars c.args.other.now) ∙ c.loop-level.invariant.levels ∙ undecided)
