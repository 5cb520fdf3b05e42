use Rattle.std.proofs.Common.{◌≡◌, ◌∙◌, chars, false, sym}
use Rattle.coll_nodes.specs.TableLayout.{collation}
use Rattle.coll_key.specs.KeyLimits.{is_too_long}
use Rattle.coll_ranks.specs.Ranks.{elements_by_ranks, compiled_numbers}
use Rattle.coll_key.proofs.LevelLemmas.{few_by_ranks}
use Rattle.coll_key.proofs.OrderLemmas.{order_by_elements, order_decided, order_goes_on, order_undecided}
use Rattle.coll_key.proofs.comparison.compare.Goals as goal

pub level_order-requires-clause-few : goal.level_order-requires-clause-few
level_order-requires-clause-few c =
    let short : is_too_long (chars c.args.text.now) ≡ false = cc in
    few_by_ranks c.args.ranks.now (chars c.args.text.now) short

pub level_order-requires-clause-few_others : goal.level_order-requires-clause-few_others
level_order-requires-clause-few_others c =
    let short : is_too_long (chars c.args.other.now) ≡ false = cc in
    few_by_ranks c.args.ranks.now (chars c.args.other.now) short

pub loop-level-preserved : goal.loop-level-preserved
loop-level-preserved c =
    let ranks = c.args.ranks.now in
    order_goes_on (compiled_numbers ranks.compiled) (elements_by_ranks ranks (chars c.args.text.now)) (elements_by_ranks ranks (chars c.args.other.now)) c.loop-level.level
    c.rules-rule-items.result.now _ _
    c.in_ok-order.order _ c.rules-rule-items.ensures c.loop-level-test.true c.if-is_ne.ensures c.in_ok-order.ensures.ok c.loop-level.invariant

pub returns-then-is_ne-clause-ok : goal.returns-then-is_ne-clause-ok
returns-then-is_ne-clause-ok c =
    let ranks = c.args.ranks.now in
    let table = collation c.args.table.now in
    let elements = elements_by_ranks ranks (chars c.args.text.now) in
    let others = elements_by_ranks ranks (chars c.args.other.now) in
    let by_elements = order_by_elements ranks table c.requires c.lemma_well_formed.ensures.well_formed (chars c.args.text.now) (chars c.args.other.now) in
    let decided = order_decided (compiled_numbers ranks.compiled) elements others c.loop-level.level c.rules-rule-items.result.now table.rules _ c.in_ok-order.order c.rules-rule-items.ensures
    c.loop-level-test.true c.if-is_ne.ensures c.in_ok-order.ensures.ok in
    sym (by_elements ∙ c.loop-level.invariant ∙ decided)

pub returns-clause-ok : goal.returns-clause-ok
returns-clause-ok c =
    let ranks = c.args.ranks.now in
    let table = collation c.args.table.now in
    let elements = elements_by_ranks ranks (chars c.args.text.now) in
    let others = elements_by_ranks ranks (chars c.args.other.now) in
    let by_elements = order_by_elements ranks table c.requires c.lemma_well_formed.ensures.well_formed (chars c.args.text.now) (chars c.args.other.now) in
    let undecided = order_undecided (compiled_numbers ranks.compiled) elements others c.loop-level.level c.rules-rule-items.result.now table.rules c.rules-rule-items.ensures c.loop-level-test.false in
    sym (by_elements ∙ c.loop-level.invariant ∙ undecided)
