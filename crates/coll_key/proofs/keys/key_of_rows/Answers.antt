-- A key grows by the list of a level, and its end.
use Rattle.coll_ranks.specs.LevelWeights.{row_numbers}
use Rattle.coll_key.proofs.OrderLemmas.{key_goes_on, key_is_whole}
use Rattle.coll_key.proofs.keys.key_of_rows.Goals as goal

pub loop-level-preserved : goal.loop-level-preserved
loop-level-preserved c =
    key_goes_on (row_numbers c.args.weights.now) c.loop-level.level c.args.rules.now c.args.rows.now _ _ _ _ _ c.loop-level-test.true c.in_ok-key-2.ensures.list c.push_reserved.ensures.items
    c.loop-level.invariant

pub returns : goal.returns
returns c = key_is_whole (row_numbers c.args.weights.now) c.args.rows.now c.loop-level.level c.args.rules.now _ _ c.loop-level-test.false c.loop-level.invariant
