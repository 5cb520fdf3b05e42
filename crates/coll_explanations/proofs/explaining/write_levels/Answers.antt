-- A level passes or decides, or its line stops.
use Rattle.std.proofs.Common.{◌∙◌, rules}
use Rattle.std.specs.Prelude.{option_map}
use Rattle.coll_explanations.specs.ToldSteps.{apart_of}
use Rattle.coll_explanations.proofs.ExplanationParts.{level_passes, level_stops, none_apart}
use Rattle.coll_explanations.proofs.explaining.write_levels.Goals as goal

pub returns-in-Err : goal.returns-in-Err
returns-in-Err g c =
    let taken = g.W.Sink.taken in
    record {
      sent = level_stops c.args.weighing.now c.args.elements.now c.args.others.now c.args.rules.now c.loop-level.level _
          (option_map apart_of c.level_difference-difference.result) c.loop-level-test.true
          c.level_difference-difference.ensures (taken c.args.out.now) (taken c.loop-level.out) (taken c.write_level.new.out) c.loop-level.invariant.sent c.in-Err.ensures.sent;
      errors = search rules;
    }

pub loop-level-preserved : goal.loop-level-preserved
loop-level-preserved g c =
    let taken = g.W.Sink.taken in
    record {
      sent = level_passes c.args.weighing.now c.args.elements.now c.args.others.now c.args.rules.now c.loop-level.level _ (option_map apart_of c.level_difference-difference.result)
          c.loop-level-test.true c.level_difference-difference.ensures (taken c.args.out.now) (taken c.loop-level.out) (taken c.write_level.new.out) c.loop-level.invariant.sent
          c.in_default.ensures.sent (none_apart c.level_difference-difference.result c.if-is_some.ensures);
      count = c.in_default.ensures.errors ∙ c.loop-level.invariant.count;
    }
