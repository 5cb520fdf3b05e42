use Rattle.std.proofs.Common.{rules}
use Rattle.std.specs.List.{flat_map}
use Rattle.coll_key.specs.WrittenKey.{behind_space, joined_by_spaces, key_words, level_words, written_key}
use Rattle.coll_key.proofs.WritingSteps.{stops_first, writes_rest}
use Rattle.coll_key.proofs.WrittenKeys.{key_parts}
use Rattle.coll_key.proofs.written_keys.write_key.Goals as goal

pub returns-in_err-write_level : goal.returns-in_err-write_level
returns-in_err-write_level g c =
    let taken = g.W.Sink.taken in
    let level = c.split_level.result.0.now in
    let left = c.split_level.result.1.now in
    let first = c.in-Some.first.now in
    let parts = key_parts c.args.rules.now c.in-Some.later.now first c.args.key.now level left c.in-Some.ensures.cases.0 c.split_level.ensures.level c.split_level.ensures.later in
    record {
      sent = stops_first (taken c.args.out.now) (taken c.write_level.new.out) (written_key c.args.rules.now c.args.key.now)
          (joined_by_spaces (level_words first.position level)) (flat_map behind_space (key_words c.in-Some.later.now left))
          c.from_residual.result parts c.from_residual.ensures.0 c.in_err-write_level.ensures.sent;
      errors = search rules;
    }

pub returns : goal.returns
returns g c =
    let taken = g.W.Sink.taken in
    let level = c.split_level.result.0.now in
    let left = c.split_level.result.1.now in
    let first = c.in-Some.first.now in
    let parts = key_parts c.args.rules.now c.in-Some.later.now first c.args.key.now level left c.in-Some.ensures.cases.0 c.split_level.ensures.level c.split_level.ensures.later in
    record {
      sent = writes_rest (taken c.args.out.now) (taken c.write_level.new.out) (taken c.write_later_levels.new.out) (written_key c.args.rules.now c.args.key.now)
          (joined_by_spaces (level_words first.position level)) (flat_map behind_space (key_words c.in-Some.later.now left)) c.write_later_levels.result parts c.in_ok-write_level.ensures.sent
          c.write_later_levels.ensures.sent;
      errors = search rules;
    }
