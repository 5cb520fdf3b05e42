use Rattle.std.proofs.Common.{codes, rules}
use Rattle.std.specs.List.{flat_map}
use Rattle.coll_key.specs.WrittenKey.{joined_by_spaces, before_space, level_words, words_of}
use Rattle.coll_key.proofs.WrittenKeys.{level_parts}
use Rattle.coll_key.proofs.WritingSteps.{stops_first, writes_rest}
use Rattle.coll_key.proofs.written_keys.write_level.Goals as goal

pub returns-in_err-write_numbers : goal.returns-in_err-write_numbers
returns-in_err-write_numbers g c =
    let taken = g.W.Sink.taken in
    record {
      sent = stops_first (taken c.args.out.now) (taken c.write_numbers.new.out) (joined_by_spaces (level_words c.args.position c.args.level.now))
          (flat_map before_space (words_of c.args.position c.args.position c.args.level.now)) (codes "|") c.from_residual.result (level_parts c.args.position c.args.level.now)
          c.from_residual.ensures.0
          c.in_err-write_numbers.ensures.sent;
      errors = search rules;
    }

pub returns : goal.returns
returns g c =
    let taken = g.W.Sink.taken in
    record {
      sent = writes_rest (taken c.args.out.now) (taken c.write_numbers.new.out) (taken c.write_bytes.new.out) (joined_by_spaces (level_words c.args.position c.args.level.now))
          (flat_map before_space (words_of c.args.position c.args.position c.args.level.now)) (codes "|") c.write_bytes.result (level_parts c.args.position c.args.level.now)
          c.in_ok-write_numbers.ensures.sent c.write_bytes.ensures.sent;
      errors = search rules;
    }
