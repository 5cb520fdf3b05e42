-- Each number is one part.
use Rattle.std.proofs.Common.{◌+◌, ◌&&◌, not, drop, get_or, ◌∙◌, rules}
use Rattle.std.specs.List.{flat_map}
use Rattle.coll_key.specs.WrittenKey.{before_space, word_of, words_of}
use Rattle.coll_key.proofs.WritingSteps.{left_prefix, left_less}
use Rattle.coll_key.proofs.WrittenKeys.{numbers_left}
use Rattle.coll_key.proofs.written_keys.write_numbers.Goals as goal

pub returns-in-Err : goal.returns-in-Err
returns-in-Err g c =
    let taken = g.W.Sink.taken in
    let numbers = c.args.numbers.now in
    let i = c.loop-number.number-index in
    let position = c.args.position in
    let at = c.loop-number.at_position in
    record {
      sent = left_prefix (flat_map before_space (words_of position position numbers)) (flat_map before_space (words_of position at (drop i numbers))) (before_space (word_of at (get_or numbers i 0)))
          (flat_map before_space (words_of position (position && not at) (drop (i + 1) numbers))) (taken c.args.out.now) (taken c.loop-number.out) (taken c.write_word.new.out)
          (numbers_left position at numbers i c.loop-number-test.true) c.loop-number.invariant.sent c.in-Err.ensures.sent;
      errors = search rules;
    }

pub loop-number-preserved : goal.loop-number-preserved
loop-number-preserved g c =
    let taken = g.W.Sink.taken in
    let numbers = c.args.numbers.now in
    let i = c.loop-number.number-index in
    let position = c.args.position in
    let at = c.loop-number.at_position in
    record {
      sent = rw c.is_next_position-at_position.ensures
          (left_less (flat_map before_space (words_of position position numbers)) (flat_map before_space (words_of position at (drop i numbers))) (before_space (word_of at (get_or numbers i 0)))
          (flat_map before_space (words_of position (position && not at) (drop (i + 1) numbers))) (taken c.args.out.now) (taken c.loop-number.out) (taken c.write_word.new.out)
          (numbers_left position at numbers i c.loop-number-test.true) c.loop-number.invariant.sent c.in_default.ensures.sent);
      count = c.in_default.ensures.errors ∙ c.loop-number.invariant.count;
    }
