-- Each word is one part.
use Rattle.std.proofs.Common.{◌∙◌, rules}
use Rattle.coll_word_lists.proofs.SortCases.{word_more, word_stops, words_end}
use Rattle.coll_word_lists.proofs.words.write_words.Goals as goal

pub returns-in-Err : goal.returns-in-Err
returns-in-Err g c =
    let taken = g.W.Sink.taken in
    record {
      sent = word_stops c.args.words.now c.loop-word.word-index (taken c.args.out.now) (taken c.loop-word.out) c.loop-word.invariant.sent c.word-item.result c.loop-word-test.true c.word-item.is
          (taken c.write_word.new.out) c.in-Err.ensures.sent;
      errors = search rules;
    }

pub loop-word-preserved : goal.loop-word-preserved
loop-word-preserved g c =
    let taken = g.W.Sink.taken in
    record {
      sent = word_more c.args.words.now c.loop-word.word-index (taken c.args.out.now) (taken c.loop-word.out) c.loop-word.invariant.sent c.word-item.result c.loop-word-test.true c.word-item.is
          (taken c.write_word.new.out) c.in_default.ensures.sent;
      count = c.in_default.ensures.errors ∙ c.loop-word.invariant.count;
    }

pub returns : goal.returns
returns g c =
    let taken = g.W.Sink.taken in
    record {
      sent = words_end c.args.words.now c.loop-word.word-index (taken c.args.out.now) (taken c.loop-word.out) c.loop-word.invariant.sent c.loop-word-test.false;
      errors = search rules;
    }
