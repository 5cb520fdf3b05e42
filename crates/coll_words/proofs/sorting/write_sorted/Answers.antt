-- The words are sorted, and then written, or memory is refused.
use Rattle.std.proofs.Common.{List, Ok, Err, subst}
use Rattle.std.specs.Io.KnownBytes.{Appends}
use Rattle.coll_devices.specs.Devices.{AppendsPrefix}
use Rattle.coll_nodes.specs.TableLayout.{collation}
use Rattle.coll_word_lists.specs.KeyedWords.{KeyedWord, texts_of}
use Rattle.coll_word_lists.specs.Words.{written_words}
use Rattle.coll_word_lists.proofs.SortCases.{writes}
use Rattle.coll_words.proofs.sorting.write_sorted.Goals as goal

pub returns-in-Ok-wrote-clause-run : goal.returns-in-Ok-wrote-clause-run
returns-in-Ok-wrote-clause-run g c =
    let taken = g.W.Sink.taken in
    writes (collation c.args.table.now) (texts_of c.args.words.now) (texts_of c.in-Ok.lent.items) (taken c.args.output.now) (taken c.write_lent_words-wrote.new.out) (Ok tt) c.in-Ok.ensures
    (subst (λ (sorted : List KeyedWord). Appends (taken c.args.output.now) (taken c.write_lent_words-wrote.new.out) (written_words (texts_of sorted))) c.deref.ensures.value c.in-Ok-wrote.ensures.sent)
    tt

pub returns-in-Err-wrote-clause-run : goal.returns-in-Err-wrote-clause-run
returns-in-Err-wrote-clause-run g c =
    let taken = g.W.Sink.taken in
    writes (collation c.args.table.now) (texts_of c.args.words.now) (texts_of c.in-Ok.lent.items) (taken c.args.output.now) (taken c.write_lent_words-wrote.new.out) (Err c.fault_at.result) c.in-Ok.ensures
    (subst (λ (sorted : List KeyedWord). AppendsPrefix (taken c.args.output.now) (taken c.write_lent_words-wrote.new.out) (written_words (texts_of sorted))) c.deref.ensures.value c.in-Err-wrote.ensures.sent)
    c.fault_at.ensures
