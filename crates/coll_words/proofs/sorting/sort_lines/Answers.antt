-- The words are read, and then sorted and written, or there is a fault.
use Rattle.coll_nodes.specs.TableLayout.{collation}
use Rattle.coll_word_lists.proofs.SortCases.{unread_runs, written_runs, counts_read}
use Rattle.coll_words.proofs.sorting.sort_lines.Goals as goal

pub returns-in-Ok-clause-run : goal.returns-in-Ok-clause-run
returns-in-Ok-clause-run g c =
    let left = g.R.Source.left in
    let taken = g.W.Sink.taken in
    written_runs (collation c.args.table.now) (left c.args.input.now) (left c.read_stored_texts.new.input) (taken c.args.output.now) c.in-Ok.texts c.in-Ok.ensures.texts
    (taken c.sort_texts-wrote.new.output) c.sort_texts-wrote.result c.sort_texts-wrote.ensures.run

pub returns-in-Ok-clause-reads : goal.returns-in-Ok-clause-reads
returns-in-Ok-clause-reads g c =
    let failed = g.R.Source.failed in
    counts_read (failed c.args.input.now) (failed c.read_stored_texts.new.input) c.sort_texts-wrote.result c.in-Ok.ensures.reads c.sort_texts-wrote.ensures.reads

pub returns-in-Err-clause-run : goal.returns-in-Err-clause-run
returns-in-Err-clause-run g c =
    let left = g.R.Source.left in
    unread_runs (collation c.args.table.now) (left c.args.input.now) (left c.read_stored_texts.new.input) (g.W.Sink.taken c.args.output.now) c.in-Err.ended c.in-Err.ensures.fault
