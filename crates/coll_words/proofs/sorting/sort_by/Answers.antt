-- The words have these texts.
use Rattle.std.proofs.Common.{ℕ, List, subst}
use Rattle.coll_nodes.specs.TableLayout.{collation}
use Rattle.coll_word_lists.specs.SortRuns.{WritesSorted}
use Rattle.coll_words.proofs.sorting.sort_by.Goals as goal

pub returns-in-Ok-clause-run : goal.returns-in-Ok-clause-run
returns-in-Ok-clause-run g c =
    let taken = g.W.Sink.taken in
    subst (λ (texts : List (List ℕ)). WritesSorted (collation c.args.table.now) texts (taken c.args.output.now) (taken c.write_sorted-wrote.new.output) c.write_sorted-wrote.result) c.in-Ok.ensures.texts
    c.write_sorted-wrote.ensures.run
