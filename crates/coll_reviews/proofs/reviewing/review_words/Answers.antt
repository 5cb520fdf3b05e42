-- The words are read, and the delta file behind them, or there is a fault.
use Rattle.std.proofs.Common.{List, ap, map, sym, subst, ◌∙◌}
use Rattle.coll_nodes.specs.TableLayout.{collation}
use Rattle.coll_faults.specs.declared.faults.RunFault.{RunFault}
use Rattle.coll_reviews.specs.KeptWords.{kept_line}
use Rattle.coll_reviews.specs.ListedWords.{all_numbered}
use Rattle.coll_reviews.specs.ReviewSteps.{ListsWordsOf}
use Rattle.coll_reviews.specs.declared.numbered_words.KeptWord.{KeptWord}
use Rattle.coll_reviews.proofs.ReviewCases.{starved_reads, told_reviews, unread_reviews}
use Rattle.coll_reviews.proofs.reviewing.review_words.Goals as goal

pub returns-in-Ok-listed-clause-run : goal.returns-in-Ok-listed-clause-run
returns-in-Ok-listed-clause-run g c =
    let taken = g.W.Sink.taken in
    let left = g.R.Source.left in
    told_reviews (collation c.args.table) (g.D.Source.left c.args.delta.now) (g.D.Source.left c.review_delta-told.new.delta) (left c.args.words.now) (left c.list_words.new.input)
    (taken c.args.output.now) (all_numbered c.in-Ok-listed.list.items) c.new-review.result
    (subst (ListsWordsOf (collation c.args.table) (left c.args.words.now)) (sym (c.in-Ok-listed.ensures ∙ ap (λ (l : List KeptWord). map kept_line l) c.deref.ensures.value)) c.in-Ok.ensures.words) c.new-review.ensures.stands c.new-review.ensures.told
    (taken c.review_delta-told.new.output) c.review_delta-told.result c.review_delta-told.ensures.run

pub returns-in-Err-clause-run : goal.returns-in-Err-clause-run
returns-in-Err-clause-run g c =
    let left = g.R.Source.left in
    unread_reviews (collation c.args.table) (g.D.Source.left c.args.delta.now) (g.D.Source.left c.args.delta.now) (left c.args.words.now) (left c.list_words.new.input)
    (g.W.Sink.taken c.args.output.now) c.in-Err.ended c.in-Err.ensures.input c.in-Err.ensures.fault

pub returns-in-Err-listed-clause-run : goal.returns-in-Err-listed-clause-run
returns-in-Err-listed-clause-run g c =
    let left = g.R.Source.left in
    unread_reviews (collation c.args.table) (g.D.Source.left c.args.delta.now) (g.D.Source.left c.args.delta.now) (left c.args.words.now) (left c.list_words.new.input)
    (g.W.Sink.taken c.args.output.now) c.no_memory.result (ap (λ (ended : RunFault). ended.input) c.no_memory.ensures)
    (starved_reads (left c.args.words.now) (left c.list_words.new.input) c.no_memory.result c.no_memory.ensures)
