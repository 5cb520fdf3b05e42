-- The words of the text are sorted, or it is at fault.
use Rattle.coll_nodes.specs.TableLayout.{collation}
use Rattle.coll_word_lists.specs.KeyedWords.{texts_of}
use Rattle.coll_reviews.proofs.ReviewCases.{from_first}
use Rattle.coll_reviews.proofs.reviewing.list_words.Goals as goal

pub returns-in-Some-clause-words : goal.returns-in-Some-clause-words
returns-in-Some-clause-words g c = λ text e.
    (texts_of c.in-Ok.words.items, c.in-Ok.ensures.words text e, c.in-Some.ensures (collation c.args.table.now) c.lemma_well_formed.ensures.well_formed c.in-Ok.ensures.keyed)

pub returns-in-Err-clause-fault : goal.returns-in-Err-clause-fault
returns-in-Err-clause-fault g c =
    let left = g.R.Source.left in
    from_first (left c.args.input.now) (left c.read_words.new.input) c.in-Err.ended c.in-Err.ensures.input c.in-Err.ensures.fault
