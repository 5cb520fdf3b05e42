-- The words that were put come before, and those that are left don't.
use Rattle.std.proofs.Common.{List, subst}
use Rattle.coll_nodes.specs.TableLayout.{collation}
use Rattle.coll_reviews.specs.MovedWords.{PartsAt}
use Rattle.coll_reviews.specs.declared.listed_words.ListedWord.{ListedWord}
use Rattle.coll_reviews.proofs.OrderedWords.{puts_parted}
use Rattle.coll_reviews.proofs.moved_words.put_before.Goals as goal

pub returns-clause-put : goal.returns-clause-put
returns-clause-put c =
    puts_parted (collation c.args.table.now) c.args.next.now c.args.list.now.items c.args.kept.now.items c.put_last.new.list.items c.put_last.new.kept.items c.in_ok-left.left
    (subst (λ (words : List ListedWord). PartsAt (collation c.args.table.now) c.args.next.now words c.in_ok-left.left) c.deref.ensures.value c.in_ok-left.ensures.parts) c.in_ok-put_last.ensures
