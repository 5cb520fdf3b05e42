-- The last word is put, down to those that are left.
use Rattle.coll_reviews.proofs.OrderedWords.{none_down}
use Rattle.coll_reviews.proofs.moved_words.put_last.Goals as goal

pub kept-init : goal.kept-init
kept-init c = none_down c.args.left c.args.list.now.items c.args.kept.now.items c.requires
