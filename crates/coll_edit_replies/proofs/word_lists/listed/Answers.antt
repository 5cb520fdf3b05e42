-- Each text in turn is put.
use Rattle.std.proofs.Common.{ℕ, List, subst}
use Rattle.coll_nodes.specs.TableLayout.{collation}
use Rattle.coll_edit_replies.specs.ToldLists.{PutsWord}
use Rattle.coll_edit_replies.proofs.ToldLemmas.{numbered_more}
use Rattle.coll_edit_replies.proofs.word_lists.listed.Goals as goal

pub loop-text-preserved : goal.loop-text-preserved
loop-text-preserved c =
    numbered_more (collation c.args.table.now) c.loop-text.yielded c.in-Some.text c.loop-text.list.items c.put_word-put.new.list.items c.loop-text.invariant
    (subst (λ (text : List ℕ). PutsWord (collation c.args.table.now) text c.loop-text.list.items c.put_word-put.new.list.items) c.get.ensures.characters c.in_default.ensures.put)
