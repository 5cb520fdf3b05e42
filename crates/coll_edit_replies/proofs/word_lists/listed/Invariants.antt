-- The words so far are numbered.
use Rattle.coll_nodes.specs.TableLayout.{collation}
use Rattle.coll_edit_replies.proofs.ToldLemmas.{NumberedSoFar}
use Rattle.coll_edit_replies.proofs.word_lists.listed.Given as goal

abbrev pub invariant-loop-text : goal.invariant-loop-text
invariant-loop-text l = NumberedSoFar (collation l.table) l.yielded l.list.items
