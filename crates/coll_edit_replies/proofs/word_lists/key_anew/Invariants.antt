-- The words so far have their keys.
use Rattle.coll_nodes.specs.TableLayout.{collation}
use Rattle.coll_edit_replies.proofs.ToldLemmas.{KeyedSoFar}
use Rattle.coll_edit_replies.proofs.word_lists.key_anew.Given as goal

abbrev pub invariant-loop-listed : goal.invariant-loop-listed
invariant-loop-listed l = KeyedSoFar (collation l.table) l.initial.list l.list l.listed-index
