-- The numbers so far are those of their characters.
use Rattle.coll_nodes.specs.TableLayout.{collation}
use Rattle.coll_letters.specs.FirstNumbers.{AreNumbersByCode}
use Rattle.coll_letters.proofs.first_numbers.ascii_numbers.Given as goal

abbrev pub invariant-loop-kept : goal.invariant-loop-kept
invariant-loop-kept l = AreNumbersByCode (collation l._table) l.ascii.items
