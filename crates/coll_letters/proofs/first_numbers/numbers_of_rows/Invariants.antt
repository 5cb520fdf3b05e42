-- The numbers so far are those of their characters.
use Rattle.std.proofs.Common.{All}
use Rattle.coll_nodes.specs.TableLayout.{collation}
use Rattle.coll_letters.specs.FirstNumbers.{IsFirstNumber}
use Rattle.coll_letters.proofs.first_numbers.numbers_of_rows.Given as goal

abbrev pub invariant-loop-kept : goal.invariant-loop-kept
invariant-loop-kept l = All (IsFirstNumber (collation l._table)) l.numbers.items
