-- The lines before a place were looked at: their identifiers are kept, and what is wrong with them was found.
use Rattle.std.proofs.Common.{◌≡◌, ◌∷◌, ◌++◌, [], zero, drop}
use Rattle.coll_nodes.specs.OwnNames.{own_id}
use Rattle.coll_nodes.specs.TableLayout.{collation}
use Rattle.coll_table.specs.Judging.{HaveSame}
use Rattle.coll_advice.specs.Faults.{line_faults}
use Rattle.coll_advice.proofs.BlockLines.{ids_before}
use Rattle.coll_advice.proofs.blocks.find_from_target.Given as goal

abbrev pub invariant-loop-number : goal.invariant-loop-number
invariant-loop-number l = record {
  kept : HaveSame l.before (ids_before (collation l.table) l.target l.lines l.number);
  goes_on : l.found.items ++ line_faults (collation l.table) l.number (ids_before (collation l.table) l.target l.lines l.number) l.all (drop l.number l.lines)
      ≡ l.initial.found.items ++ line_faults (collation l.table) zero (own_id (collation l.table).declared l.target ∷ []) l.all l.lines;
}
