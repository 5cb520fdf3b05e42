-- The table was rewritten by what is kept; it can be written, and its lines are counted.
use Rattle.std.proofs.Common.{◌≡◌, ◌+◌, ◌≤◌, Ok}
use Rattle.std.specs.Prelude.{All}
use Rattle.coll_lex.specs.Limits.{most_lines}
use Rattle.coll_nodes.specs.TableLayout.{collation}
use Rattle.coll_delta_texts.specs.Writable.{IsWritable}
use Rattle.coll_tailorings.specs.LineCounts.{line_count}
use Rattle.coll_tailorings.specs.Rewriting.{rewritten}
use Rattle.coll_tailorings.proofs.accepted_statements.put_all.Given as goal

abbrev pub invariant-loop-statement : goal.invariant-loop-statement
invariant-loop-statement l = record {
  kept : rewritten (collation l.initial.table) l.kept.items ≡ Ok (collation l.table);
  written : All IsWritable l.kept.items;
  counted : l.lines ≡ l.copies + 4 + line_count l.kept.items;
  few : l.lines ≤ most_lines;
}
