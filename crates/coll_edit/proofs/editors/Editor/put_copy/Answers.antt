-- A statement that the table refuses is a fault at its line.
use Rattle.std.proofs.Common.{◌≡◌}
use Rattle.coll_history.specs.declared.history_faults.BenchFault.TheVariants.{Table}
use Rattle.coll_bench.specs.Serving.{history_of}
use Rattle.coll_edit.specs.Editing.{run_of}
use Rattle.coll_edit.proofs.PutLemmas.{put_fails_as}
use Rattle.coll_edit.proofs.editors.Editor.put_copy.Goals as goal

pub returns-in-Err-Table-clause-err : goal.returns-in-Err-Table-clause-err
returns-in-Err-Table-clause-err c =
    let is : c.in-Err-Table.field-0 ≡ Table c.in-Err-Table.refusal = search in
    put_fails_as c.args.input c.args.line (history_of (run_of c.args.self.now)) c.args.statement c.in-Err-Table.refusal c.in-Err-Table.field-0 is c.in-Err-Table.ensures.refused
