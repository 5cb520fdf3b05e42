-- A statement that was put stands behind those that remain.
use Rattle.coll_bench.specs.Serving.{history_of}
use Rattle.coll_edit.specs.Editing.{run_of}
use Rattle.coll_edit.proofs.PutLemmas.{puts_ok, reaches_ok}
use Rattle.coll_edit.proofs.editors.EditorTakesStatements.put.Goals as goal

pub returns-in-Ok-clause-ok : goal.returns-in-Ok-clause-ok
returns-in-Ok-clause-ok c =
    puts_ok c.args.input c.args.at.now.line (history_of (run_of c.args.self.now)) (history_of (run_of c.put_copy.new.self)) c.in-Ok.statement c.args.at.now.statement c.put_copy.result
    c.in-Ok.ensures c.put_copy.ensures.ok

pub returns-in-Ok-clause-reaches : goal.returns-in-Ok-clause-reaches
returns-in-Ok-clause-reaches c =
    reaches_ok c.args.self.now c.put_copy.new.self c.args.at.now c.in-Ok.statement c.put_copy.result c.in-Ok.ensures c.put_copy.ensures.ok c.put_copy.ensures.unserved
