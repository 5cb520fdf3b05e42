-- What is kept of a line is taken as the line is.
use Rattle.std.proofs.Common.{◌≡◌, ◌≢◌, subst, Ok, Err}
use Rattle.std.specs.Prelude.{IfErr, OnOk, Result}
use Rattle.coll_texts.specs.Loading.{LoaderState}
use Rattle.coll_texts.specs.declared.load_faults.LoadFault.{LoadFault}
use Rattle.coll_texts.specs.declared.load_faults.LoadCause.TheVariants.{OutOfMemory}
use Rattle.coll_table.proofs.KeptLines.{kept_taken}
use Rattle.coll_table.proofs.loaders.Loader.take_logical.Goals as goal

pub returns-clause-ok : goal.returns-clause-ok
returns-clause-ok c = subst (λ (read : Result LoaderState LoadFault). OnOk c.take_kept.result (read ≡ Ok c.take_kept.new.self))
    (kept_taken c.args.self.now c.args.line.now.number c.args.line.now.tokens) c.take_kept.ensures.ok

pub returns-clause-err : goal.returns-clause-err
returns-clause-err c =
    subst (λ (read : Result LoaderState LoadFault). IfErr c.take_kept.result (λ (fault : LoadFault). fault.cause ≢ OutOfMemory → read ≡ Err fault))
    (kept_taken c.args.self.now c.args.line.now.number c.args.line.now.tokens) c.take_kept.ensures.err
