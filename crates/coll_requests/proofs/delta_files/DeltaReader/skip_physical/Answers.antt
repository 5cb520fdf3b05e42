-- No line before the category is refused for lack of memory.
use Rattle.std.proofs.Common.{ap, ◌∙◌}
use Rattle.coll_requests.specs.DeltaFaults.{lacks_memory}
use Rattle.coll_requests.specs.declared.delta_faults.DeltaFault.{DeltaFault}
use Rattle.coll_lex.proofs.OutsideLines.{outside-not_starved}
use Rattle.coll_requests.proofs.DeltaTaking.{lack_number}
use Rattle.coll_requests.proofs.delta_files.DeltaReader.skip_physical.Goals as goal

pub returns-in-Err-clause-memory : goal.returns-in-Err-clause-memory
returns-in-Err-clause-memory c =
    ap (λ (f : DeltaFault). lacks_memory f.cause) c.file_fault.ensures ∙ lack_number c.in-Err.fault ∙ outside-not_starved c.self.inside.parser c.args.line.now c.in-Err.fault c.in-Err.ensures.err
