-- Where the fault of a line comes from: its reader, its statement, or what stands behind that.
use Rattle.std.proofs.Common.{None, inl, inr, ap, subst, sym, ◌∙◌}
use Rattle.std.specs.Prelude.{option_to_list}
use Rattle.coll_bench.specs.BatchReading.{FailsAs, line_taken}
use Rattle.coll_bench.specs.BatchRuns.{ending_of}
use Rattle.coll_faults.specs.declared.faults.RunFault.{RunFault}
use Rattle.coll_bench.proofs.LineTaking.{by_stored, fails_so, stored_fails, line_fails}
use Rattle.coll_bench.proofs.DeltaNumbers.{stored_number}
use Rattle.coll_bench.proofs.batches.delta_files.take_line.Goals as goal

pub returns-in-Err-put_if-clause-err : goal.returns-in-Err-put_if-clause-err
returns-in-Err-put_if-clause-err g c =
    fails_so c.args.input (g.T.TakesStatements.table c.args.taker.now) c.args.file.now c.args.line.now (option_to_list c.in-Ok.given) c.line.new.self c.in-Ok.ensures.ok
    (ending_of c.in-Err-put_if.ended)
    c.in-Err-put_if.ended c.in-Err-put_if.ensures.err

pub returns-in-Some-clause-err : goal.returns-in-Some-clause-err
returns-in-Some-clause-err g c =
    subst (λ (ended : RunFault). FailsAs (ending_of ended) (line_taken c.args.input (g.T.TakesStatements.table c.args.taker.now) c.args.file.now c.args.line.now) ended)
    (sym c.delta_fault-in-Some.ensures)
    (stored_fails c.args.input (g.T.TakesStatements.table c.args.taker.now) c.args.file.now c.args.line.now (option_to_list c.in-Ok.given) c.line.new.self c.in-Ok.ensures.ok
    (g.T.TakesStatements.table c.put_if.new.taker)
    c.in-Some.fault c.in_default.ensures.ok (sym c.fault.ensures ∙ c.in-Some.is))

pub returns-in-None-clause-ok : goal.returns-in-None-clause-ok
returns-in-None-clause-ok g c =
    by_stored c.args.input (g.T.TakesStatements.table c.args.taker.now) c.args.file.now c.args.line.now (option_to_list c.in-Ok.given) c.line.new.self c.in-Ok.ensures.ok
    (g.T.TakesStatements.table c.put_if.new.taker) None
    c.in_default.ensures.ok (sym c.fault.ensures ∙ c.in-None.is)

pub returns-in-Err-clause-err : goal.returns-in-Err-clause-err
returns-in-Err-clause-err g c =
    subst (λ (ended : RunFault). FailsAs (ending_of ended) (line_taken c.args.input (g.T.TakesStatements.table c.args.taker.now) c.args.file.now c.args.line.now) ended) (sym c.delta_fault.ensures)
    (line_fails c.args.input (g.T.TakesStatements.table c.args.taker.now) c.args.file.now c.args.line.now c.in-Err.fault c.in-Err.ensures.err)

pub returns-in-Err-put_if-clause-number : goal.returns-in-Err-put_if-clause-number
returns-in-Err-put_if-clause-number g c = λ _. inr (option_to_list c.in-Ok.given, c.line.new.self, c.in-Ok.ensures.ok, c.in-Err-put_if.ensures.number)

pub returns-in-Some-clause-number : goal.returns-in-Some-clause-number
returns-in-Some-clause-number g c = λ faultless.
    inl (ap (λ (ended : RunFault). ended.line) c.delta_fault-in-Some.ensures
    ∙ stored_number c.args.file.now c.args.line.now faultless (option_to_list c.in-Ok.given) c.line.new.self c.in-Some.fault c.in-Ok.ensures.ok (sym c.fault.ensures ∙ c.in-Some.is))

pub returns-in-Err-clause-number : goal.returns-in-Err-clause-number
returns-in-Err-clause-number g c = λ faultless. inl (ap (λ (ended : RunFault). ended.line) c.delta_fault.ensures ∙ c.in-Err.ensures.line faultless)

pub returns-in-None-clause-reaches : goal.returns-in-None-clause-reaches
returns-in-None-clause-reaches g c = (option_to_list c.in-Ok.given, c.in-Ok.ensures.ok, c.in_default.ensures.reaches)
