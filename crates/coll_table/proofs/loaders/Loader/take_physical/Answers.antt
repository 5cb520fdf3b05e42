-- A line that is read from its text is taken as its tokens are.
use Rattle.std.proofs.Common.{◌≡◌, ◌≢◌, subst, Ok, Err}
use Rattle.std.specs.Prelude.{IfErr, OnOk, Result}
use Rattle.coll_texts.specs.Loading.{LoaderState}
use Rattle.coll_texts.specs.declared.load_faults.LoadFault.{LoadFault}
use Rattle.coll_texts.specs.declared.load_faults.LoadCause.TheVariants.{OutOfMemory}
use Rattle.coll_table.proofs.LineMemory.{whole_takes}
use Rattle.coll_table.proofs.PlainRows.{plain_fed, plain_proper, plain_taken, plain_takes}
use Rattle.coll_table.proofs.loaders.Loader.take_physical.Goals as goal

pub take_read-requires-clause-proper : goal.take_read-requires-clause-proper
take_read-requires-clause-proper c =
    let said = rw c.in-Ok-Some.field-0-is at c.in-Ok-Some.ensures.read in
    let whole = rw c.in-Ok-Some.field-0-is at c.in-Ok-Some.ensures.whole in
    plain_proper c.self.inside.lexer c.args.line.now c.in-Some.text.now c.in-Ok-Some.read c.in-Some.ensures.plain c.in-Some.ensures.alone whole said

pub returns-in-Ok-Some-clause-ok : goal.returns-in-Ok-Some-clause-ok
returns-in-Ok-Some-clause-ok c =
    let said = rw c.in-Ok-Some.field-0-is at c.in-Ok-Some.ensures.read in
    let whole = rw c.in-Ok-Some.field-0-is at c.in-Ok-Some.ensures.whole in
    let s = c.self.inside in
    let taken = rw (c.pass_line.ensures, c.next_number-number.ensures.number) at c.take_read.ensures.ok in
    rw (← c.self.view_is) (subst (λ (read : Result LoaderState LoadFault). OnOk c.take_read.result (read ≡ Ok c.take_read.new.self))
    (plain_taken (record { lexer = s.lexer; begun = s.begun; ended = s.ended; builder = s.builder; fault = s.fault }) c.args.line.now c.in-Some.text.now c.in-Ok-Some.read
    c.in-Some.ensures.plain c.in-Some.ensures.alone whole said) taken)

pub returns-in-Ok-Some-clause-err : goal.returns-in-Ok-Some-clause-err
returns-in-Ok-Some-clause-err c =
    let said = rw c.in-Ok-Some.field-0-is at c.in-Ok-Some.ensures.read in
    let whole = rw c.in-Ok-Some.field-0-is at c.in-Ok-Some.ensures.whole in
    let s = c.self.inside in
    let taken = rw (c.pass_line.ensures, c.next_number-number.ensures.number) at c.take_read.ensures.err in
    rw (← c.self.view_is) (subst (λ (read : Result LoaderState LoadFault). IfErr c.take_read.result (λ (fault : LoadFault). fault.cause ≢ OutOfMemory → read ≡ Err fault))
    (plain_taken (record { lexer = s.lexer; begun = s.begun; ended = s.ended; builder = s.builder; fault = s.fault }) c.args.line.now c.in-Some.text.now c.in-Ok-Some.read
    c.in-Some.ensures.plain c.in-Some.ensures.alone whole said) taken)

pub returns-in-Ok-Some-clause-memory : goal.returns-in-Ok-Some-clause-memory
returns-in-Ok-Some-clause-memory c =
    let said = rw c.in-Ok-Some.field-0-is at c.in-Ok-Some.ensures.read in
    let whole = rw c.in-Ok-Some.field-0-is at c.in-Ok-Some.ensures.whole in
    rw (← c.self.view_is) (whole_takes c.self.inside.lexer _ c.args.line.now _ c.take_read.result
    (plain_fed c.self.inside.lexer c.args.line.now c.in-Some.text.now c.in-Ok-Some.read c.in-Some.ensures.plain c.in-Some.ensures.alone whole said))

pub returns-in-Err-clause-memory : goal.returns-in-Err-clause-memory
returns-in-Err-clause-memory c =
    rw (← c.self.view_is) (λ _. plain_takes c.self.inside.lexer c.args.line.now c.in-Some.text.now c.in-Some.ensures.plain c.in-Err.ensures.memory)
