-- A number that no statement has is refused at once, and a number that one has is never refused so.
use Rattle.std.proofs.Common.{◌≡◌, true, false, Err, subst, arith}
use Rattle.coll_history.specs.Histories.{SessionValue}
use Rattle.coll_history.specs.Kept.{uncounted}
use Rattle.coll_history.specs.Withdrawal.{is_numbered, withdrawn}
use Rattle.coll_history.specs.declared.history_faults.BenchFault.TheVariants.{NoSuchStatement}
use Rattle.coll_history.proofs.WithdrawnStatements.{is_missing, not_missing, numbered_here}
use Rattle.coll_history.proofs.histories.Session.withdraw.Goals as goal

pub returns-in_default-clause-refused : goal.returns-in_default-clause-refused
returns-in_default-clause-refused c = λ other.
    let s = c.self.inside in
    subst (λ (v : SessionValue). withdrawn v.history c.args.number ≡ Err NoSuchStatement) c.self.view_is
    (is_missing _ c.args.number (numbered_here (uncounted s.table) s.remaining.items s.undone.items c.args.number c.len.result false (omega (arith, c.len.ensures, s.remaining.ok.0))
    c.in_default.ensures.numbered))

pub returns-in-Err-clause-missing : goal.returns-in-Err-clause-missing
returns-in-Err-clause-missing c = λ missing.
    let s = c.self.inside in
    absurd (not_missing c.args.self.now.history c.args.number
    (subst (λ (v : SessionValue). is_numbered v.history c.args.number ≡ true) c.self.view_is
    (numbered_here (uncounted s.table) s.remaining.items s.undone.items c.args.number c.len.result true (omega (arith, c.len.ensures, s.remaining.ok.0)) c.in-Some.ensures.numbered)) missing)

pub returns-in-Err-refused-clause-missing : goal.returns-in-Err-refused-clause-missing
returns-in-Err-refused-clause-missing c = λ missing.
    let s = c.self.inside in
    absurd (not_missing c.args.self.now.history c.args.number
    (subst (λ (v : SessionValue). is_numbered v.history c.args.number ≡ true) c.self.view_is
    (numbered_here (uncounted s.table) s.remaining.items s.undone.items c.args.number c.len.result true (omega (arith, c.len.ensures, s.remaining.ok.0)) c.in-Some.ensures.numbered)) missing)

pub returns-in-Err-refused-clause-missing_changes_nothing : goal.returns-in-Err-refused-clause-missing_changes_nothing
returns-in-Err-refused-clause-missing_changes_nothing c = λ missing.
    let s = c.self.inside in
    absurd (not_missing c.args.self.now.history c.args.number
    (subst (λ (v : SessionValue). is_numbered v.history c.args.number ≡ true) c.self.view_is
    (numbered_here (uncounted s.table) s.remaining.items s.undone.items c.args.number c.len.result true (omega (arith, c.len.ensures, s.remaining.ok.0)) c.in-Some.ensures.numbered)) missing)
