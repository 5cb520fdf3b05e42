-- A request whose reply is a refusal leaves the history: a request that changes it has a reply that begins with another word.
use Rattle.std.proofs.Common.{◌≡◌, ℕ, zero, suc, Bool, true, false, List, [], ◌∷◌, Result, Ok, Err, refl, sym, ap, ◌∙◌, arith, length}
use Rattle.std.specs.Prelude.{◌&&◌, if◌then◌else◌, codes}
use Rattle.coll_history.specs.Histories.{History, judged, taken_back, put_again}
use Rattle.coll_history.specs.Withdrawal.{withdrawn}
use Rattle.coll_history.specs.declared.history_faults.BenchFault.{BenchFault}
use Rattle.coll_bench.specs.Laws.{RefusedChangesNothing}
use Rattle.coll_bench.specs.Replies.{counted_line, count_reply, refused_line, reply, starved_line, history_or, history_after, may_starve, command_reply, history_after_command}
use Rattle.coll_faults.specs.declared.faults.Fault.{Fault}
use Rattle.coll_requests.specs.declared.session_lines.Command.{Command}
use Rattle.coll_requests.specs.declared.session_lines.Command.TheVariants as command
use Rattle.coll_requests.specs.declared.requests.Request.{Request}
use Rattle.coll_requests.specs.declared.requests.Request.TheVariants as kind

-- a character of a line, by how many stand before it
at : ℕ → List ℕ → ℕ
at n [] = 0
at zero (c ∷ cs) = c
at (suc n) (c ∷ cs) = at n cs

-- the first or the third character of a line that counts, and of one that refuses
first_ok : (n : ℕ) → at 0 (counted_line (codes "ok") n) ≡ 111
unfolding counted_line at
first_ok n = refl

first_undone : (n : ℕ) → at 0 (counted_line (codes "undone") n) ≡ 117
unfolding counted_line at
first_undone n = refl

third_redone : (n : ℕ) → at 2 (counted_line (codes "redone") n) ≡ 100
unfolding counted_line at
third_redone n = refl

first_withdrawn : (n : ℕ) → at 0 (counted_line (codes "withdrawn") n) ≡ 119
unfolding counted_line at
first_withdrawn n = refl

first_refused : (f : Fault) → at 0 (refused_line f) ≡ 114
unfolding refused_line at
first_refused f = refl

third_refused : (f : Fault) → at 2 (refused_line f) ≡ 102
unfolding refused_line at
third_refused f = refl

-- a line that counts isn't one that refuses, since the words differ
counted_ok : (n : ℕ) (f : Fault) → counted_line (codes "ok") n ≡ refused_line f → ⊥
counted_ok n f e = let same : 111 ≡ 114 = sym (first_ok n) ∙ ap (at 0) e ∙ first_refused f in omega (arith, same)

counted_undone : (n : ℕ) (f : Fault) → counted_line (codes "undone") n ≡ refused_line f → ⊥
counted_undone n f e = let same : 117 ≡ 114 = sym (first_undone n) ∙ ap (at 0) e ∙ first_refused f in omega (arith, same)

counted_redone : (n : ℕ) (f : Fault) → counted_line (codes "redone") n ≡ refused_line f → ⊥
counted_redone n f e = let same : 100 ≡ 102 = sym (third_redone n) ∙ ap (at 2) e ∙ third_refused f in omega (arith, same)

counted_withdrawn : (n : ℕ) (f : Fault) → counted_line (codes "withdrawn") n ≡ refused_line f → ⊥
counted_withdrawn n f e = let same : 119 ≡ 114 = sym (first_withdrawn n) ∙ ap (at 0) e ∙ first_refused f in omega (arith, same)

-- what a call of the history answered leaves it, where the reply to it is a refusal
by_answer : (word : List ℕ) (apart : (n : ℕ) (f : Fault) → counted_line word n ≡ refused_line f → ⊥) (h : History) (r : Result History BenchFault) (f : Fault)
    → count_reply word r ≡ refused_line f → history_or h r ≡ h
by_answer word apart h (Ok after) f e = absurd (apart (length after.remaining) f e)
by_answer word apart h (Err fault) f e = refl

by_command : (h : History) (c : Command) (f : Fault) → command_reply h c ≡ refused_line f → history_after_command h c ≡ h
by_command h command.Undo f e = by_answer (codes "undone") counted_undone h (taken_back h) f e
by_command h command.Redo f e = by_answer (codes "redone") counted_redone h (put_again h) f e
by_command h command.List f e = refl
by_command h command.Print f e = refl
by_command h (command.Key t) f e = refl
by_command h (command.Compare t u) f e = refl
by_command h command.History f e = refl
by_command h (command.Withdraw k) f e = by_answer (codes "withdrawn") counted_withdrawn h (withdrawn h k) f e
by_command h command.Check f e = refl

by_request : (h : History) (request : Request) (f : Fault) → reply h request ≡ refused_line f → history_after h request ≡ h
unfolding reply history_after
by_request h (kind.Command c) f e = by_command h c f e
by_request h (kind.Statement s) f e = by_answer (codes "ok") counted_ok h (judged h s) f e
by_request h (kind.Refused fault) f e = refl

by_lack : (starves : Bool) (h : History) (request : Request) (f : Fault) → (if starves then starved_line else reply h request) ≡ refused_line f
    → (if starves then h else history_after h request) ≡ h
by_lack true h request f e = refl
by_lack false h request f e = by_request h request f e

pub refused_changes_nothing : RefusedChangesNothing
refused_changes_nothing starved h request f e = by_lack (starved && may_starve h request) h request f e
