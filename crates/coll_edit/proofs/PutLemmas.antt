-- A statement that is put behind those that remain, and one that is refused.
use Rattle.std.proofs.Common.{◌≡◌, ◌≢◌, ℕ, Bool, true, false, List, [], ◌∷◌, ◌++◌, map, Result, Ok, Err, refl, sym, ap, ◌∙◌, subst, append_assoc, length}
use Rattle.std.specs.Prelude.{nat_le, if◌then◌else◌, OnOk}
use Rattle.std.proofs.lemmas.List.{map-append}
use Rattle.coll_syntax.specs.declared.statements.Statement.{Statement}
use Rattle.coll_nodes.specs.Table.{Collation}
use Rattle.coll_table.specs.Delta.{delta}
use Rattle.coll_table.specs.declared.refusals.Refusal.{Refusal}
use Rattle.coll_table.specs.declared.refusals.Refusal.TheVariants as refusal
use Rattle.coll_history.specs.Histories.{History, table_now, with_statement, judged_by, judged}
use Rattle.coll_history.specs.Limits.{most_remaining}
use Rattle.coll_history.specs.Replay.{given_or, after_statement, replay}
use Rattle.coll_history.specs.declared.history_faults.BenchFault.{BenchFault}
use Rattle.coll_history.specs.declared.history_faults.BenchFault.TheVariants.{Table, HistoryFull}
use Rattle.coll_requests.specs.declared.delta_files.StatementAt.{StatementAt}
use Rattle.coll_bench.specs.BatchOutcome.{fault_in, judged_at}
use Rattle.coll_bench.specs.BatchReading.{FailsAs}
use Rattle.coll_bench.specs.BatchRuns.{ending_of}
use Rattle.coll_faults.specs.declared.faults.Fault.TheVariants as fault
use Rattle.coll_bench.specs.Serving.{history_of}
use Rattle.coll_faults.specs.declared.faults.RunFault.{RunFault}
use Rattle.coll_edit.specs.EditRuns.{IsUnserved, Leads}
use Rattle.coll_edit.specs.Editing.{PutsBehind, run_of}
use Rattle.coll_edit.specs.declared.editors.Editor.{Editor}

replay_put : (table : Collation) (before : List Statement) (s : Statement) → replay table (before ++ s ∷ []) ≡ after_statement (replay table before) s
unfolding replay
replay_put table [] s = refl
replay_put table (first ∷ before) s = replay_put (after_statement table first) before s

-- what an accepted statement does: it remains, and the table is what it makes of the table before
record Accepts (h after : History) (s : Statement) : Type 0 where
  table : delta (table_now h) s ≡ Ok (table_now after)
  history : with_statement h s ≡ after

accepts_by : (h after : History) (s : Statement) (r : Result Collation Refusal) → delta (table_now h) s ≡ r → judged_by h s r ≡ Ok after → Accepts h after s
accepts_by h after s (Ok table) is e =
    let same : with_statement h s ≡ after = cc in
    let now : table_now (with_statement h s) ≡ table = replay_put h.start h.remaining s ∙ ap (given_or (table_now h)) is in
    record { table = is ∙ ap Ok (sym now) ∙ ap (λ (x : History). Ok (table_now x)) same; history = same }
accepts_by h after s (Err reason) is e = absurd cc

accepts_if : (h after : History) (s : Statement) (full : Bool) → (if full then Err HistoryFull else judged_by h s (delta (table_now h) s)) ≡ Ok after → Accepts h after s
accepts_if h after s true e = absurd cc
accepts_if h after s false e = accepts_by h after s (delta (table_now h) s) refl e

accepts : (h after : History) (s : Statement) → judged h s ≡ Ok after → Accepts h after s
unfolding judged
accepts h after s e = accepts_if h after s (nat_le most_remaining (length h.remaining)) e

-- a statement that was put gives the table after it
pub puts : (input line : ℕ) (h after : History) (s t : Statement) → s ≡ t → judged h s ≡ Ok after → judged_at input line (delta (table_now h) t) ≡ Ok (table_now after)
puts input line h after s t same e =
    ap (λ (x : Statement). judged_at input line (delta (table_now h) x)) (sym same) ∙ ap (judged_at input line) (accepts h after s e).table

-- a statement that was put stands behind those that were put before it
pub puts_behind : (first h after : History) (before : List StatementAt) (at : StatementAt) (s : Statement) → s ≡ at.statement → judged h s ≡ Ok after → PutsBehind first before h
    → PutsBehind first (before ++ at ∷ []) after
puts_behind first h after before at s same e behind =
    let f : StatementAt → Statement = λ (a : StatementAt). a.statement in
    let done : after ≡ with_statement h s = sym (accepts h after s e).history in
    record {
      start = ap (λ (x : History). x.start) done ∙ behind.start;
      remaining = ap (λ (x : History). x.remaining) done ∙ ap (λ (l : List Statement). l ++ s ∷ []) behind.remaining
          ∙ append_assoc first.remaining (map f before) (s ∷ []) ∙ ap (λ (x : Statement). first.remaining ++ (map f before ++ x ∷ [])) same
          ∙ ap (λ (l : List Statement). first.remaining ++ l) (sym (map-append f before (at ∷ [])));
      undone = λ none. ap (λ (x : History). x.undone) done;
    }

-- the same of an answer
pub puts_ok : (input line : ℕ) (h after : History) (s t : Statement) (r : Result (Unit {0}) RunFault) → s ≡ t → OnOk r (judged h s ≡ Ok after)
    → OnOk r (judged_at input line (delta (table_now h) t) ≡ Ok (table_now after))
puts_ok input line h after s t (Ok done) same e = puts input line h after s t same e
puts_ok input line h after s t (Err ended) same e = tt

pub reaches_ok : (old new : Editor) (at : StatementAt) (s : Statement) (r : Result (Unit {0}) RunFault) → s ≡ at.statement
    → OnOk r (judged (history_of (run_of old)) s ≡ Ok (history_of (run_of new))) → (IsUnserved old → IsUnserved new)
    → OnOk r ((start : Editor) (before : List StatementAt) → Leads start before old → Leads start (before ++ at ∷ []) new)
reaches_ok old new at s (Ok done) same e kept = λ start before led. record {
  puts = puts_behind (history_of (run_of start)) (history_of (run_of old)) (history_of (run_of new)) before at s same e led.puts;
  unserved = λ u. kept (led.unserved u);
}
reaches_ok old new at s (Err ended) same e kept = tt

refused_by : (h : History) (s : Statement) (r : Refusal) (answer : Result Collation Refusal) → judged_by h s answer ≡ Err (Table r) → answer ≡ Err r
refused_by h s r (Ok table) e = absurd cc
refused_by h s r (Err reason) e = cc

refused_if : (h : History) (s : Statement) (r : Refusal) (full : Bool) → (if full then Err HistoryFull else judged_by h s (delta (table_now h) s)) ≡ Err (Table r)
    → delta (table_now h) s ≡ Err r
refused_if h s r true e = absurd cc
refused_if h s r false e = refused_by h s r (delta (table_now h) s) e

-- a refusal of the table that is answered
refused_at : (input line : ℕ) (h : History) (s : Statement) (r : Refusal) → judged h s ≡ Err (Table r) → judged_at input line (delta (table_now h) s) ≡ Err (fault_in input line (fault.Table r))
unfolding judged
refused_at input line h s r e = ap (judged_at input line) (refused_if h s r (nat_le most_remaining (length h.remaining)) e)

-- a refusal is that of the table, unless memory was refused
pub put_fails : (input line : ℕ) (h : History) (s : Statement) (r : Refusal) → (Table r ≢ Table refusal.OutOfMemory → judged h s ≡ Err (Table r))
    → FailsAs (ending_of (fault_in input line (fault.Table r))) (judged_at input line (delta (table_now h) s)) (fault_in input line (fault.Table r))
put_fails input line h s refusal.OutOfMemory refuses = tt
put_fails input line h s refusal.DeclaredTwice refuses = refused_at input line h s refusal.DeclaredTwice (refuses (λ e. cc))
put_fails input line h s refusal.NotDeclared refuses = refused_at input line h s refusal.NotDeclared (refuses (λ e. cc))
put_fails input line h s refusal.SymbolWithWeights refuses = refused_at input line h s refusal.SymbolWithWeights (refuses (λ e. cc))
put_fails input line h s refusal.TooManyWeights refuses = refused_at input line h s refusal.TooManyWeights (refuses (λ e. cc))
put_fails input line h s refusal.WeightNotPlaced refuses = refused_at input line h s refusal.WeightNotPlaced (refuses (λ e. cc))
put_fails input line h s refusal.StringTwice refuses = refused_at input line h s refusal.StringTwice (refuses (λ e. cc))
put_fails input line h s refusal.Full refuses = refused_at input line h s refusal.Full (refuses (λ e. cc))
put_fails input line h s refusal.TargetNotPlaced refuses = refused_at input line h s refusal.TargetNotPlaced (refuses (λ e. cc))
put_fails input line h s refusal.TwiceInBlock refuses = refused_at input line h s refusal.TwiceInBlock (refuses (λ e. cc))
put_fails input line h s refusal.NoSuchSection refuses = refused_at input line h s refusal.NoSuchSection (refuses (λ e. cc))
put_fails input line h s refusal.SectionAfterItself refuses = refused_at input line h s refusal.SectionAfterItself (refuses (λ e. cc))
put_fails input line h s refusal.NotPlaced refuses = refused_at input line h s refusal.NotPlaced (refuses (λ e. cc))
put_fails input line h s refusal.NoWeights refuses = refused_at input line h s refusal.NoWeights (refuses (λ e. cc))
put_fails input line h s refusal.NotASymbol refuses = refused_at input line h s refusal.NotASymbol (refuses (λ e. cc))

-- the same of a fault that is that refusal
pub put_fails_as : (input line : ℕ) (h : History) (s : Statement) (r : Refusal) (f : BenchFault) → f ≡ Table r → (f ≢ Table refusal.OutOfMemory → judged h s ≡ Err f)
    → FailsAs (ending_of (fault_in input line (fault.Table r))) (judged_at input line (delta (table_now h) s)) (fault_in input line (fault.Table r))
put_fails_as input line h s r f is refuses = put_fails input line h s r (subst (λ (g : BenchFault). g ≢ Table refusal.OutOfMemory → judged h s ≡ Err g) is refuses)
