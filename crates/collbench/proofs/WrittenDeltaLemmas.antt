-- A delta file without a fault, by the statements that it says: a batch rewrites a table by them.
use Rattle.std.proofs.Common.{◌≡◌, ℕ, true, List, [], ◌∷◌, Result, Ok, Err, None, sym, subst, length, map}
use Rattle.coll_devices.specs.PhysicalLines.{lines_of}
use Rattle.coll_syntax.specs.declared.statements.Statement.{Statement}
use Rattle.coll_nodes.specs.Table.{Collation}
use Rattle.coll_requests.specs.DeltaFiles.{DeltaEnd, Ended, AtFault, Undecided, delta_outcome, delta_requests, fault_at_end}
use Rattle.coll_requests.specs.declared.delta_files.StatementAt.{StatementAt}
use Rattle.coll_table.specs.Delta.{delta}
use Rattle.coll_table.specs.declared.refusals.Refusal.{Refusal}
use Rattle.coll_delta_texts.specs.ReadBack.{SaysJust, WrittenDeltasAreReadBack}
use Rattle.coll_delta_texts.specs.DeltaText.{delta_text}
use Rattle.coll_tailorings.specs.Rewriting.{and_then, rewritten}
use Rattle.coll_bench.specs.BatchOutcome.{after_delta, answer_at_end, by_ending, by_statements, decision, judged_at, unless_faulty}
use Rattle.coll_bench.specs.BatchOutcome.{rewritten as batch_rewritten}
use Rattle.coll_faults.specs.declared.faults.RunFault.{RunFault}
use Rattle.collbench.specs.WrittenDeltas.{WrittenDeltasAreAccepted}

-- a statement, and then later ones
accepted_by : (judged : Result Collation Refusal) (input line : ℕ) (after : Collation) (later : List Statement) (ats : List StatementAt)
    → ((t : Collation) → rewritten t later ≡ Ok after → batch_rewritten input t ats ≡ Ok after)
    → and_then judged (λ t. rewritten t later) ≡ Ok after
    → unless_faulty (judged_at input line judged) (λ t. batch_rewritten input t ats) ≡ Ok after
accepted_by (Ok t) input line after later ats h same = h t same
accepted_by (Err f) input line after later ats h same = absurd cc

-- what statements rewrite a table to, they rewrite it to where they stand at lines of a file
accepted_at_lines : (input : ℕ) (table after : Collation) (ats : List StatementAt)
    → rewritten table (map (λ (at : StatementAt). at.statement) ats) ≡ Ok after → batch_rewritten input table ats ≡ Ok after
unfolding rewritten batch_rewritten
accepted_at_lines input table after [] same = cc
accepted_at_lines input table after (at ∷ ats) same =
    accepted_by (delta table at.statement) input at.line after (map (λ (at : StatementAt). at.statement) ats) ats
    (λ t h. accepted_at_lines input t after ats h) same

-- a file whose statements rewrite a table, and that is not at fault
decided : (input count : ℕ) (after : Collation) (given : Result Collation RunFault) (ending : DeltaEnd)
    → given ≡ Ok after → fault_at_end count ending ≡ None → answer_at_end input count (by_statements given (by_ending input ending)) ≡ Ok after
decided input count after (Ok t) Ended same none = same
decided input count after (Ok t) (AtFault f) same none = absurd cc
decided input count after (Ok t) (Undecided cause) same none = absurd cc
decided input count after (Err f) ending same none = absurd cc

-- a file that says just these statements
accepted_if_said : (input : ℕ) (table after : Collation) (file : List ℕ) (statements : List Statement)
    → SaysJust statements (delta_requests (lines_of file)) → rewritten table statements ≡ Ok after → after_delta input table file ≡ Ok after
unfolding delta_requests after_delta decision
accepted_if_said input table after file statements (said, none) same =
    decided input (length (lines_of file)) after (batch_rewritten input table (delta_outcome true (lines_of file)).statements)
    (delta_outcome true (lines_of file)).ending
    (accepted_at_lines input table after (delta_outcome true (lines_of file)).statements
    (subst (λ ss. rewritten table ss ≡ Ok after) (sym said) same)) none

-- the law, by that of reading
pub written_deltas_are_accepted : WrittenDeltasAreReadBack → WrittenDeltasAreAccepted
written_deltas_are_accepted read table after copies statements named writable few same input =
    accepted_if_said input table after (delta_text copies statements) statements (read copies statements named writable few) same
