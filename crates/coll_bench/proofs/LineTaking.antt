-- What a line of a delta file is taken as, from what the reader of the file and the table answered.
use Rattle.std.proofs.Common.{◌≡◌, ℕ, false, List, Option, Some, Result, Ok, Err, ap, ◌∙◌}
use Rattle.coll_nodes.specs.Table.{Collation}
use Rattle.coll_requests.specs.DeltaFaults.{lacks_memory}
use Rattle.coll_requests.specs.DeltaReading.{DeltaState, delta_line}
use Rattle.coll_requests.specs.declared.delta_faults.DeltaFault.{DeltaFault}
use Rattle.coll_requests.specs.declared.delta_files.StatementAt.{StatementAt}
use Rattle.coll_bench.specs.BatchOutcome.{delta_fault_in, unless_faulty, rewritten}
use Rattle.coll_bench.specs.BatchReading.{FailsAs, by_step, unless_stored, line_taken}
use Rattle.coll_bench.specs.BatchRuns.{Ending, ReadFailed, WriteFailed, Starved, Refused, ending_of}
use Rattle.coll_faults.specs.declared.faults.RunFault.{RunFault}
use Rattle.coll_bench.proofs.BatchFaults.{delta_fails}

module _ (input : ℕ) (table : Collation) (s : DeltaState) (line : List ℕ) (given : List StatementAt) (after : DeltaState) (step : delta_line s line ≡ Ok (given, after)) where
  -- the statement is judged first
  by_table : (r : Result Collation RunFault) → rewritten input table given ≡ r → line_taken input table s line ≡ unless_faulty r (λ changed. unless_stored input after.fault (changed, after))
  unfolding line_taken
  by_table r e = ap (by_step input table) step ∙ ap (λ (r : Result Collation RunFault). unless_faulty r (λ changed. unless_stored input after.fault (changed, after))) e

  -- its table stands, unless the line is at fault behind it
  pub by_stored : (changed : Collation) (stored : Option DeltaFault) → rewritten input table given ≡ Ok changed → after.fault ≡ stored
      → line_taken input table s line ≡ unless_stored input stored (changed, after)
  by_stored changed stored e f = by_table (Ok changed) e ∙ ap (λ (o : Option DeltaFault). unless_stored input o (changed, after)) f

  -- a statement that fails is what the line is taken as
  pub fails_so : (kind : Ending) (ended : RunFault) → FailsAs kind (rewritten input table given) ended → FailsAs kind (line_taken input table s line) ended
  fails_so ReadFailed ended h = h
  fails_so WriteFailed ended h = h
  fails_so Starved ended h = tt
  fails_so Refused ended h = by_table (Err ended) h

  -- a fault behind the statement is what the line is taken as
  pub stored_fails : (changed : Collation) (f : DeltaFault) → rewritten input table given ≡ Ok changed → after.fault ≡ Some f
      → FailsAs (ending_of (delta_fault_in input f)) (line_taken input table s line) (delta_fault_in input f)
  stored_fails changed f e stored = delta_fails input f (line_taken input table s line) (λ ample. by_stored changed (Some f) e stored)

-- a line that its reader refuses is taken as this fault
pub line_fails : (input : ℕ) (table : Collation) (s : DeltaState) (line : List ℕ) (f : DeltaFault) → (lacks_memory f.cause ≡ false → delta_line s line ≡ Err f)
    → FailsAs (ending_of (delta_fault_in input f)) (line_taken input table s line) (delta_fault_in input f)
unfolding line_taken
line_fails input table s line f h = delta_fails input f (line_taken input table s line) (λ ample. ap (by_step input table) (h ample))
