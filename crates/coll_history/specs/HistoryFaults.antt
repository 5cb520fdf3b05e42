-- The numbers and the names of the refusals by a history, as replies and messages show them (the project's own).
use Rattle.std.specs.Prelude.{ℕ, List, codes}
use Rattle.coll_table.specs.Refusals.{refusal_number, refusal_name}
use Rattle.coll_history.specs.declared.history_faults.BenchFault.{BenchFault}
use Rattle.coll_history.specs.declared.history_faults.BenchFault.TheVariants as bench

-- the number of a refusal by the history
abbrev pub bench_fault_number : BenchFault → ℕ
bench_fault_number (bench.Table refusal) = refusal_number refusal
bench_fault_number bench.NothingToUndo = 60
bench_fault_number bench.NothingToRedo = 61
bench_fault_number bench.HistoryFull = 66
bench_fault_number (bench.StillNeeded statement refusal) = 71
bench_fault_number bench.NoSuchStatement = 72

-- the name of a refusal by the history
abbrev pub bench_fault_name : BenchFault → List ℕ
bench_fault_name (bench.Table refusal) = refusal_name refusal
bench_fault_name bench.NothingToUndo = codes "NothingToUndo"
bench_fault_name bench.NothingToRedo = codes "NothingToRedo"
bench_fault_name bench.HistoryFull = codes "HistoryFull"
bench_fault_name (bench.StillNeeded statement refusal) = codes "StillNeeded"
bench_fault_name bench.NoSuchStatement = codes "NoSuchStatement"
