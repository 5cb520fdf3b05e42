-- What explaining two texts writes and answers.
use Rattle.std.specs.Prelude.{◌≡◌, ◌⊎◌, ℕ, true, false, List, [], ◌∷◌, Option, Result, Ok, Err}
use Rattle.std.specs.Io.KnownBytes.{Appends}
use Rattle.coll_devices.specs.Devices.{AppendsPrefix}
use Rattle.coll_nodes.specs.Table.{Collation}
use Rattle.coll_bench.specs.BatchOutcome.{fault_in, is_any_too_long, text_too_long}
use Rattle.coll_bench.specs.BatchWriting.{starved_key}
use Rattle.coll_bench.specs.Serving.{write_failed}
use Rattle.coll_faults.specs.declared.faults.RunFault.{RunFault}
use Rattle.coll_explanations.specs.Explanations.{explanation}

-- lack of memory, which comes from no line
abbrev pub starved : RunFault
starved = fault_in 0 0 starved_key

-- these bytes were written; or a write failed, and a prefix of them was; or memory was refused, and nothing was written
abbrev pub WritesWhole : List ℕ → (taken taken_after : Option (List ℕ)) → Result (Unit {0}) RunFault → Type 0
WritesWhole bytes taken taken_after (Ok done) = Appends taken taken_after bytes
WritesWhole bytes taken taken_after (Err ended) =
    ((ended ≡ starved) × (taken_after ≡ taken)) ⊎ ((ended ≡ write_failed) × AppendsPrefix taken taken_after bytes)

-- the explanation of two texts was written, or there was a fault; and where one is too long, that is the fault, and nothing was written
abbrev pub Explains : Collation → (text other : List ℕ) → (taken taken_after : Option (List ℕ)) → Result (Unit {0}) RunFault → Type 0
Explains table text other taken taken_after r =
    ((is_any_too_long (text ∷ other ∷ []) ≡ true) × (r ≡ Err text_too_long) × (taken_after ≡ taken))
    ⊎ ((is_any_too_long (text ∷ other ∷ []) ≡ false) × WritesWhole (explanation table text other) taken taken_after r)
