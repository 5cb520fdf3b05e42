-- What is written for a line of `edit` that asks for nothing but the table and the history (the project's own).
use Rattle.std.specs.Prelude.{◌≡◌, ◌⊎◌, ℕ, true, false, List, [], ◌∷◌, Option, Result, encode_utf8_all}
use Rattle.coll_devices.specs.Devices.{Sends}
use Rattle.coll_nodes.specs.Table.{Collation}
use Rattle.coll_history.specs.Histories.{History, table_now}
use Rattle.coll_bench.specs.BatchOutcome.{is_any_too_long, text_too_long}
use Rattle.coll_bench.specs.BatchWriting.{starved_key}
use Rattle.coll_faults.specs.declared.faults.Fault.TheVariants as fault
use Rattle.coll_delta_texts.specs.DeltaText.{delta_text}
use Rattle.coll_explanations.specs.Explanations.{explanation}
use Rattle.coll_edit_replies.specs.Help.{SendsHelp}
use Rattle.coll_edit_replies.specs.Showing.{refusal_told, shown}
use Rattle.coll_edit.specs.declared.own_lines.OwnLine.{OwnLine}
use Rattle.coll_edit.specs.declared.own_lines.OwnLine.TheVariants as own

-- the reply to `:explain`: the explanation of two texts, or that memory was refused; where one is too long, that this is refused
abbrev pub IsExplained : Collation → (text other : List ℕ) → (written : List ℕ) → Type 0
IsExplained table text other written =
    ((is_any_too_long (text ∷ other ∷ []) ≡ true) × (written ≡ refusal_told text_too_long.fault))
    ⊎ ((is_any_too_long (text ∷ other ∷ []) ≡ false)
    × ((written ≡ explanation table text other) ⊎ (written ≡ refusal_told starved_key)))

-- it is sent
abbrev pub SendsExplained : {T E : Type 0} → Collation → (text other : List ℕ) → (taken taken_after : Option (List ℕ)) → Result T E → Type 0
SendsExplained table text other taken taken_after r =
    (written : List ℕ) × IsExplained table text other written × Sends taken taken_after written r

-- the reply to a line is sent, which looks at the table that the statements give, or at these; what `:help` writes alone isn't stated,
-- and the lines that ask for more are answered elsewhere
abbrev pub SendsAnswer : {T E : Type 0} → History → OwnLine → (taken taken_after : Option (List ℕ)) → Result T E → Type 0
SendsAnswer h (own.Show id) taken taken_after r = Sends taken taken_after (shown (table_now h) id) r
SendsAnswer h (own.Explain text other) taken taken_after r = SendsExplained (table_now h) text other taken taken_after r
SendsAnswer h own.Delta taken taken_after r = Sends taken taken_after (delta_text [] h.remaining) r
SendsAnswer h (own.HelpNumber number) taken taken_after r = SendsHelp taken taken_after (encode_utf8_all number) r
SendsAnswer h (own.Wrong wrong) taken taken_after r = Sends taken taken_after (refusal_told (fault.Syntax wrong)) r
SendsAnswer h own.Help taken taken_after r = Unit {0}
SendsAnswer h (own.Key text) taken taken_after r = Unit {0}
SendsAnswer h (own.Compare text other) taken taken_after r = Unit {0}
SendsAnswer h (own.Write name) taken taken_after r = Unit {0}
SendsAnswer h (own.Words name) taken taken_after r = Unit {0}
SendsAnswer h own.Quit taken taken_after r = Unit {0}
