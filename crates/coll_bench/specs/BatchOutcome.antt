-- What a batch answers: the table that its inputs give, or the first fault met, and then the bytes of its output (the project's
-- own).
use Rattle.std.specs.Prelude.{ℕ, suc, Bool, true, if◌then◌else◌, List, [], ◌∷◌, ◌++◌, length, Result, Ok, Err}
use Rattle.std.specs.List.{flat_map, list_any}
use Rattle.coll_devices.specs.PhysicalLines.{lines_of}
use Rattle.coll_nodes.specs.Table.{Collation}
use Rattle.coll_texts.specs.CanonicalText.{text}
use Rattle.coll_texts.specs.ExportedText.{exported_text}
use Rattle.coll_table.specs.Delta.{delta}
use Rattle.coll_texts.specs.Reading.{reads}
use Rattle.coll_texts.specs.declared.load_faults.LoadFault.{LoadFault}
use Rattle.coll_table.specs.declared.refusals.Refusal.{Refusal}
use Rattle.coll_requests.specs.DeltaFiles.{DeltaEnd, Ended, AtFault, Undecided as EndUndecided, DeltaOutcome, at_line, delta_outcome}
use Rattle.coll_requests.specs.declared.delta_faults.DeltaCause.{DeltaCause}
use Rattle.coll_requests.specs.declared.delta_faults.DeltaFault.{DeltaFault}
use Rattle.coll_requests.specs.declared.delta_files.StatementAt.{StatementAt}
use Rattle.coll_key.specs.CompiledListing.{compiled_listing}
use Rattle.coll_key.specs.KeyLimits.{is_too_long}
use Rattle.coll_key.specs.SortKey.{key_of}
use Rattle.coll_key.specs.TextOrder.{order_of}
use Rattle.coll_key.specs.WrittenKey.{written_key}
use Rattle.coll_key.specs.declared.key_faults.KeyFault.TheVariants as key_fault
use Rattle.coll_faults.specs.Faults.{delta_fault_of}
use Rattle.coll_bench.specs.Replies.{checked_line, order_word}
use Rattle.coll_bench.specs.declared.batches.Batch.{Batch}
use Rattle.coll_bench.specs.declared.batches.Batch.TheVariants as batch
use Rattle.coll_faults.specs.declared.faults.Fault.{Fault}
use Rattle.coll_faults.specs.declared.faults.Fault.TheVariants as fault
use Rattle.coll_faults.specs.declared.faults.RunFault.{RunFault}

-- a fault of an input, by its number, at a line of it
abbrev pub fault_in : (input line : ℕ) → Fault → RunFault
fault_in input line f = record { input = input; line = line; fault = f }

-- a fault of the table, which is the first input
abbrev pub table_fault : LoadFault → RunFault
table_fault f = fault_in 0 f.line (fault.Load f)

-- a fault of a delta file
abbrev pub delta_fault_in : (input : ℕ) → DeltaFault → RunFault
delta_fault_in input f = fault_in input f.line (delta_fault_of f.line f.cause)

-- what follows, unless there was a fault
abbrev pub unless_faulty : {A B : Type 0} → Result A RunFault → (A → Result B RunFault) → Result B RunFault
unless_faulty (Ok a) later = later a
unless_faulty (Err f) later = Err f

-- The table.

-- the table that its text is, or the fault
abbrev pub table_or_fault : Result Collation LoadFault → Result Collation RunFault
table_or_fault (Ok table) = Ok table
table_or_fault (Err f) = Err (table_fault f)

-- The delta files.

-- what a statement at a line of a delta file makes of a table, or its refusal
abbrev pub judged_at : (input line : ℕ) → Result Collation Refusal → Result Collation RunFault
judged_at input line (Ok table) = Ok table
judged_at input line (Err refusal) = Err (fault_in input line (fault.Table refusal))

-- a table after the statements of a delta file, one after another; the first that is refused is a fault at its line
unfoldable pub rewritten : (input : ℕ) → Collation → List StatementAt → Result Collation RunFault
rewritten input table [] = Ok table
rewritten input table (at ∷ later) =
    unless_faulty (judged_at input at.line (delta table at.statement)) (λ after. rewritten input after later)

-- what lines of a delta file decide: the table after the file, or a fault; or nothing yet, and then the cause of the fault if the
-- file ends with them
pub data Decision : Type 0 where
  Decided : Result Collation RunFault → Decision
  Undecided : DeltaCause → Decision

-- what lines decide that end so, once their statements gave a table
abbrev pub by_ending : (input : ℕ) → DeltaEnd → Collation → Decision
by_ending input Ended table = Decided (Ok table)
by_ending input (AtFault f) table = Decided (Err (delta_fault_in input f))
by_ending input (EndUndecided cause) table = Undecided cause

-- what lines decide by the table that their statements gave: a refused statement comes before what ends them
abbrev pub by_statements : Result Collation RunFault → (Collation → Decision) → Decision
by_statements (Ok table) later = later table
by_statements (Err f) later = Decided (Err f)

-- what lines of a delta file decide, by what they say
unfoldable pub decision : (input : ℕ) → Collation → DeltaOutcome → Decision
decision input table said = by_statements (rewritten input table said.statements) (by_ending input said.ending)

-- the answer to a delta file of so many lines: where they decide nothing, the file ends too early
abbrev pub answer_at_end : (input count : ℕ) → Decision → Result Collation RunFault
answer_at_end input count (Decided answer) = answer
answer_at_end input count (Undecided cause) = Err (delta_fault_in input (at_line count cause))

-- a table after a delta file, or the first fault in it
unfoldable pub after_delta : (input : ℕ) → Collation → (text : List ℕ) → Result Collation RunFault
after_delta input table file = answer_at_end input (length (lines_of file)) (decision input table (delta_outcome true (lines_of file)))

-- the statements of a delta file, up to the end of its category or its first fault
abbrev pub statements_of : (text : List ℕ) → List StatementAt
statements_of file = (delta_outcome true (lines_of file)).statements

-- a table after delta files, of which the first is the input with this number
unfoldable pub after_deltas : (first : ℕ) → Collation → (texts : List (List ℕ)) → Result Collation RunFault
after_deltas first table [] = Ok table
after_deltas first table (file ∷ files) = unless_faulty (after_delta first table file) (λ after. after_deltas (suc first) after files)

-- the table that all inputs give, or the first fault in them: the text of the table is input 0, and the delta files are the inputs
-- from 1 on
unfoldable pub after_inputs : (table_text : List ℕ) → (delta_texts : List (List ℕ)) → Result Collation RunFault
after_inputs table_text delta_texts = unless_faulty (table_or_fault (reads table_text)) (λ table. after_deltas 1 table delta_texts)

-- The output.

-- the texts that a batch is about
abbrev pub texts_of : Batch → List (List ℕ)
texts_of batch.Check = []
texts_of batch.Print = []
texts_of batch.Export = []
texts_of batch.Compile = []
texts_of (batch.Key texts) = texts
texts_of (batch.Compare first second) = first ∷ second ∷ []

-- one of these texts is too long to have a key
abbrev pub is_any_too_long : List (List ℕ) → Bool
is_any_too_long texts = list_any is_too_long texts

-- the line of a key
abbrev pub key_line : Collation → List ℕ → List ℕ
key_line table t = written_key table.rules (key_of table t) ++ 10 ∷ []

-- what a batch writes of a table: a key line for each text in their order
unfoldable pub batch_output : Batch → Collation → List ℕ
batch_output batch.Check table = checked_line table
batch_output batch.Print table = text table
batch_output batch.Export table = exported_text table
batch_output batch.Compile table = compiled_listing table
batch_output (batch.Key texts) table = flat_map (key_line table) texts
batch_output (batch.Compare first second) table = order_word (order_of table first second) ++ 10 ∷ []

-- the fault of a text that is too long, which comes from no line
abbrev pub text_too_long : RunFault
text_too_long = fault_in 0 0 (fault.Key key_fault.TextTooLong)

-- what a batch writes of the table that its inputs gave, unless a text is too long
abbrev pub output_or_fault : Batch → Collation → Result (List ℕ) RunFault
output_or_fault b table = if is_any_too_long (texts_of b) then Err text_too_long else Ok (batch_output b table)

-- what a batch writes, or the fault that it answers, of the texts of all its inputs
unfoldable pub batch_outcome : Batch → (table_text : List ℕ) → (delta_texts : List (List ℕ)) → Result (List ℕ) RunFault
batch_outcome b table_text delta_texts = unless_faulty (after_inputs table_text delta_texts) (output_or_fault b)
