-- The replies of a session (the project's own): what is written for each request, from the history before it.
use Rattle.std.specs.Prelude.{ℕ, suc, ◌+◌, Bool, true, false, ◌&&◌, ◌||◌, if◌then◌else◌, List, [], ◌∷◌, ◌++◌}
use Rattle.std.specs.Prelude.{length, Option, Some, None, Result, Ok, Err, codes, decimal}
use Rattle.coll_lex.specs.LogicalLines.{first_choice, later_choices}
use Rattle.coll_lex.specs.declared.faults.LexFault.TheVariants as lex
use Rattle.coll_nodes.specs.Table.{Collation, Section, entries_of}
use Rattle.coll_texts.specs.CanonicalText.{text}
use Rattle.coll_texts.specs.Pieces.{words_line}
use Rattle.coll_texts.specs.PrintedParts.{id_bytes, symbol_bytes}
use Rattle.coll_syntax.specs.declared.statements.Statement.{Statement}
use Rattle.coll_syntax.specs.declared.statements.Statement.TheVariants as statement
use Rattle.coll_key.specs.KeyLimits.{is_too_long}
use Rattle.coll_key.specs.SortKey.{key_of}
use Rattle.coll_key.specs.TextOrder.{order_of}
use Rattle.coll_key.specs.WrittenKey.{written_key}
use Rattle.coll_key.specs.declared.key_faults.KeyFault.TheVariants as key_fault
use Rattle.std.specs.declared.cmp.Ordering.{Ordering}
use Rattle.std.specs.declared.cmp.Ordering.TheVariants.{Less, Equal, Greater}
use Rattle.coll_history.specs.Histories.{History, table_now, judged, taken_back, put_again}
use Rattle.coll_history.specs.Withdrawal.{is_numbered, withdrawn}
use Rattle.coll_table.specs.Refusals.{refusal_number, refusal_name}
use Rattle.coll_table.specs.declared.refusals.Refusal.{Refusal}
use Rattle.coll_faults.specs.Faults.{fault_number, fault_name, fault_of}
use Rattle.coll_nodes.specs.declared.entries.Entry.{Entry}
use Rattle.coll_history.specs.declared.history_faults.BenchFault.{BenchFault}
use Rattle.coll_history.specs.declared.history_faults.BenchFault.TheVariants as bench
use Rattle.coll_faults.specs.declared.faults.Fault.{Fault}
use Rattle.coll_faults.specs.declared.faults.Fault.TheVariants as fault
use Rattle.coll_requests.specs.declared.session_lines.Command.{Command}
use Rattle.coll_requests.specs.declared.session_lines.Command.TheVariants as command
use Rattle.coll_requests.specs.declared.requests.Request.{Request}
use Rattle.coll_requests.specs.declared.requests.Request.TheVariants as kind
use Rattle.coll_requests.specs.declared.requests.RequestAt.{RequestAt}
use Rattle.coll_requests.specs.declared.requests.FaultAt.{FaultAt}

-- a word and a number
unfoldable pub counted_line : List ℕ → ℕ → List ℕ
counted_line word n = words_line (word ∷ decimal n ∷ [])

-- a word, and then the number and the name of a fault
abbrev pub told_line : List ℕ → Fault → List ℕ
told_line word f = word ++ words_line (decimal (fault_number f) ∷ fault_name f ∷ [])

-- the number of a statement, and the number and the name of its refusal
abbrev pub refused_statement : ℕ → Refusal → List (List ℕ)
refused_statement number refusal = decimal number ∷ decimal (refusal_number refusal) ∷ refusal_name refusal ∷ []

-- the last words of the reply to a refusal: that of a withdrawal, for which another statement is refused, tells that one and its refusal
abbrev pub refusal_words : Fault → List (List ℕ)
refusal_words (fault.Bench (bench.StillNeeded statement refusal)) = refused_statement statement refusal
refusal_words f = []

-- the reply to what is refused
unfoldable pub refused_line : Fault → List ℕ
refused_line f = words_line (codes "refused" ∷ decimal (fault_number f) ∷ fault_name f ∷ refusal_words f)

-- the reply to a withdrawal for which another statement is refused
abbrev pub still_needed_line : ℕ → Refusal → List ℕ
still_needed_line statement refusal = words_line (codes "refused" ∷ codes "71" ∷ codes "StillNeeded" ∷ refused_statement statement refusal)

-- the replies to faults, one after another
unfoldable pub refused_lines : List FaultAt → List ℕ
refused_lines [] = []
refused_lines (at ∷ later) = refused_line (fault_of at.fault) ++ refused_lines later

-- one line of a listing: the rank, and the identifier
unfoldable pub listed_line : ℕ → Entry → List ℕ
listed_line rank entry = words_line (decimal rank ∷ id_bytes entry.id ∷ [])

-- the lines of a listing, from a rank on
unfoldable pub listed_lines : ℕ → List Entry → List ℕ
listed_lines rank [] = []
listed_lines rank (entry ∷ entries) = listed_line rank entry ++ listed_lines (suc rank) entries

-- the line before the entries of a section that has a name
unfoldable pub section_line : List ℕ → List ℕ
section_line name = words_line (codes "section" ∷ symbol_bytes name ∷ [])

-- the line of a section's name, if it has one
abbrev pub header : Option (List ℕ) → List ℕ
header None = []
header (Some name) = section_line name

-- the lines of a listing by sections, from a rank on
unfoldable pub listed_sections : ℕ → List Section → List ℕ
listed_sections rank [] = []
listed_sections rank (section ∷ later) =
    header section.name ++ (listed_lines rank section.entries ++ listed_sections (rank + length section.entries) later)

-- the reply to `:list`
unfoldable pub listing : Collation → List ℕ
listing table = listed_sections 1 table.sections ++ counted_line (codes "listed") (length (entries_of table))

-- the reply to `:check`
unfoldable pub checked_line : Collation → List ℕ
checked_line table = words_line (
    codes "table"
    ∷ codes "entries" ∷ decimal (length (entries_of table))
    ∷ codes "declared" ∷ decimal (length table.declared)
    ∷ codes "sections" ∷ decimal (length table.sections)
    ∷ codes "levels" ∷ decimal (length table.rules)
    ∷ []
    )

-- a reply that counts what remains, or a refusal
abbrev pub count_reply : List ℕ → Result History BenchFault → List ℕ
count_reply word (Ok h) = counted_line word (length h.remaining)
count_reply word (Err f) = refused_line (fault.Bench f)

-- what a statement is, for a history, by the names that it was given with: a block by its target and the number of its lines
abbrev pub statement_words : Statement → List (List ℕ)
statement_words (statement.Symbol name) = codes "symbol" ∷ symbol_bytes name ∷ []
statement_words (statement.Element name text) = codes "element" ∷ symbol_bytes name ∷ []
statement_words (statement.Equivalence name symbol) = codes "equivalence" ∷ symbol_bytes name ∷ symbol_bytes symbol ∷ []
statement_words (statement.Block target lines) = codes "block" ∷ id_bytes target ∷ decimal (length lines) ∷ []
statement_words (statement.SectionAfter name after) = codes "section" ∷ symbol_bytes name ∷ symbol_bytes after ∷ []
statement_words (statement.Reweight line) = codes "reweight" ∷ id_bytes line.id ∷ []

-- the line of a statement with its number
unfoldable pub history_line : ℕ → Statement → List ℕ
history_line number s = words_line (decimal number ∷ statement_words s)

-- the lines of statements, from a number on
unfoldable pub history_lines : ℕ → List Statement → List ℕ
history_lines number [] = []
history_lines number (s ∷ later) = history_line number s ++ history_lines (suc number) later

-- the line that counts what remains and what was taken back
unfoldable pub history_count : History → List ℕ
history_count h = words_line (codes "history" ∷ decimal (length h.remaining) ∷ decimal (length h.undone) ∷ [])

-- the reply to `:history`
unfoldable pub history_listing : History → List ℕ
history_listing h = history_lines 1 h.remaining ++ history_count h

-- the reply to a text that is too long
abbrev pub too_long_line : List ℕ
too_long_line = refused_line (fault.Key key_fault.TextTooLong)

-- the reply to `:key`
unfoldable pub key_line : Collation → (text : List ℕ) → List ℕ
key_line table text = if is_too_long text then too_long_line else written_key table.rules (key_of table text) ++ 10 ∷ []

-- the word of an order
abbrev pub order_word : Ordering → List ℕ
order_word Less = codes "less"
order_word Equal = codes "equal"
order_word Greater = codes "greater"

-- the reply to `:compare`
unfoldable pub order_line : Collation → (text other : List ℕ) → List ℕ
order_line table text other = if is_too_long text || is_too_long other then too_long_line else order_word (order_of table text other)
    ++ 10 ∷ []

-- the reply to a command
abbrev pub command_reply : History → Command → List ℕ
command_reply h command.Undo = count_reply (codes "undone") (taken_back h)
command_reply h command.Redo = count_reply (codes "redone") (put_again h)
command_reply h command.List = listing (table_now h)
command_reply h command.Print = text (table_now h)
command_reply h (command.Key t) = key_line (table_now h) t
command_reply h (command.Compare t u) = order_line (table_now h) t u
command_reply h command.History = history_listing h
command_reply h (command.Withdraw k) = count_reply (codes "withdrawn") (withdrawn h k)
command_reply h command.Check = checked_line (table_now h)

-- the reply to a request
unfoldable pub reply : History → Request → List ℕ
reply h (kind.Command c) = command_reply h c
reply h (kind.Statement s) = count_reply (codes "ok") (judged h s)
reply h (kind.Refused f) = refused_line (fault_of f)

-- the history where a call gave one, or the one from before
abbrev pub history_or : History → Result History BenchFault → History
history_or before (Ok h) = h
history_or before (Err f) = before

-- the history after a command
abbrev pub history_after_command : History → Command → History
history_after_command h command.Undo = history_or h (taken_back h)
history_after_command h command.Redo = history_or h (put_again h)
history_after_command h command.List = h
history_after_command h command.Print = h
history_after_command h (command.Key t) = h
history_after_command h (command.Compare t u) = h
history_after_command h command.History = h
history_after_command h (command.Withdraw k) = history_or h (withdrawn h k)
history_after_command h command.Check = h

-- the history after a request: one that is refused, and a listing, leave it
unfoldable pub history_after : History → Request → History
history_after h (kind.Command c) = history_after_command h c
history_after h (kind.Statement s) = history_or h (judged h s)
history_after h (kind.Refused f) = h

-- a command whose answer takes memory: a key, the order of two texts, and the withdrawal of a statement that remains
abbrev pub may_starve_command : History → Command → Bool
may_starve_command h command.Undo = false
may_starve_command h command.Redo = false
may_starve_command h command.List = false
may_starve_command h command.Print = false
may_starve_command h (command.Key t) = true
may_starve_command h (command.Compare t u) = true
may_starve_command h command.History = false
may_starve_command h (command.Withdraw k) = is_numbered h k
may_starve_command h command.Check = false

-- what takes memory to answer may be refused for lack of it
abbrev pub may_starve : History → Request → Bool
may_starve h (kind.Command c) = may_starve_command h c
may_starve h (kind.Statement s) = true
may_starve h (kind.Refused f) = false

-- the reply to lack of memory
abbrev pub starved_line : List ℕ
starved_line = refused_line (fault.Lex lex.OutOfMemory)

-- a request that was starved has that reply and leaves the history
abbrev pub reply_if : Bool → History → Request → List ℕ
reply_if starved h request = if starved && may_starve h request then starved_line else reply h request

-- the history after a request that was starved or not
abbrev pub history_after_if : Bool → History → Request → History
history_after_if starved h request = if starved && may_starve h request then h else history_after h request

-- what is written for what a call of the history answered
abbrev pub outcome_line : List ℕ → Result ℕ BenchFault → List ℕ
outcome_line word (Ok n) = counted_line word n
outcome_line word (Err f) = refused_line (fault.Bench f)

-- the replies to requests, joined. A choice that is true stands for a request that memory was refused for; where no choice
-- is left, memory was there
unfoldable pub answers : History → List RequestAt → List Bool → List ℕ
answers h [] starved = []
answers h (request ∷ later) starved = reply_if (first_choice starved) h request.request
    ++ answers (history_after_if (first_choice starved) h request.request) later (later_choices starved)
