-- What reading the words of an input answers.
use Rattle.std.specs.Prelude.{◌≡◌, ◌⊎◌, ◌==◌, ℕ, ◌+◌, if◌then◌else◌, List, [], ◌∷◌, ◌++◌, length, Option, Some, Result, Ok, Err}
use Rattle.coll_devices.specs.Devices.{raised}
use Rattle.coll_devices.specs.PhysicalLines.{lines_of}
use Rattle.coll_nodes.specs.Table.{Collation}
use Rattle.coll_table.specs.Loads.{IsCutBehind}
use Rattle.coll_key.specs.SortKey.{key_of}
use Rattle.coll_faults.specs.Faults.{fault_number}
use Rattle.coll_bench.specs.BatchRuns.{Ending, ReadFailed, WriteFailed, Starved, Refused, ending_of}
use Rattle.coll_faults.specs.declared.faults.RunFault.{RunFault}
use Rattle.coll_word_lists.specs.KeyedWords.{KeyedWord, texts_of}
use Rattle.coll_word_lists.specs.PackedKeys.{packed_key}
use Rattle.coll_word_lists.specs.Words.{line_word, words_from, words_of}

-- no line is at fault
abbrev pub AreWords : (lines : List (List ℕ)) → Type 0
AreWords lines = (words : List (List ℕ)) × (words_from 0 lines ≡ Ok words)

-- memory was refused at a line, and no line before it is at fault
abbrev pub StarvesWithin : (text : List ℕ) → (number : ℕ) → Type 0
StarvesWithin text number =
    (whole : List (List ℕ)) × (line : List ℕ) × (later : List (List ℕ)) × (lines_of text ≡ whole ++ line ∷ later) × AreWords whole
    × (number ≡ length whole + 1)

-- what a fault says of the text, by its kind: a read failed behind lines of which none is at fault; memory was refused, at no line or
-- at one; or a line is at fault
abbrev pub WordsFail : Ending → (text : List ℕ) → (left : Option (List ℕ)) → RunFault → Type 0
WordsFail ReadFailed text left ended = (ended.line ≡ 0) × IsCutBehind AreWords text left
WordsFail WriteFailed text left ended = ⊥
WordsFail Starved text left ended = (ended.line ≡ 0) ⊎ StarvesWithin text ended.line
WordsFail Refused text left ended = words_of text ≡ Err ended

-- these are the words of the text that the device had
abbrev pub AreWordsOf : (left : Option (List ℕ)) → List KeyedWord → Type 0
AreWordsOf left words = (text : List ℕ) → left ≡ Some text → words_of text ≡ Ok (texts_of words)

-- a fault says this of the text that the device had
abbrev pub ReadingFails : (left left_after : Option (List ℕ)) → RunFault → Type 0
ReadingFails left left_after ended = (text : List ℕ) → left ≡ Some text → WordsFail (ending_of ended) text left_after ended

-- a failed read is counted, and nothing else is
abbrev pub CountsReading : {T : Type 0} → ℕ → ℕ → Result T RunFault → Type 0
CountsReading old new (Ok read) = new ≡ old
CountsReading old new (Err ended) = new ≡ (if fault_number ended.fault == 67 then raised old else old)

-- the key of a word, as a word is kept with it
abbrev pub word_key : Collation → List ℕ → List ℕ
word_key table text = packed_key (key_of table text)

-- a word more stands behind others, with the key that this gives for its text
abbrev pub PutsWord : (List ℕ → List ℕ) → (old : List KeyedWord) → (text : List ℕ) → (new : List KeyedWord) → Type 0
PutsWord key old text new = (word : KeyedWord) × (new ≡ old ++ word ∷ []) × (word.text ≡ text) × (word.key ≡ key word.text)

-- the word of a line more stands behind those of the lines before it
abbrev pub TakesLine : (List ℕ → List ℕ) → (old : List KeyedWord) → (line : List ℕ) → (new : List KeyedWord) → Type 0
TakesLine key old line new = (text : List ℕ) × (line_word (length old) line ≡ Ok text) × PutsWord key old text new
