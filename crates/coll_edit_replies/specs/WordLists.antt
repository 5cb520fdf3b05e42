-- What is written for `:words`: the words of a text in the order now, marked where the last statement changed what stands beside them
-- (the project's own).
use Rattle.std.specs.Prelude.{◌≡◌, ◌⊎◌, ◌==◌, ◌||◌, not, ℕ, Bool, true, false, if◌then◌else◌, List, [], ◌∷◌, ◌++◌, length, codes}
use Rattle.std.specs.Prelude.{Option, Some, Result, Ok, Err}
use Rattle.std.specs.List.{flat_map}
use Rattle.std.specs.Io.KnownBytes.{Appends}
use Rattle.coll_devices.specs.Devices.{AppendsPrefix}
use Rattle.coll_lex.specs.declared.faults.LexFault.TheVariants as lex
use Rattle.coll_nodes.specs.Table.{Collation}
use Rattle.coll_history.specs.Histories.{History, stepped_back, table_now}
use Rattle.coll_bench.specs.Replies.{counted_line}
use Rattle.coll_bench.specs.Serving.{write_failed}
use Rattle.coll_faults.specs.declared.faults.Fault.TheVariants as fault
use Rattle.coll_faults.specs.declared.faults.RunFault.{RunFault}
use Rattle.coll_word_lists.specs.Neighbours.{NumberedWord}
use Rattle.coll_word_lists.specs.NumberedWords.{AreInOrder, numbered_from}
use Rattle.coll_word_lists.specs.WordReading.{ReadingFails}
use Rattle.coll_word_lists.specs.Words.{words_of, written_word}

-- the table before the last of the statements that remain; where none does, the table now
abbrev pub table_before : History → Collation
table_before h = table_now (stepped_back h)

-- the line of the first word of a list, or 0 where there is none: lines are numbered from 1
abbrev pub first_line : List NumberedWord → ℕ
first_line [] = 0
first_line (word ∷ words) = word.line

-- in a list, the line of the word directly before the word of a line; before the first word stands this line
abbrev pub line_before : (before : ℕ) → List NumberedWord → (line : ℕ) → ℕ
line_before before [] line = 0
line_before before (word ∷ words) line = if word.line == line then before else line_before word.line words line

-- in a list, the line of the word directly behind the word of a line, or 0 where that is the last
abbrev pub line_behind : List NumberedWord → (line : ℕ) → ℕ
line_behind [] line = 0
line_behind (word ∷ words) line = if word.line == line then first_line words else line_behind words line

-- the word of a line stands beside another one than in the old list: before it stands another one, or none, or behind it
abbrev pub stands_elsewhere : (old new : List NumberedWord) → (line : ℕ) → Bool
stands_elsewhere old new line =
    not (line_before 0 old line == line_before 0 new line) || not (line_behind old line == line_behind new line)

-- what stands before a word
abbrev pub mark : Bool → List ℕ
mark true = codes "* "
mark false = codes "  "

-- a word behind its mark, and a line feed
abbrev pub marked_line : Bool → (text : List ℕ) → List ℕ
marked_line marked text = mark marked ++ written_word text

-- a word of a list, marked where it stands beside another one than in the old list
abbrev pub word_line : (old new : List NumberedWord) → NumberedWord → List ℕ
word_line old new word = marked_line (stands_elsewhere old new word.line) word.text

-- the words of a list, and how many they are
abbrev pub words_text : (old new : List NumberedWord) → List ℕ
words_text old new = flat_map (word_line old new) new ++ counted_line (codes "words") (length new)

-- what is written of words: they stand in the order of the table now, marked where they stand beside others than in that of the table
-- before; equal words stay in the order of their lines in both
abbrev pub IsWordsText : (before now : Collation) → (words : List (List ℕ)) → (written : List ℕ) → Type 0
IsWordsText before now words written =
    (old : List NumberedWord) × (new : List NumberedWord) × AreInOrder before (numbered_from 1 words) old
    × AreInOrder now (numbered_from 1 words) new × (written ≡ words_text old new)

-- what is written of the words of a text
abbrev pub ListsText : History → (text : List ℕ) → (written : List ℕ) → Type 0
ListsText h text written =
    (words : List (List ℕ)) × (words_of text ≡ Ok words) × IsWordsText (table_before h) (table_now h) words written

-- memory was refused
abbrev pub IsStarved : RunFault → Type 0
IsStarved ended = ended.fault ≡ fault.Lex lex.OutOfMemory

-- why nothing is written: the words are at fault, as where words are sorted, or memory was refused behind them
abbrev pub ListingFails : (left left_after : Option (List ℕ)) → RunFault → Type 0
ListingFails left left_after ended = ReadingFails left left_after ended ⊎ IsStarved ended

-- what listing the words of an input did, whatever text it had left: all was written; or a write failed, and a prefix of that was; or
-- there is a fault, and nothing was written
abbrev pub ListsWords : History → (left left_after taken taken_after : Option (List ℕ)) → Result (Unit {0}) RunFault → Type 0
ListsWords h left left_after taken taken_after (Ok done) =
    (text : List ℕ) → left ≡ Some text → (written : List ℕ) × ListsText h text written × Appends taken taken_after written
ListsWords h left left_after taken taken_after (Err ended) =
    ((ended ≡ write_failed) × ((text : List ℕ) → left ≡ Some text → (written : List ℕ) × ListsText h text written
    × AppendsPrefix taken taken_after written))
    ⊎ ((taken_after ≡ taken) × ListingFails left left_after ended)
