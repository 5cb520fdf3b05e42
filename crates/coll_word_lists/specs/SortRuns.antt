-- What sorting the words of an input writes and answers.
use Rattle.std.specs.Prelude.{◌≡◌, ◌⊎◌, ℕ, List, [], ◌++◌, Option, Some, Result, Ok, Err}
use Rattle.std.specs.Io.KnownBytes.{Appends}
use Rattle.coll_devices.specs.Devices.{AppendsPrefix}
use Rattle.coll_nodes.specs.Table.{Collation}
use Rattle.coll_nodes.specs.WellFormed.{IsWellFormed}
use Rattle.coll_bench.specs.BatchReading.{starved_in}
use Rattle.coll_bench.specs.BatchRuns.{Ending, WriteFailed, ending_of}
use Rattle.coll_bench.specs.Serving.{write_failed}
use Rattle.coll_faults.specs.declared.faults.RunFault.{RunFault}
use Rattle.coll_word_lists.specs.KeyedWords.{KeyedWord, AreKeyed, texts_of}
use Rattle.coll_word_lists.specs.SortedWords.{AreSorted}
use Rattle.coll_word_lists.specs.Words.{words_of, written_words}
use Rattle.coll_word_lists.specs.WordReading.{WordsFail}

-- the words of a text, sorted by a table
abbrev pub SortsText : Collation → (text : List ℕ) → (sorted : List (List ℕ)) → Type 0
SortsText table text sorted = (words : List (List ℕ)) × (words_of text ≡ Ok words) × AreSorted table words sorted

-- what a run did that ended with a fault, by its kind: a write that fails leaves a prefix of the output, and nothing is written
-- where a line is at fault, a read fails or memory is refused
abbrev pub SortRanTo : Ending → Collation → (text : List ℕ) → (left : Option (List ℕ)) → (written : List ℕ) → RunFault → Type 0
SortRanTo WriteFailed table text left written ended =
    (ended ≡ write_failed) × (sorted : List (List ℕ)) × (later : List ℕ) × SortsText table text sorted
    × (written_words sorted ≡ written ++ later)
SortRanTo kind table text left written ended = (written ≡ []) × WordsFail kind text left ended

-- what a run wrote, by its answer
abbrev pub SortRan : Collation → (text : List ℕ) → (left : Option (List ℕ)) → (written : List ℕ) → Result (Unit {0}) RunFault → Type 0
SortRan table text left written (Ok done) = (sorted : List (List ℕ)) × SortsText table text sorted × (written ≡ written_words sorted)
SortRan table text left written (Err ended) = SortRanTo (ending_of ended) table text left written ended

-- the theorem of a sort: whatever text the source has, and whatever the sink took before, what was written and what was answered are
-- as stated for this text
abbrev pub SortRuns : Collation → (left left_after taken taken_after : Option (List ℕ)) → Result (Unit {0}) RunFault → Type 0
SortRuns table left left_after taken taken_after r =
    (text before : List ℕ) → left ≡ Some text → taken ≡ Some before → (written : List ℕ) × (taken_after ≡ Some (before ++ written))
    × SortRan table text left_after written r

-- these are the texts of words, sorted by each table that the words are keyed by
abbrev pub SortsWords : List KeyedWord → (sorted : List (List ℕ)) → Type 0
SortsWords words sorted = (table : Collation) → IsWellFormed table → AreKeyed table words → AreSorted table (texts_of words) sorted

-- the texts were sorted and written; or a write failed, and a prefix of them was; or memory was refused, and nothing was written
abbrev pub WritesSorted : Collation → (texts : List (List ℕ)) → (taken taken_after : Option (List ℕ)) → Result (Unit {0}) RunFault → Type 0
WritesSorted table texts taken taken_after (Ok done) =
    (sorted : List (List ℕ)) × AreSorted table texts sorted × Appends taken taken_after (written_words sorted)
WritesSorted table texts taken taken_after (Err ended) =
    ((ended ≡ starved_in 0) × (taken_after ≡ taken))
    ⊎ ((ended ≡ write_failed) × (sorted : List (List ℕ)) × AreSorted table texts sorted
    × AppendsPrefix taken taken_after (written_words sorted))
