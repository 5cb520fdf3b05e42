-- What reviewing a delta file over the words of an input writes and answers.
use Rattle.std.specs.Prelude.{◌≡◌, ◌==◌, ◌&&◌, ℕ, zero, suc, if◌then◌else◌, List, [], ◌++◌, Option, Some, Result, Ok, Err}
use Rattle.coll_devices.specs.Devices.{raised}
use Rattle.coll_nodes.specs.Table.{Collation}
use Rattle.coll_faults.specs.Faults.{fault_number}
use Rattle.coll_bench.specs.BatchOutcome.{after_delta, statements_of}
use Rattle.coll_bench.specs.BatchReading.{DeltaFails}
use Rattle.coll_bench.specs.BatchRuns.{ending_of}
use Rattle.coll_bench.specs.Serving.{write_failed}
use Rattle.coll_faults.specs.declared.faults.RunFault.{RunFault}
use Rattle.coll_reviews.specs.Reviews.{IsReview}
use Rattle.coll_word_lists.specs.WordReading.{WordsFail}
use Rattle.coll_word_lists.specs.Words.{words_of}

-- the text of a delta file is without fault, the words of a text are these, and a review of its statements writes this
abbrev pub ReviewsText : Collation → (delta_text words_text : List ℕ) → (written : List ℕ) → Type 0
ReviewsText table delta_text words_text written =
    (after : Collation) × (words : List (List ℕ)) × (after_delta 1 table delta_text ≡ Ok after) × (words_of words_text ≡ Ok words)
    × IsReview table (statements_of delta_text) words written

-- what a run did that ended with a fault, by the number of its input: with none a write failed, and left a prefix of the output; the
-- delta file is at fault, and the words are not; or the words are at fault; and then nothing is written
abbrev pub ReviewRanTo : (input : ℕ) → Collation → (delta_text words_text : List ℕ) → (delta_left words_left : Option (List ℕ))
    → (written : List ℕ) → RunFault → Type 0
ReviewRanTo zero table delta_text words_text delta_left words_left written ended =
    (ended ≡ write_failed) × (later : List ℕ) × ReviewsText table delta_text words_text (written ++ later)
ReviewRanTo (suc zero) table delta_text words_text delta_left words_left written ended =
    (written ≡ []) × (words : List (List ℕ)) × (words_of words_text ≡ Ok words)
    × DeltaFails (ending_of ended) 1 table delta_text delta_left ended
ReviewRanTo (suc (suc zero)) table delta_text words_text delta_left words_left written ended =
    (written ≡ []) × WordsFail (ending_of ended) words_text words_left (record ended { input = 0 })
ReviewRanTo (suc (suc (suc more))) table delta_text words_text delta_left words_left written ended = ⊥

-- what a run wrote, by its answer
abbrev pub ReviewRan : Collation → (delta_text words_text : List ℕ) → (delta_left words_left : Option (List ℕ)) → (written : List ℕ)
    → Result (Unit {0}) RunFault → Type 0
ReviewRan table delta_text words_text delta_left words_left written (Ok done) = ReviewsText table delta_text words_text written
ReviewRan table delta_text words_text delta_left words_left written (Err ended) =
    ReviewRanTo ended.input table delta_text words_text delta_left words_left written ended

-- the theorem of a review: whatever texts the sources have, and whatever the sink took before, what was written and what was answered
-- are as stated for these texts
abbrev pub ReviewRuns : Collation → (delta delta_after words words_after taken taken_after : Option (List ℕ))
    → Result (Unit {0}) RunFault → Type 0
ReviewRuns table delta delta_after words words_after taken taken_after r =
    (delta_text words_text before : List ℕ) → delta ≡ Some delta_text → words ≡ Some words_text → taken ≡ Some before
    → (written : List ℕ) × (taken_after ≡ Some (before ++ written))
    × ReviewRan table delta_text words_text delta_after words_after written r

-- a failed read is counted by the input with this number where it is that of the fault, and nothing else is
abbrev pub CountsReadingOf : (input : ℕ) → ℕ → ℕ → Result (Unit {0}) RunFault → Type 0
CountsReadingOf input old new (Ok done) = new ≡ old
CountsReadingOf input old new (Err ended) =
    new ≡ (if (fault_number ended.fault == 67) && (ended.input == input) then raised old else old)
