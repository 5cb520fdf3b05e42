-- Where a review stands, as the code keeps it, and where statements lead it.
use Rattle.std.specs.Prelude.{◌≡◌, ◌⊎◌, ℕ, List, ◌++◌, length, map, Option, Some, Result, Ok, Err}
use Rattle.std.specs.Io.KnownBytes.{Appends}
use Rattle.coll_devices.specs.Devices.{AppendsPrefix}
use Rattle.coll_nodes.specs.Table.{Collation}
use Rattle.coll_nodes.specs.TableLayout.{collation}
use Rattle.coll_nodes.specs.WellFormed.{IsWellFormed}
use Rattle.coll_requests.specs.declared.delta_files.StatementAt.{StatementAt}
use Rattle.coll_bench.specs.BatchOutcome.{after_delta, statements_of}
use Rattle.coll_bench.specs.BatchReading.{DeltaFails}
use Rattle.coll_bench.specs.BatchRuns.{ending_of}
use Rattle.coll_bench.specs.Serving.{write_failed}
use Rattle.coll_faults.specs.declared.faults.RunFault.{RunFault}
use Rattle.coll_reviews.specs.KeptWords.{AreLinesByKeys, keyed_line}
use Rattle.coll_word_lists.specs.KeyedWords.{KeyedWord, AreKeyed, texts_of}
use Rattle.coll_reviews.specs.ListedWords.{all_numbered}
use Rattle.coll_word_lists.specs.Neighbours.{NumberedWord}
use Rattle.coll_word_lists.specs.NumberedWords.{AreInOrder, HaveLines, numbered_from}
use Rattle.coll_reviews.specs.ReviewLines.{review_line}
use Rattle.coll_reviews.specs.Reviews.{ArePut, Standing}
use Rattle.coll_word_lists.specs.Words.{words_of}
use Rattle.coll_reviews.specs.declared.numbered_words.KeyedLine.{KeyedLine}
use Rattle.coll_reviews.specs.declared.reviews.Review.{Review}

-- where a review stands
abbrev pub standing_of : Review → Standing
standing_of review = record { table = collation review.table; sorted = all_numbered review.list.items; count = review.count }

-- these statements lead a review from where it began to where it is, whichever words its list has in order
abbrev pub LeadsTo : (begun : Review) → List StatementAt → (now : Review) → Type 0
LeadsTo begun given now =
    (words : List NumberedWord) → HaveLines words → AreInOrder (collation begun.table) words (all_numbered begun.list.items)
    → (told : List ℕ) × ArePut words (standing_of begun) given (standing_of now) told
    × (now.told.bytes.items ≡ begun.told.bytes.items ++ told)

-- a list has the words of the text that the device had, in the order of a table
abbrev pub ListsWordsOf : Collation → (left : Option (List ℕ)) → List NumberedWord → Type 0
ListsWordsOf table left list =
    (text : List ℕ) → left ≡ Some text → (words : List (List ℕ)) × (words_of text ≡ Ok words)
    × AreInOrder table (numbered_from 1 words) list

-- a list has these words with the numbers of their lines, in the order of each table that they are keyed by
abbrev pub SortsListed : List KeyedWord → List NumberedWord → Type 0
SortsListed words list =
    (table : Collation) → IsWellFormed table → AreKeyed table words → AreInOrder table (numbered_from 1 (texts_of words)) list

-- the same of words that have the numbers of their lines
abbrev pub SortsLines : List KeyedLine → List NumberedWord → Type 0
SortsLines lines list = (table : Collation) → IsWellFormed table → AreLinesByKeys table lines → AreInOrder table (map keyed_line lines) list

-- what is written of a review where it stands
abbrev pub review_bytes : Review → List ℕ
review_bytes now = now.told.bytes.items ++ review_line now.count (length now.list.items)

-- the statements of the delta file that the device had led a review from where it began to where it is, and the file gives this table
abbrev pub ReachesAll : (begun : Review) → (delta : Option (List ℕ)) → (after : Collation) → (now : Review) → Type 0
ReachesAll begun delta after now =
    (text : List ℕ) → delta ≡ Some text → (after_delta 1 (collation begun.table) text ≡ Ok after) × LeadsTo begun (statements_of text) now

-- the delta file was read, and what is told of its statements was written; or it was not, and nothing was
abbrev pub WritesReview : Review → (delta delta_after taken taken_after : Option (List ℕ)) → Result (Unit {0}) RunFault → Type 0
WritesReview begun delta delta_after taken taken_after (Ok done) =
    (now : Review) × (after : Collation) × ReachesAll begun delta after now × Appends taken taken_after (review_bytes now)
WritesReview begun delta delta_after taken taken_after (Err ended) =
    ((ended.input ≡ 1) × (taken_after ≡ taken)
    × ((text : List ℕ) → delta ≡ Some text → DeltaFails (ending_of ended) 1 (collation begun.table) text delta_after ended))
    ⊎ ((ended ≡ write_failed) × (now : Review) × (after : Collation) × ReachesAll begun delta after now
    × AppendsPrefix taken taken_after (review_bytes now))
