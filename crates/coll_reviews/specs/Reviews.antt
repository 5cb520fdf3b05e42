-- A review: statements are put to a table one by one, and of each it is told what it did to the words (the project's own).
use Rattle.std.specs.Prelude.{◌≡◌, ℕ, zero, suc, List, [], ◌∷◌, ◌++◌, length, Ok}
use Rattle.coll_nodes.specs.Table.{Collation}
use Rattle.coll_requests.specs.declared.delta_files.StatementAt.{StatementAt}
use Rattle.coll_table.specs.Delta.{delta}
use Rattle.coll_word_lists.specs.Neighbours.{NumberedWord}
use Rattle.coll_word_lists.specs.NumberedWords.{AreInOrder, numbered_from}
use Rattle.coll_reviews.specs.ReviewLines.{review_line, statement_told}

-- where a review stands: the table, the words in its order, and how many statements were put
pub record Standing : Type 0 where
  pub table : Collation
  pub sorted : List NumberedWord
  pub count : ℕ

-- a statement was put: the table is rewritten, the words are sorted by it, and so much is told
pub record IsPut (words : List NumberedWord) (old : Standing) (at : StatementAt) (new : Standing) (told : List ℕ) : Type 0 where
  pub rewritten : delta old.table at.statement ≡ Ok new.table
  pub sorted : AreInOrder new.table words new.sorted
  pub count : new.count ≡ suc old.count
  pub lines : told ≡ statement_told new.count at.statement old.sorted new.sorted

-- statements were put, one after another
abbrev pub ArePut : (words : List NumberedWord) → (old : Standing) → List StatementAt → (new : Standing) → (told : List ℕ) → Type 0
ArePut words old [] new told = (new ≡ old) × (told ≡ [])
ArePut words old (at ∷ later) new told =
    (next : Standing) × (first : List ℕ) × (rest : List ℕ) × IsPut words old at next first × ArePut words next later new rest
    × (told ≡ first ++ rest)

-- what a review writes of a table, statements and the words of a text: what is told of each statement, and last a line of counts
abbrev pub IsReview : Collation → List StatementAt → (words : List (List ℕ)) → (written : List ℕ) → Type 0
IsReview table statements words written =
    (sorted : List NumberedWord) × (new : Standing) × (told : List ℕ) × AreInOrder table (numbered_from 1 words) sorted
    × ArePut (numbered_from 1 words) (record { table = table; sorted = sorted; count = zero }) statements new told
    × (written ≡ told ++ review_line (length statements) (length words))
