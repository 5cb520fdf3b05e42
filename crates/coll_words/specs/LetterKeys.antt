-- What characters weigh in a table, kept for the keys of words.
use Rattle.std.specs.Prelude.{◌≡◌, ◌<◌, ℕ, List, [], ◌∷◌, All, length, chars, true, false, string_bytes}
use Rattle.coll_syntax.specs.declared.identifiers.Id.TheVariants.{Char}
use Rattle.coll_nodes.specs.NodeNumbers.{AreNumbersOf}
use Rattle.coll_nodes.specs.Table.{Collation}
use Rattle.coll_nodes.specs.TableLayout.{TableValue, collation}
use Rattle.coll_ranks.specs.LevelWeights.{level_numbers}
use Rattle.coll_ranks.specs.RankLists.{WeightsValue}
use Rattle.coll_ranks.specs.LevelWeights.{row_numbers}
use Rattle.coll_ranks.specs.WeightNumbers.{numbers_at}
use Rattle.coll_ranks.specs.declared.level_weights.LevelWeights.{LevelWeights}
use Rattle.coll_ranks.specs.declared.text_elements.ElementRow.{ElementRow}
use Rattle.coll_key.specs.KeyLimits.{is_too_long}
use Rattle.coll_letters.specs.ElementMarks.{StandsAlone}
use Rattle.coll_words.specs.FirstKeys.{begins_plainly}
use Rattle.coll_letters.specs.LetterWeights.{AreLetterWeights, IsRowOf, text_numbers}
use Rattle.coll_word_lists.specs.PackedKeys.{packed_key}
use Rattle.coll_letters.specs.declared.text_pieces.PieceText.{PieceText}
use Rattle.coll_words.specs.declared.letter_keys.FirstKept.{FirstKept}
use Rattle.coll_words.specs.declared.letter_keys.LetterKey.{LetterKey}
use Rattle.coll_words.specs.declared.letter_keys.LetterKeys.{LetterKeys}

-- a character stands alone whatever follows it, and this is all that it weighs at the first level, packed
pub record IsPlainNumber (table : Collation) (c number : ℕ) : Type 0 where
  pub alone : (rest : List ℕ) → StandsAlone table c rest
  pub packed : packed_key (numbers_at table 0 (Char c)) ≡ number ∷ []

-- a character is kept with what it weighs
pub record IsLetterKey (table : Collation) (weights : WeightsValue) (kept : LetterKey) : Type 0 where
  pub plain : 0 < kept.number → IsPlainNumber table kept.letter kept.number
  pub row : IsRowOf table weights kept.letter kept.row

-- these are the weights of the first level, which the table has
pub record HasLevel (table : Collation) (weights : WeightsValue) (first : LevelWeights) : Type 0 where
  pub level : 0 < length table.rules
  pub numbers : (row : ElementRow) → level_numbers first row ≡ row_numbers weights 0 row

-- unless it is 0, this is all that a row weighs at the first level, packed
abbrev pub IsPacked : WeightsValue → (number : ℕ) → ElementRow → Type 0
IsPacked weights number row = 0 < number → packed_key (row_numbers weights 0 row) ≡ number ∷ []

-- a text begins with an element that has this row and number, and goes on with the rest
pub record BeginsWithKept (table : Collation) (weights : WeightsValue) (text : List ℕ) (first : FirstKept) : Type 0 where
  pub numbers : text_numbers table 0 text ≡ row_numbers weights 0 first.row ∷ text_numbers table 0 (chars first.rest.now)
  pub packed : IsPacked weights first.number first.row
  pub shorter : length (chars first.rest.now) < length text

-- what is kept serves a table as that stands
pub record AreLetterKeys (table : TableValue) (keys : LetterKeys) : Type 0 where
  pub letters : All (IsLetterKey (collation table) keys.weights.made.weights) keys.letters.items
  pub weights : AreLetterWeights (collation table) keys.weights
  pub numbers : AreNumbersOf keys.numbers table.layout
  pub plain : begins_plainly (collation table).rules ≡ true

-- the characters and strings, one behind another, are a text that may have a key
abbrev pub ServesTexts : PieceText → Type 0
ServesTexts pieces = is_too_long (chars (string_bytes pieces.text)) ≡ false
