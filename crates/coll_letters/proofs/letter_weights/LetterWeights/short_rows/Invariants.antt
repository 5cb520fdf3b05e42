-- The rows so far, and what is left, are the text.
use Rattle.std.proofs.Common.{◌≡◌, ◌<◌, ◌≤◌, ◌+◌, ◌++◌, ℕ, chars, length, map}
use denote.Shadow.{shadow}
use denote.Text.{Utf8}
use Rattle.coll_nodes.specs.TableLayout.{collation}
use Rattle.coll_ranks.specs.LevelWeights.{row_numbers}
use Rattle.coll_letters.specs.LetterWeights.{text_numbers}
use Rattle.coll_letters.proofs.letter_weights.LetterWeights.short_rows.Given as goal

abbrev pub invariant-letters : goal.invariant-letters
invariant-letters l = record {
  text : shadow (Utf8 l.left);
  rows : (level : ℕ) → level < length (collation l.table).rules
      → map (row_numbers l.self.made.weights level) l.rows.items ++ text_numbers (collation l.table) level (chars l.left) ≡ text_numbers (collation l.table) level (chars l.text);
  few : length l.rows.items + length (chars l.left) ≤ 65_536;
}

abbrev pub decreases-letters : goal.decreases-letters
decreases-letters l = length (chars l.left)
