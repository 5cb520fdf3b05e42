-- The rows of the first elements of texts: of characters, and of the strings of collating elements.
use Rattle.std.specs.Prelude.{List, ℕ, All, chars}
use Rattle.coll_nodes.specs.Table.{Collation}
use Rattle.coll_ranks.specs.RankLists.{WeightsValue}
use Rattle.coll_ranks.specs.declared.text_elements.ElementRow.{ElementRow}
use Rattle.coll_letters.specs.LetterWeights.{IsLetterRow, IsRowOf}
use Rattle.coll_letters.specs.StringRows.{AreStringRows, IsRowOfString}
use Rattle.coll_letters.specs.declared.first_pieces.FirstPiece.{FirstPiece}
use Rattle.coll_letters.specs.declared.first_pieces.FirstPiece.TheVariants.{Letter, Element}
use Rattle.coll_letters.specs.declared.piece_rows.PieceRows.{PieceRows}

-- a row has the numbers of what a text begins with
abbrev pub IsRowOfPiece : Collation → WeightsValue → FirstPiece → ElementRow → Type 0
IsRowOfPiece table weights (Letter c rest) row = IsRowOf table weights c row
IsRowOfPiece table weights (Element string rest) row = IsRowOfString table weights (chars string.now) row

-- what stands behind it
abbrev pub rest_behind : FirstPiece → List ℕ
rest_behind (Letter c rest) = rest.now
rest_behind (Element string rest) = rest.now

-- the rows that are kept are those of their characters, and what is kept of strings is known of them
pub record ArePieceRows (table : Collation) (weights : WeightsValue) (kept : PieceRows) : Type 0 where
  pub letters : All (IsLetterRow table weights) kept.letters.items
  pub strings : AreStringRows table weights kept.strings
