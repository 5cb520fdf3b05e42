-- The rows of a text's elements are those of its characters and strings, one after another.
use Rattle.std.proofs.Common.{◌≡◌, ℕ, zero, suc, ◌+◌, ◌<◌, List, [], ◌∷◌, length, map, Option, Some, None, chars, refl, sym, ap, subst, ◌∙◌, arith, drop, get_or}
use Rattle.coll_syntax.specs.declared.identifiers.Id.{Id}
use Rattle.coll_syntax.specs.declared.identifiers.Id.TheVariants.{Char}
use Rattle.coll_nodes.specs.Table.{Collation}
use Rattle.coll_nodes.specs.declared.entries.Entry.{Entry}
use Rattle.coll_ranks.specs.LevelWeights.{row_numbers, row_of}
use Rattle.coll_ranks.specs.RankLists.{WeightsValue}
use Rattle.coll_ranks.specs.Ranks.{compiled_numbers}
use Rattle.coll_ranks.specs.WeightNumbers.{numbers_at}
use Rattle.coll_ranks.specs.declared.text_elements.ElementRow.{ElementRow}
use Rattle.coll_ranks.specs.declared.text_elements.TextElement.{TextElement}
use Rattle.coll_ranks.proofs.LevelRows.{rows_of_elements}
use Rattle.coll_letters.specs.FirstPieces.{BeginsWithLetter, BeginsWithString, IsFirstPiece}
use Rattle.coll_letters.specs.LetterWeights.{IsFirstLetter, IsRowOf, text_numbers}
use Rattle.coll_letters.specs.StringRows.{IsRowOfString}
use Rattle.coll_letters.specs.declared.letter_weights.FirstLetter.{FirstLetter}
use Rattle.coll_letters.specs.PieceRows.{rest_behind, ArePieceRows, IsRowOfPiece}
use Rattle.coll_letters.specs.declared.first_pieces.FirstPiece.{FirstPiece}
use Rattle.coll_letters.specs.declared.first_pieces.FirstPiece.TheVariants.{Letter, Element}
use Rattle.coll_letters.specs.declared.piece_rows.PieceRows.{PieceRows}

abbrev first_or : List ℕ → List (List ℕ) → List ℕ
first_or none [] = none
first_or none (l ∷ ls) = l

abbrev others_of : List (List ℕ) → List (List ℕ)
others_of [] = []
others_of (l ∷ ls) = ls

-- the row of an element has its numbers
row_has : (weights : WeightsValue) (level : ℕ) (element : TextElement) → row_numbers weights level (row_of weights element) ≡ compiled_numbers weights level element
row_has weights level element = ap (first_or (row_numbers weights level (row_of weights element))) (rows_of_elements weights level (element ∷ []))

-- the entry of a string is the one that it has
same_entry : (one other : Entry) → Some one ≡ Some other → one ≡ other
same_entry one other same = ap (λ (found : Option Entry). entry_or one found) same where
  entry_or : Entry → Option Entry → Entry
  entry_or e None = e
  entry_or e (Some f) = f

module _ (table : Collation) (weights : WeightsValue) (element : TextElement) (elements : List TextElement) (text : List ℕ)
    (same : (level : ℕ) → level < length table.rules → map (compiled_numbers weights level) (element ∷ elements) ≡ text_numbers table level text) where
  -- the numbers of the first element, and those behind it
  numbers_first : (id : Id) (rest : List ℕ) → ((level : ℕ) → text_numbers table level text ≡ numbers_at table level id ∷ text_numbers table level rest) → (level : ℕ) → level < length table.rules
      → row_numbers weights level (row_of weights element) ≡ numbers_at table level id
  numbers_first id rest begins level within = row_has weights level element ∙ ap (first_or (compiled_numbers weights level element)) (same level within ∙ begins level)

  numbers_behind : (id : Id) (rest : List ℕ) → ((level : ℕ) → text_numbers table level text ≡ numbers_at table level id ∷ text_numbers table level rest) → (level : ℕ) → level < length table.rules
      → map (compiled_numbers weights level) elements ≡ text_numbers table level rest
  numbers_behind id rest begins level within = ap others_of (same level within ∙ begins level)

  -- it is the row of what the text begins with
  pub row_of_piece : (piece : FirstPiece) → IsFirstPiece table text piece → IsRowOfPiece table weights piece (row_of weights element)
  row_of_piece (Letter c rest) is = record { numbers = numbers_first (Char c) (chars rest.now) (λ level. ap (map (numbers_at table level)) is.elements) }
  row_of_piece (Element string rest) is = record {
    entry = is.entry;
    placed = is.placed;
    numbers = numbers_first is.entry.id (chars rest.now) (λ level. ap (map (numbers_at table level)) is.elements);
  }

  pub numbers_behind_piece : (piece : FirstPiece) → IsFirstPiece table text piece → (level : ℕ) → level < length table.rules
      → map (compiled_numbers weights level) elements ≡ text_numbers table level (chars (rest_behind piece))
  numbers_behind_piece (Letter c rest) is = numbers_behind (Char c) (chars rest.now) (λ level. ap (map (numbers_at table level)) is.elements)
  numbers_behind_piece (Element string rest) is = numbers_behind is.entry.id (chars rest.now) (λ level. ap (map (numbers_at table level)) is.elements)

-- the first element of a text, by its row

pub letter_piece : (table : Collation) (weights : WeightsValue) (text : List ℕ) (c : ℕ) (first : FirstLetter) → BeginsWithLetter table text c (chars first.rest.now) → IsRowOf table weights c first.row
    → IsFirstLetter table weights text first
letter_piece table weights text c first is has = record {
  numbers = λ level within. ap (map (numbers_at table level)) is.elements ∙ ap (λ (ns : List ℕ). ns ∷ text_numbers table level (chars first.rest.now)) (sym (has.numbers level within));
  shorter = is.shorter;
}

pub string_piece : (table : Collation) (weights : WeightsValue) (text string : List ℕ) (first : FirstLetter) → BeginsWithString table text string (chars first.rest.now)
    → IsRowOfString table weights string first.row → IsFirstLetter table weights text first
string_piece table weights text string first is has = record {
  numbers = λ level within.
      ap (map (numbers_at table level)) is.elements
      ∙ ap (λ (ns : List ℕ). ns ∷ text_numbers table level (chars first.rest.now))
      (ap (λ (e : Entry). numbers_at table level e.id) (same_entry is.entry has.entry (sym is.placed ∙ has.placed)) ∙ sym (has.numbers level within));
  shorter = is.shorter;
}

-- the elements that are left, by the first of them
pub first_of_left : {X : Type 0} (xs : List X) (i : ℕ) (d : X) → i < length xs → drop i xs ≡ get_or xs i d ∷ drop (i + 1) xs
first_of_left [] i d within = absurd (omega (arith, within))
first_of_left (x ∷ xs) zero d within = refl
first_of_left (x ∷ xs) (suc i) d within = first_of_left xs i d (omega (arith, within)) ∙ ap (λ (n : ℕ). get_or xs i d ∷ drop n (x ∷ xs)) (one_on i)
  where
    one_on : (i : ℕ) → suc (i + 1) ≡ suc i + 1
    one_on i = omega arith

-- the rows so far are those of what they were kept for, and the elements that are left those of the text that is
pub record PiecesSoFar (table : Collation) (weights : WeightsValue) (left : List TextElement) (kept : PieceRows) (text : List ℕ) : Type 0 where
  pub rows : ArePieceRows table weights kept
  pub later : (level : ℕ) → level < length table.rules → map (compiled_numbers weights level) left ≡ text_numbers table level text

pub pieces_go_on : (table : Collation) (weights : WeightsValue) (elements items : List TextElement) (index : ℕ) (d : TextElement) (rows with : PieceRows) (piece : FirstPiece) (row : ElementRow)
    (text rest : List ℕ) → items ≡ elements → index < length items → IsFirstPiece table text piece → row ≡ row_of weights (get_or items index d)
    → (ArePieceRows table weights rows → IsRowOfPiece table weights piece row → ArePieceRows table weights with) → rest ≡ rest_behind piece
    → PiecesSoFar table weights (drop index elements) rows text → PiecesSoFar table weights (drop (index + 1) elements) with (chars rest)
pieces_go_on table weights elements items index d rows with piece row text rest same within is row_is put rest_is so_far =
    let element = get_or items index d in
    let left : drop index elements ≡ element ∷ drop (index + 1) elements =
    ap (drop index) (sym same) ∙ first_of_left items index d within ∙ ap (λ (l : List TextElement). element ∷ drop (index + 1) l) same in
    let numbers : (level : ℕ) → level < length table.rules → map (compiled_numbers weights level) (element ∷ drop (index + 1) elements) ≡ text_numbers table level text =
    λ level low. ap (map (compiled_numbers weights level)) (sym left) ∙ so_far.later level low in
    record {
      rows = put so_far.rows (subst (IsRowOfPiece table weights piece) (sym row_is) (row_of_piece table weights element (drop (index + 1) elements) text numbers piece is));
      later = subst (λ (l : List ℕ). (level : ℕ) → level < length table.rules → map (compiled_numbers weights level) (drop (index + 1) elements) ≡ text_numbers table level (chars l)) (sym rest_is)
          (numbers_behind_piece table weights element (drop (index + 1) elements) text numbers piece is);
    }
