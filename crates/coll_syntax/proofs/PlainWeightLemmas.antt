-- Weights of an order line, which are read where they stand.
use Rattle.std.proofs.Common.{◌≡◌, ℕ, ◌<◌, ◌≤◌, ◌==◌, nat_le, true, false, List, [], ◌∷◌, ◌++◌, length, map, chars, codes, Option, Some, None, Ok, refl, ap, sym, ◌∙◌, arith}
use Rattle.std.proofs.lemmas.Bool.Decides.{nat_tests}
use Rattle.std.proofs.lemmas.List.{length-map, map-append}
use Rattle.coll_lex.specs.Marked.{is_joined}
use Rattle.coll_lex.specs.PlainStrings.{BeginsString, EndsString, IsNextPiece, string_reading}
use Rattle.coll_lex.specs.PlainTexts.{IsNext}
use Rattle.coll_lex.proofs.RunLemmas.{graphic_chars}
use Rattle.coll_lex.specs.declared.tokens.Chars.{Chars}
use Rattle.coll_lex.specs.declared.tokens.Piece.{Piece}
use Rattle.coll_lex.specs.declared.tokens.Token.TheVariants as token
use Rattle.coll_syntax.specs.PlainWeights.{IsInside, IsOperand, operand_by}
use Rattle.coll_syntax.specs.Weights.{piece_id, string_weight}
use Rattle.coll_syntax.specs.declared.identifiers.Id.{Id}
use Rattle.coll_syntax.specs.declared.weights.Weight.{Weight}
use Rattle.coll_syntax.specs.declared.weights.Weight.TheVariants.{Ignore, Names}

-- these pieces are read of the inside of a string, and what is left has the others
pub record ReadsPieces (special : Chars) (inside : List ℕ) (pieces : List Piece) (rest : List ℕ) : Type 0 where
  pub reads : string_reading special [] inside ≡ string_reading special pieces rest
  pub ends : is_joined special.escape (chars inside) ≡ is_joined special.escape (chars rest)
  pub within : length rest ≤ length inside

-- these identifiers are read of it
abbrev pub ReadsIds : Chars → (inside : List ℕ) → List Id → (rest : List ℕ) → Type 0
ReadsIds special inside ids rest = (pieces : List Piece) × ReadsPieces special inside pieces rest × (map piece_id pieces ≡ ids)

module _ (special : Chars) where
  pub ids_none : (inside : List ℕ) → ReadsIds special inside [] inside
  ids_none inside = ([], record { reads = refl; ends = refl; within = omega arith }, refl)

  pub ids_more : (inside rest later : List ℕ) (ids : List Id) (p : Piece) (id : Id) → ReadsIds special inside ids rest → IsNextPiece special rest p later → id ≡ piece_id p
      → ReadsIds special inside (ids ++ id ∷ []) later
  ids_more inside rest later ids p id h n e =
      let within = h.1.within in
      let shorter = n.shorter in (
        h.0 ++ p ∷ [],
        record { reads = h.1.reads ∙ n.reads h.0; ends = h.1.ends ∙ n.ends; within = omega (arith, within, shorter) },
        map-append piece_id h.0 (p ∷ []) ∙ rw (h.2, e) refl,
      )

  weighed : (pieces : List Piece) → 0 < length pieces → length pieces ≤ 32 → string_weight pieces ≡ Ok (Names (map piece_id pieces))
  weighed [] some few = absurd (omega (arith, some))
  weighed (p ∷ pieces) some few =
      let test : nat_le (length (p ∷ pieces)) 32 ≡ true = grind (arith, nat_tests) in
      rw test refl

  pub ids_all : (inside rest behind : List ℕ) (ids : List Id) → ReadsIds special inside ids rest → EndsString special rest behind → (length ids == 0) ≡ false → length ids ≤ 32
      → IsInside special inside (Names ids) behind
  ids_all inside rest behind ids h n some few =
      let within = h.1.within in
      let shorter = n.shorter in
      let as_many : length h.0 ≡ length ids = sym (length-map h.0 piece_id) ∙ ap (λ (xs : List Id). length xs) h.2 in
      let more : 0 < length h.0 = grind (arith, nat_tests) in
      let fits : length h.0 ≤ 32 = omega (arith, as_many, few) in (
        h.0,
        record { reads = h.1.reads ∙ n.reads h.0; ends = h.1.ends ∙ n.ends; shorter = omega (arith, within, shorter) },
        weighed h.0 more fits ∙ ap (λ (xs : List Id). Ok (Names xs)) h.2,
      )

  text_by : (own : Option ℕ) (pieces : List Piece) (w : Weight) → string_weight pieces ≡ Ok w → operand_by own (token.Text pieces ∷ []) ≡ Ok w
  text_by (Some own) pieces w e = e
  text_by None pieces w e = e

  pub string_operand : (own : Option ℕ) (text inside rest : List ℕ) (w : Weight) → BeginsString special text inside → IsInside special inside w rest → IsOperand own special text w rest
  string_operand own text inside rest w b h =
      let begun = b.shorter in
      let ended = h.1.shorter in
      (token.Text h.0, record { reads = b.reads ∙ h.1.reads; ends = b.ends ∙ h.1.ends; shorter = omega (arith, begun, ended) }, text_by own h.0 w h.2)

  pub ignored_operand : (own : Option ℕ) (text rest : List ℕ) → IsNext special text (token.Word (chars (codes "IGNORE"))) rest → IsOperand own special text Ignore rest
  ignored_operand (Some own) text rest n = (token.Word (chars (codes "IGNORE")), n, rw (graphic_chars (codes "IGNORE") refl) refl)
  ignored_operand None text rest n = (token.Word (chars (codes "IGNORE")), n, rw (graphic_chars (codes "IGNORE") refl) refl)
