-- The line of a copy is read as a word and a string.
use Rattle.std.proofs.Common.{◌≡◌, ℕ, zero, suc, ◌+◌, ◌*◌, ◌≤◌, ◌==◌, ◌||◌, Bool, true, false, if◌then◌else◌, List, [], ◌∷◌, ◌++◌, length, map, codes, ap, ◌∙◌, refl, arith}
use Rattle.std.specs.Prelude.{All}
use Rattle.std.specs.List.{list_all}
use lib.Utf8.{scalar, scalars, encode}
use Rattle.std.proofs.lemmas.Bool.{and_parts, eqb-true, le-leb}
use Rattle.std.proofs.lemmas.List.Elements.{All-head, All-tail}
use Rattle.coll_lex.specs.Blanks.{past_blanks}
use Rattle.coll_lex.specs.Directives.{operand_of, directive}
use Rattle.coll_lex.specs.Marked.{Plain, Literal, marks}
use Rattle.coll_lex.specs.Tokens.{Atom, Bare, Closed, atoms, quoted, with_piece, with_token, reading}
use Rattle.coll_lex.specs.declared.tokens.Token.TheVariants as token
use Rattle.coll_lex.specs.declared.tokens.Piece.TheVariants as piece
use Rattle.coll_lex.proofs.ReadingBackLemmas.{marks-plain}
use Rattle.coll_texts.specs.CanonicalText.{spelled_all}
use Rattle.coll_texts.proofs.PrintedSpellings.{with_tokens, is_clean, is_letter, Keeps, Spells, keeps_both, keeps_wider, keeps_nothing, keeps_mark, keeps_escaped}
use Rattle.coll_texts.proofs.PrintedSpellings.{stays-plain, clean-cons, bytes-wide, atoms-letter, atoms-mark}
use Rattle.coll_texts.proofs.PrintedLines.{IsLine, line_from, spells_begun}
use Rattle.coll_delta_texts.specs.DeltaText.{is_escaped_in_string, spelled_in_string, spelled_literally, copy_line}
use Rattle.coll_delta_texts.specs.Writable.{IsCopyName}

-- The characters of a string.

-- the atom of a character
unfoldable char_atom : ℕ → Atom
char_atom c = Bare (if is_escaped_in_string c then Literal c else Plain c)

marks-escaped : (c : ℕ) (rest : List ℕ) → marks 47 false (47 ∷ c ∷ rest) ≡ Literal c ∷ marks 47 false rest
unfolding marks
marks-escaped c rest = refl

atoms-literal : (c : ℕ) (rest : List ℕ) → atoms zero (marks 47 false (47 ∷ c ∷ rest)) ≡ Bare (Literal c) ∷ atoms zero (marks 47 false rest)
unfolding marks atoms
atoms-literal c rest = refl

-- one character is one atom
atoms-char : (c : ℕ) (rest : List ℕ) → atoms zero (marks 47 false (spelled_in_string c rest)) ≡ char_atom c ∷ atoms zero (marks 47 false rest)
unfolding char_atom
atoms-char c rest = by_kind (c == 34) (c == 60) (c == 47) refl refl where
  by_kind : (mark less slash : Bool) → (c == 60) ≡ less → (c == 47) ≡ slash
      → atoms zero (marks 47 false (if mark || less || slash then 47 ∷ c ∷ rest else c ∷ rest)) ≡ Bare (if mark || less || slash then Literal c else Plain c) ∷ atoms zero (marks 47 false rest)
  by_kind true less slash e f = atoms-literal c rest
  by_kind false true slash e f = atoms-literal c rest
  by_kind false false true e f = atoms-literal c rest
  by_kind false false false e f = ap (atoms zero) (marks-plain c rest f) ∙ atoms-letter c (marks 47 false rest) e

atoms-chars : (cs rest : List ℕ) → atoms zero (marks 47 false (spelled_all spelled_in_string cs rest)) ≡ map char_atom cs ++ atoms zero (marks 47 false rest)
atoms-chars [] rest = refl
atoms-chars (c ∷ cs) rest = atoms-char c (spelled_all spelled_in_string cs rest) ∙ ap (λ xs. char_atom c ∷ xs) (atoms-chars cs rest)

-- it is read as itself
quoted-char : (c : ℕ) (xs : List Atom) → quoted (char_atom c ∷ xs) ≡ with_piece (piece.Char c) (quoted xs)
unfolding quoted char_atom
quoted-char c xs = by_kind (c == 34) (c == 60) (c == 47) refl refl refl where
  by_kind : (mark less slash : Bool) → (c == 34) ≡ mark → (c == 60) ≡ less → (c == 47) ≡ slash
      → quoted (Bare (if mark || less || slash then Literal c else Plain c) ∷ xs) ≡ with_piece (piece.Char c) (quoted xs)
  by_kind true less slash e f g = rw (eqb-true c 34 e) refl
  by_kind false true slash e f g = rw (eqb-true c 60 f) refl
  by_kind false false true e f g = rw (eqb-true c 47 g) refl
  by_kind false false false e f g = rw e refl

quoted-chars : (cs : List ℕ) (xs : List Atom) → quoted (map char_atom cs ++ Bare (Plain 34) ∷ xs) ≡ Closed (map piece.Char cs)
unfolding quoted
quoted-chars [] xs = refl
quoted-chars (c ∷ cs) xs = quoted-char c (map char_atom cs ++ Bare (Plain 34) ∷ xs) ∙ ap (with_piece (piece.Char c)) (quoted-chars cs xs)

past-chars : (cs : List ℕ) (xs : List Atom) → reading 37 (suc (length (map piece.Char cs))) (map char_atom cs ++ Bare (Plain 34) ∷ xs) ≡ reading 37 zero xs
unfolding reading
past-chars [] xs = refl
past-chars (c ∷ cs) xs = past-chars cs xs

reading-chars : (cs : List ℕ) (xs : List Atom) → reading 37 zero (Bare (Plain 34) ∷ (map char_atom cs ++ Bare (Plain 34) ∷ xs)) ≡ with_token (token.Text (map piece.Char cs)) (reading 37 zero xs)
unfolding reading
reading-chars cs xs = rw (quoted-chars cs xs) (ap (with_token (token.Text (map piece.Char cs))) (past-chars cs xs))

-- it leaves no escape open
keeps_char : (c : ℕ) → is_clean c ≡ true → Keeps (spelled_in_string c) 4
keeps_char c clean = by_kind (c == 34) (c == 60) (c == 47) refl refl refl where
  by_kind : (mark less slash : Bool) → (c == 34) ≡ mark → (c == 60) ≡ less → (c == 47) ≡ slash → Keeps (λ rest. if mark || less || slash then 47 ∷ c ∷ rest else c ∷ rest) 4
  by_kind true less slash e f g = let same : c ≡ 34 = eqb-true c 34 e in keeps_escaped c clean (omega arith)
  by_kind false true slash e f g = let same : c ≡ 60 = eqb-true c 60 f in keeps_escaped c clean (omega arith)
  by_kind false false true e f g = let same : c ≡ 47 = eqb-true c 47 g in keeps_escaped c clean (omega arith)
  by_kind false false false e f g = record { stays = λ rest. stays-plain c rest g; clean = λ rest h. clean-cons c rest clean h; short = λ rest. bytes-wide c rest }

keeps_chars : (cs : List ℕ) → list_all is_clean cs ≡ true → Keeps (spelled_all spelled_in_string cs) (4 * length cs)
keeps_chars [] h = keeps_nothing
keeps_chars (c ∷ cs) h =
    let a = and_parts _ _ h in
    keeps_wider (λ rest. spelled_in_string c (spelled_all spelled_in_string cs rest)) (4 + 4 * length cs) (4 * length (c ∷ cs)) (omega arith)
    (keeps_both (spelled_in_string c) (spelled_all spelled_in_string cs) 4 (4 * length cs) (keeps_char c a.0) (keeps_chars cs a.1))

-- a string of characters is read as these
spells_literally : (cs : List ℕ) → list_all is_clean cs ≡ true → Spells (spelled_literally cs) (token.Text (map piece.Char cs) ∷ []) (1 + (4 * length cs + 1))
unfolding with_tokens
spells_literally cs h = record {
  keeps =
      keeps_both (λ rest. 34 ∷ rest) (λ rest. spelled_all spelled_in_string cs (34 ∷ rest)) 1 (4 * length cs + 1) keeps_mark
      (keeps_both (spelled_all spelled_in_string cs) (λ rest. 34 ∷ rest) (4 * length cs) 1 (keeps_chars cs h) keeps_mark);
  reads = λ rest e.
      ap (reading 37 zero) (atoms-mark (spelled_all spelled_in_string cs (34 ∷ rest)) ∙ ap (λ xs. Bare (Plain 34) ∷ xs)
      (atoms-chars cs (34 ∷ rest) ∙ ap (λ xs. map char_atom cs ++ xs) (atoms-mark rest)))
      ∙ reading-chars cs (atoms zero (marks 47 false rest));
}

-- The line.

-- the characters of a name that can be written
clean_name : (cs : List ℕ) → scalars cs ≡ true → All (λ c. 32 ≤ c) cs → list_all is_clean cs ≡ true
unfolding is_clean
clean_name [] s h = refl
clean_name (c ∷ cs) s h =
    let a = and_parts (scalar c) (scalars cs) s in
    rw (le-leb 32 c (All-head (λ c. 32 ≤ c) c cs h), a.0) (clean_name cs a.1 (All-tail (λ c. 32 ≤ c) c cs h))

pub copy_is_line : (name : List ℕ) → IsCopyName name → IsLine (copy_line name) (token.Word (codes "copy")) (token.Text (map piece.Char name) ∷ [])
unfolding is_letter is_clean directive operand_of past_blanks encode
copy_is_line name is =
    line_from (λ rest. codes "copy" ++ 32 ∷ spelled_literally name rest) (token.Word (codes "copy")) (token.Text (map piece.Char name) ∷ []) (4 + (1 + (1 + (4 * length name + 1))))
    (spells_begun 99 (codes "opy") (spelled_literally name) (token.Text (map piece.Char name) ∷ []) (1 + (4 * length name + 1)) refl (spells_literally name (clean_name name is.2 is.1)))
    (let few = is.0 in omega arith) (λ special. refl)
