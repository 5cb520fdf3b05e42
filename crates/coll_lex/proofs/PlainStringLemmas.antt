-- Strings of a line whose pieces are read where they stand.
use Rattle.std.proofs.Common.{◌≡◌, ◌≢◌, ℕ, ◌<◌, ◌==◌, false, List, [], ◌∷◌, ◌++◌, length, chars, Ok, refl, ap, sym, ◌∙◌, arith}
use Rattle.std.specs.declared.alloc.Global.{Global}
use Rattle.std.proofs.lemmas.Bool.Decides.{nat_tests}
use Rattle.std.proofs.lemmas.List.{append-nil}
use Rattle.coll_lex.specs.Marked.{marks}
use Rattle.coll_lex.specs.PlainStrings.{BeginsString, EndsString, IsNextPiece, string_reading}
use Rattle.coll_lex.specs.PlainTexts.{plain_reading}
use Rattle.coll_lex.specs.Runs.{BeginsWithSymbol, TakesRun}
use Rattle.coll_lex.specs.Scanning.{fresh, reading_left}
use Rattle.coll_lex.specs.Tokens.{symbol_of, with_token}
use Rattle.coll_lex.specs.declared.scanning.Mode.TheVariants as mode
use Rattle.coll_lex.specs.declared.scanning.Scan.{Scan}
use Rattle.coll_lex.specs.declared.tokens.Chars.{Chars}
use Rattle.coll_lex.specs.declared.tokens.Piece.{Piece}
use Rattle.coll_lex.specs.declared.tokens.Token.TheVariants as token
use Rattle.coll_lex.proofs.RunLemmas.{name_chars, run_one, symbol_shortens, text_symbol_given}
use Rattle.coll_lex.proofs.ScanRows.{text_begins, text_ends}

module _ (special : Chars) (alloc : Global) where
  -- a scan that stands in a string behind these pieces
  abbrev within : List Piece → Scan
  within pieces = record (fresh alloc) { mode = mode.Text; pieces = pieces }

  apart : (a : ℕ) → (a == 34) ≡ false → 34 ≢ a
  apart a h = grind (arith, nat_tests)

  turned : (a : ℕ) → (a == 34) ≡ false → (34 == a) ≡ false
  turned a h = grind (arith, nat_tests)

  one_shorter : (b : ℕ) (rest text : List ℕ) → text ≡ b ∷ rest → length rest < length text
  one_shorter b rest text e = let long = ap length e in omega (arith, long)

  -- a string begins
  begins_run : (rest : List ℕ) → (special.comment == 34) ≡ false → (special.escape == 34) ≡ false → TakesRun special (fresh alloc) (34 ∷ rest) (within []) rest
  begins_run rest h k = run_one special (fresh alloc) (within []) 34 rest refl refl (apart special.escape k) (text_begins special.comment (fresh alloc) refl (turned special.comment h))

  begins_reads : (text rest : List ℕ) → TakesRun special (fresh alloc) text (within []) rest → plain_reading special text ≡ string_reading special [] rest
  unfolding reading_left
  begins_reads text rest h = rw (append-nil (marks special.escape false (chars text)), append-nil (marks special.escape false (chars rest))) at (h.reads [])

  pub string_begins : (text rest : List ℕ) → text ≡ 34 ∷ rest → (special.comment == 34) ≡ false → (special.escape == 34) ≡ false → BeginsString special text rest
  string_begins text rest e h k =
      let run = rw (← e) at (begins_run rest h k) in
      record { reads = begins_reads text rest run; ends = run.ends; shorter = one_shorter 34 rest text e }

  -- a symbol in it
  piece_reads : (text rest : List ℕ) (before after : List Piece) → TakesRun special (within before) text (within after) rest → string_reading special before text ≡ string_reading special after rest
  unfolding reading_left
  piece_reads text rest before after h = rw (append-nil (marks special.escape false (chars text)), append-nil (marks special.escape false (chars rest))) at (h.reads [])

  piece_run : (text name rest : List ℕ) (p : Piece) (before : List Piece) → BeginsWithSymbol special.escape text name rest → symbol_of (chars name) ≡ Ok p
      → TakesRun special (within before) text (within (before ++ p ∷ [])) rest
  piece_run text name rest p before h e =
      let same = name_chars special.escape name h.plain in
      text_symbol_given special (within before) (within (before ++ p ∷ [])) text name rest (Ok p) refl refl h (ap symbol_of (sym same) ∙ e) refl

  pub next_piece : (text name rest : List ℕ) (p : Piece) → BeginsWithSymbol special.escape text name rest → symbol_of (chars name) ≡ Ok p → IsNextPiece special text p rest
  next_piece text name rest p h e = record {
    reads = λ before. piece_reads text rest before (before ++ p ∷ []) (piece_run text name rest p before h e);
    ends = (piece_run text name rest p [] h e).ends;
    shorter = symbol_shortens special.escape text name rest h;
  }

  -- a string ends
  abbrev behind : List Piece → Scan
  behind pieces = record (fresh alloc) { tokens = token.Text pieces ∷ [] }

  ends_run : (rest : List ℕ) (pieces : List Piece) → (special.escape == 34) ≡ false → TakesRun special (within pieces) (34 ∷ rest) (behind pieces) rest
  ends_run rest pieces k = run_one special (within pieces) (behind pieces) 34 rest refl refl (apart special.escape k) (text_ends special.comment (within pieces) refl)

  ends_reads : (text rest : List ℕ) (pieces : List Piece) → TakesRun special (within pieces) text (behind pieces) rest → string_reading special pieces text ≡ with_token (token.Text pieces) (plain_reading special rest)
  unfolding reading_left
  ends_reads text rest pieces h = rw (append-nil (marks special.escape false (chars text)), append-nil (marks special.escape false (chars rest))) at (h.reads [])

  pub string_ends : (text rest : List ℕ) → text ≡ 34 ∷ rest → (special.escape == 34) ≡ false → EndsString special text rest
  string_ends text rest e k = record {
    reads = λ pieces. ends_reads text rest pieces (rw (← e) at (ends_run rest pieces k));
    ends = (rw (← e) at (ends_run rest [] k)).ends;
    shorter = one_shorter 34 rest text e;
  }
