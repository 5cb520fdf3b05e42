-- The pieces of which most lines are made (the project's own).
use Rattle.std.specs.Prelude.{ℕ, List, [], ◌∷◌, ◌++◌, chars, decimal, encode_utf8_all}
use Rattle.std.specs.List.{flat_map}
use Rattle.coll_devices.specs.PhysicalLines.{line_feed}
use Rattle.coll_lex.specs.Characters.{space}
use Rattle.coll_texts.specs.CanonicalText.{spelled_rule}
use Rattle.coll_texts.specs.PrintedParts.{char_bytes, id_bytes, symbol_bytes}
use Rattle.coll_texts.specs.declared.pieces.Piece.{Piece}
use Rattle.coll_texts.specs.declared.pieces.Piece.TheVariants.{Bytes, Number, Symbol, Id, Text, Rule}

-- the bytes of a piece: bytes as they are, a number in decimal digits, a name between its brackets, an identifier, the characters of a
-- text by their code points, and a rule
abbrev pub piece_bytes : Piece → List ℕ
piece_bytes (Bytes bytes) = bytes.now
piece_bytes (Number number) = decimal number
piece_bytes (Symbol name) = symbol_bytes (chars name.now)
piece_bytes (Id id) = id_bytes id.now
piece_bytes (Text text) = flat_map char_bytes (chars text.now)
piece_bytes (Rule rule) = encode_utf8_all (spelled_rule rule [])

-- words with one space between them, and the line's end
abbrev pub words_line : List (List ℕ) → List ℕ
words_line [] = line_feed ∷ []
words_line (word ∷ []) = word ++ line_feed ∷ []
words_line (word ∷ next ∷ words) = word ++ space ∷ words_line (next ∷ words)
