-- The test of a name, by the parts that the code looks at.
use Rattle.std.proofs.Common.{◌≡◌, ℕ, ◌==◌, ◌&&◌, Bool, true, false, if◌then◌else◌, List, [], ◌∷◌, length, chars, IsUtf8, Option, Some, None, option_map, Ok, Err, refl, ap, sym, ◌∙◌}
use Rattle.std.specs.Prelude.{is_some}
use Rattle.std.specs.Str.{all_scalars}
use lib.Utf8.{scalar}
use Rattle.coll_lex.specs.Tokens.{is_name, code_point_of, symbol_by, symbol_of}
use Rattle.coll_lex.specs.Names.{gives_name, is_proper_name}
use Rattle.coll_lex.specs.declared.tokens.Piece.TheVariants as piece
use Rattle.coll_lex.specs.declared.faults.LexFault.TheVariants.{BadName, BadCodePoint}
use Rattle.coll_lex.proofs.TextLemmas.{none_chars, with_characters}
use Rattle.coll_lex.proofs.SymbolLemmas.{symbol_of_nothing}

no_character_is_a_name : (b : Bool) (n : ℕ) → false ≡ gives_name (if b then Ok (piece.Char n) else Err BadCodePoint)
no_character_is_a_name true n = refl
no_character_is_a_name false n = refl

named_if : (b : Bool) (cs : List ℕ) → b ≡ gives_name (if b then Ok (piece.Name cs) else Err BadName)
named_if true cs = refl
named_if false cs = refl

by_code : (f : ℕ → ℕ) (o : Option ℕ) (cs : List ℕ) → true ≡ is_some (option_map f o) → false ≡ gives_name (symbol_by o cs)
by_code f None cs e = cc
by_code f (Some n) cs e = no_character_is_a_name (scalar n) n

by_name : (f : ℕ → ℕ) (o : Option ℕ) (cs : List ℕ) → false ≡ (length cs == 0) → false ≡ is_some (option_map f o) → is_name cs ≡ gives_name (symbol_by o cs)
by_name f (Some n) cs some e = cc
by_name f None [] some e = cc
by_name f None (c ∷ cs) some e = named_if (is_name (c ∷ cs)) (c ∷ cs)

-- an empty text is no name
pub nothing_is_no_name : (text : List ℕ) → IsUtf8 text → true ≡ (length text == 0) → false ≡ is_proper_name (chars text)
nothing_is_no_name text u e = ap (λ r. gives_name r && all_scalars (chars text)) (sym (symbol_of_nothing (chars text) (sym (e ∙ none_chars text u))))

-- a code point is no name
pub code_is_no_name : (f : ℕ → ℕ) (cs : List ℕ) → true ≡ is_some (option_map f (code_point_of cs)) → false ≡ is_proper_name cs
unfolding symbol_of
code_is_no_name f cs e = ap (λ b. b && all_scalars cs) (by_code f (code_point_of cs) cs e)

-- all else is a name by its characters
pub name_by_characters : (f : ℕ → ℕ) (text : List ℕ) → IsUtf8 text → false ≡ (length text == 0) → false ≡ is_some (option_map f (code_point_of (chars text)))
    → is_name (chars text) ≡ is_proper_name (chars text)
unfolding symbol_of
name_by_characters f text u some e = by_name f (code_point_of (chars text)) (chars text) (some ∙ none_chars text u) e ∙ with_characters (gives_name (symbol_of (chars text))) text u
