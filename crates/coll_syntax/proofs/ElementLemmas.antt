-- The characters of a string, piece by piece, and their number.
use Rattle.std.proofs.Common.{◌≡◌, ℕ, suc, ◌+◌, ◌<◌, ◌≤◌, List, [], ◌∷◌, ◌++◌, length, drop, get_or, Some, None, Ok, Err, refl, ap, sym, ◌∙◌, append_assoc, arith}
use Rattle.std.specs.Prelude.{Option}
use Rattle.std.specs.Option.{option_map}
use Rattle.std.proofs.lemmas.List.{drop_more}
use Rattle.std.proofs.lemmas.Bool.Decides.{nat_tests}
use Rattle.coll_lex.specs.declared.tokens.Piece.{Piece}
use Rattle.coll_lex.specs.declared.tokens.Piece.TheVariants.{Char, Name}
use Rattle.std.specs.Prelude.{nat_le, ◌&&◌, Bool, true, false, if◌then◌else◌}
use Rattle.coll_syntax.specs.Operands.{wanted, and_then}
use Rattle.coll_syntax.specs.Elements.{characters_of, element_text, short_text}
use Rattle.coll_syntax.specs.declared.syntax_faults.SyntaxFault.TheVariants.{ElementLength}

-- these characters, and then the others
abbrev pub prefixed : List ℕ → Option (List ℕ) → Option (List ℕ)
prefixed done more = option_map (λ cs. done ++ cs) more

pub prefixed-nil : (o : Option (List ℕ)) → o ≡ prefixed [] o
prefixed-nil None = refl
prefixed-nil (Some cs) = refl

prefixed-more : (done : List ℕ) (c : ℕ) (o : Option (List ℕ)) → prefixed done (option_map (λ cs. c ∷ cs) o) ≡ prefixed (done ++ c ∷ []) o
prefixed-more done c None = refl
prefixed-more done c (Some cs) = ap Some (sym (append_assoc done (c ∷ []) cs))

-- one more character of a string
pub takes_char : (pieces : List Piece) (text after : List ℕ) (n c : ℕ) → characters_of pieces ≡ prefixed text (characters_of (drop n pieces)) → n < length pieces → get_or pieces n (Char c) ≡ Char c
    → after ≡ text ++ c ∷ [] → characters_of pieces ≡ prefixed after (characters_of (drop (n + 1) pieces))
takes_char pieces text after n c h l e a =
    h
    ∙ ap (λ rest. prefixed text (characters_of rest)) (drop_more pieces n (Char c) l)
    ∙ ap (λ p. prefixed text (characters_of (p ∷ drop (n + 1) pieces))) e
    ∙ prefixed-more text c (characters_of (drop (n + 1) pieces))
    ∙ ap (λ cs. prefixed cs (characters_of (drop (n + 1) pieces))) (sym a)

length-cons : (c : ℕ) (o : Option (List ℕ)) (n : ℕ) (cs : List ℕ) → ((ds : List ℕ) → o ≡ Some ds → length ds ≡ n) → option_map (λ more. c ∷ more) o ≡ Some cs → length cs ≡ suc n
length-cons c None n cs h e = cc
length-cons c (Some ds) n cs h e =
    let same : c ∷ ds ≡ cs = cc in
    sym (ap length same) ∙ ap (λ k. suc k) (h ds refl)

-- there are as many characters as pieces
pub length-characters_of : (pieces : List Piece) (cs : List ℕ) → characters_of pieces ≡ Some cs → length cs ≡ length pieces
length-characters_of [] cs e = let same : [] ≡ cs = cc in sym (ap length same)
length-characters_of (Char c ∷ pieces) cs e = length-cons c (characters_of pieces) (length pieces) cs (length-characters_of pieces) e
length-characters_of (Name name ∷ pieces) cs e = cc

wanted-some : (o : Option (List ℕ)) (cs : List ℕ) → wanted o ≡ Ok cs → o ≡ Some cs
wanted-some None cs e = cc
wanted-some (Some ds) cs e = cc

-- a text is short by the number of the pieces that spell it
short_by : (pieces : List Piece) (cs : List ℕ) → wanted (characters_of pieces) ≡ Ok cs → (b : Bool) → (nat_le 2 (length pieces) && nat_le (length pieces) 16) ≡ b
    → short_text cs ≡ (if b then Ok cs else Err ElementLength)
short_by pieces cs e b h =
    let same = length-characters_of pieces cs (wanted-some (characters_of pieces) cs e) in
    rw (same, h) refl

test_long : (n : ℕ) → 16 < n → (nat_le 2 n && nat_le n 16) ≡ false
test_long n l = grind (arith, nat_tests)

test_within : (n : ℕ) → 2 ≤ n → n ≤ 16 → (nat_le 2 n && nat_le n 16) ≡ true
test_within n l k = grind (arith, nat_tests)

-- a string of more than 16 characters
pub too_long : (pieces : List Piece) (cs : List ℕ) → 16 < length pieces → wanted (characters_of pieces) ≡ Ok cs → element_text pieces ≡ Err ElementLength
too_long [] cs l e = absurd (omega (arith, l))
too_long (p ∷ pieces) cs l e = ap (λ r. and_then r short_text) e ∙ short_by (p ∷ pieces) cs e false (test_long (length (p ∷ pieces)) l)

-- a string of 2 to 16 characters
pub long_enough : (pieces : List Piece) (cs : List ℕ) → 2 ≤ length pieces → length pieces ≤ 16 → wanted (characters_of pieces) ≡ Ok cs → element_text pieces ≡ Ok cs
long_enough [] cs l k e = absurd (omega (arith, l))
long_enough (p ∷ pieces) cs l k e = ap (λ r. and_then r short_text) e ∙ short_by (p ∷ pieces) cs e true (test_within (length (p ∷ pieces)) l k)
