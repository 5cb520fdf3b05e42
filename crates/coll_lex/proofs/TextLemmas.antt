-- What a text's bytes and its characters have in common.
use Rattle.std.proofs.Common.{◌≡◌, ℕ, ◌==◌, ◌&&◌, Bool, List, [], ◌∷◌, ◌++◌, length, chars, IsUtf8, encode_utf8, encode_utf8_all, refl, ap, sym, ◌∙◌, arith}
use Rattle.std.specs.Char.{IsScalar}
use Rattle.std.specs.Str.{all_scalars}
use Rattle.std.proofs.Math.Bool.{and-true}
use Rattle.std.proofs.lemmas.Str.{scalars-chars, chars-append, encodes-chars, chars_past_char, length-le-encodes, chars-nil, IsUtf8-encode}
use Rattle.std.proofs.lemmas.List.{append-nil}
use Rattle.std.proofs.lemmas.Bool.Decides.{nat_tests}

-- bytes that spell characters are none where the characters are none
none_spelled : (cs bs : List ℕ) → encode_utf8_all cs ≡ bs → (length bs == 0) ≡ (length cs == 0)
none_spelled [] bs e = rw (← e) refl
none_spelled (c ∷ cs) bs e =
    let n = length-le-encodes (c ∷ cs) in
    let m = ap length e in
    grind (arith, nat_tests)

-- a text has no bytes exactly where it has no characters
pub none_chars : (bs : List ℕ) → IsUtf8 bs → (length bs == 0) ≡ (length (chars bs) == 0)
none_chars bs u = none_spelled (chars bs) bs (encodes-chars bs u)

-- one more character at the end of a text
pub chars_push : (bs : List ℕ) (c : ℕ) → IsUtf8 bs → IsScalar c → chars (bs ++ encode_utf8 c) ≡ chars bs ++ c ∷ []
chars_push bs c u s =
    chars-append bs (encode_utf8 c) u
    ∙ ap (λ cs. chars bs ++ cs) (chars_past_char (encode_utf8 c) [] c (IsUtf8-encode c s) (sym (append-nil (encode_utf8 c))) ∙ ap (λ cs. c ∷ cs) chars-nil)

-- a text is made of characters, so a test may ask for that too
pub with_characters : (b : Bool) (text : List ℕ) → IsUtf8 text → b ≡ (b && all_scalars (chars text))
with_characters b text u = rw (scalars-chars text u) (sym (and-true b))
