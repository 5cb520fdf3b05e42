-- Texts and their characters: two texts are the same where their characters are.
use Rattle.std.proofs.Common.{◌≡◌, ℕ, ◌<◌, IsTrue, List, [], ◌∷◌, ◌++◌, length, nat_lt, sym, ap, ◌∙◌, refl, arith, rules, tests}
use Rattle.std.specs.Prelude.{chars, encode_utf8, encode_utf8_all, Some, None}
use Rattle.std.specs.Str.{bytes_eq, IsAscii, IsUtf8}
use Rattle.std.specs.List.{list_all}
use Rattle.std.proofs.lemmas.Slice.Eq.{bytes_eq-Decides}
use Rattle.std.proofs.lemmas.Bool.Decides.{same_from_decides, Decides-like, Decides-by_and, Decides-ltb}
use Rattle.std.proofs.lemmas.Str.{chars-nil, chars-IsAscii, encodes-IsAscii, chars_past_char, IsUtf8-past_char}
use Rattle.coll_syntax.specs.Identifier.{only_char}
use Rattle.std.proofs.lemmas.Str.Ascii.{IsAscii-from_all}

-- texts that their characters give back are compared by their characters
pub same_spelling : (a b : List ℕ) → encode_utf8_all (chars a) ≡ a → encode_utf8_all (chars b) ≡ b → bytes_eq (chars a) (chars b) ≡ bytes_eq a b
same_spelling a b p q =
    same_from_decides _ _ (bytes_eq-Decides (chars a) (chars b))
    (Decides-like (bytes_eq a b) (λ e. ap chars e) (λ e. sym p ∙ (ap encode_utf8_all e ∙ q)) (bytes_eq-Decides a b))

-- a test of each byte says that a text is ASCII
pub ascii_from_test : (bytes : List ℕ) → IsTrue (list_all (λ c. nat_lt c 128) bytes) → IsAscii bytes
ascii_from_test bytes h =
    let each = Decides-by_and (λ c. nat_lt c 128) (λ c. c < 128) (list_all (λ c. nat_lt c 128)) (λ c. Decides-ltb c 128) refl (λ _ _. refl) bytes in
    IsAscii-from_all bytes (each.0 (search (rules, tests)))

-- a word is compared with an ASCII keyword as their bytes are
pub same_keyword : (word bytes keyword : List ℕ) → encode_utf8_all word ≡ bytes → chars bytes ≡ word → IsTrue (list_all (λ c. nat_lt c 128) keyword) → bytes_eq bytes keyword ≡ bytes_eq word keyword
same_keyword word bytes keyword p q h =
    let ascii = ascii_from_test keyword h in
    let decoded = chars-IsAscii keyword ascii in
    let spelled : encode_utf8_all (chars bytes) ≡ bytes = ap encode_utf8_all q ∙ p in
    let keyed : encode_utf8_all (chars keyword) ≡ keyword = ap encode_utf8_all decoded ∙ encodes-IsAscii keyword ascii in
    sym (same_spelling bytes keyword spelled keyed) ∙ (ap (λ t. bytes_eq t (chars keyword)) q ∙ ap (λ t. bytes_eq word t) decoded)

-- a text of which two characters were taken has two and more
pub two_chars : (text later last : List ℕ) (a b : ℕ) → IsUtf8 text → text ≡ encode_utf8 a ++ later → later ≡ encode_utf8 b ++ last → None ≡ only_char (chars text)
two_chars text later last a b u p q =
    let all : chars text ≡ a ∷ b ∷ chars last = chars_past_char text later a u p ∙ ap (λ t. a ∷ t) (chars_past_char later last b (IsUtf8-past_char text later a u p) q) in
    ap only_char (sym all)

-- a text that ends after its first character has that one alone
pub one_char : (text later : List ℕ) (a : ℕ) → IsUtf8 text → text ≡ encode_utf8 a ++ later → length later ≡ 0 → Some a ≡ only_char (chars text)
one_char text [] a u p e =
    let all : chars text ≡ a ∷ [] = chars_past_char text [] a u p ∙ ap (λ t. a ∷ t) chars-nil in
    ap only_char (sym all)
one_char text (b ∷ later) a u p e = absurd (omega (arith, e))
