-- A text is a command word by its first two characters.
use Rattle.std.proofs.Common.{◌≡◌, ℕ, ◌==◌, false, List, [], ◌∷◌, ◌++◌, length, sym, ap, ◌∙◌, arith}
use Rattle.std.specs.Prelude.{chars, encode_utf8}
use Rattle.std.specs.Str.{IsUtf8}
use Rattle.std.proofs.lemmas.Str.{chars-nil, chars_past_char, IsUtf8-past_char}
use Rattle.coll_requests.specs.Commands.{is_command_word}

-- a text of which two characters were taken is a command word by the first
pub command_of_two : (text later last : List ℕ) (a b : ℕ) → IsUtf8 text → text ≡ encode_utf8 a ++ later → later ≡ encode_utf8 b ++ last → (a == 58) ≡ is_command_word (chars text)
command_of_two text later last a b u p q =
    let all : chars text ≡ a ∷ b ∷ chars last = chars_past_char text later a u p ∙ ap (λ t. a ∷ t) (chars_past_char later last b (IsUtf8-past_char text later a u p) q) in
    ap is_command_word (sym all)

-- a text that ends after its first character is none
pub command_of_one : (text later : List ℕ) (a : ℕ) → IsUtf8 text → text ≡ encode_utf8 a ++ later → length later ≡ 0 → false ≡ is_command_word (chars text)
command_of_one text [] a u p e =
    let all : chars text ≡ a ∷ [] = chars_past_char text [] a u p ∙ ap (λ t. a ∷ t) chars-nil in
    ap is_command_word (sym all)
command_of_one text (b ∷ later) a u p e = absurd (omega (arith, e))
