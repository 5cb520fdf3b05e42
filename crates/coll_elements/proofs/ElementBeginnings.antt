-- When a text begins with an element, as characters and as bytes.
use Rattle.std.proofs.Common.{◌≡◌, ◌≢◌, ◌<◌, ℕ, true, false, ◌==◌, ◌&&◌, List, [], ◌∷◌, ◌++◌, length, chars, sym, ap, ap₂, ◌∙◌, refl, arith}
use Rattle.std.specs.Prelude.{encode_utf8_all}
use Rattle.std.specs.Str.{IsUtf8}
use Rattle.std.proofs.lemmas.Bool.{false≢true}
use Rattle.std.proofs.lemmas.Bool.Decides.{Decides-eqb}
use Rattle.std.proofs.lemmas.Str.{chars-append, encodes-append, encodes-chars}
use Rattle.coll_elements.proofs.Tests.{by_test}
use Rattle.coll_elements.specs.Elements.{begins_with}
use Rattle.coll_elements.specs.ElementOrder.{first_of}

-- a text that begins with a string goes on behind it
pub goes_on : (text string : List ℕ) → begins_with text string ≡ true → (rest : List ℕ) × (text ≡ string ++ rest)
goes_on text [] h = (text, refl)
goes_on [] (c ∷ string) h = absurd (false≢true h)
goes_on (d ∷ text) (c ∷ string) h =
    by_test (λ b. (b && begins_with text string) ≡ true → (rest : List ℕ) × (d ∷ text ≡ (c ∷ string) ++ rest)) (d == c)
    (λ same later. let rest = goes_on text string later in (rest.0, ap₂ (λ (x : ℕ) (xs : List ℕ). x ∷ xs) ((Decides-eqb d c).0 same) rest.1))
    (λ other later. absurd (false≢true later)) h

-- and one that does begins with it
pub begins_so : (string rest : List ℕ) → begins_with (string ++ rest) string ≡ true
begins_so [] rest = refl
begins_so (c ∷ string) rest = ap (λ b. b && begins_with (string ++ rest) string) ((Decides-eqb c c).1 refl) ∙ begins_so string rest

-- a text that begins with other bytes doesn't begin with a string
pub not_begun : (text bytes string : List ℕ) → IsUtf8 text → encode_utf8_all string ≡ bytes → ((rest : List ℕ) → text ≢ bytes ++ rest) → begins_with (chars text) string ≡ false
not_begun text bytes string u spelled none =
    by_test (λ b. begins_with (chars text) string ≡ b → begins_with (chars text) string ≡ false) (begins_with (chars text) string)
    (λ on e. let rest = goes_on (chars text) string e in
    absurd (none (encode_utf8_all rest.0) (sym (encodes-chars text u) ∙ (ap encode_utf8_all rest.1 ∙ (encodes-append string rest.0 ∙ ap (λ b. b ++ encode_utf8_all rest.0) spelled)))))
    (λ off e. e) refl

-- a text that begins with its bytes does, and goes on with what stands behind them
pub begun : (text bytes string behind rest : List ℕ) → IsUtf8 bytes → chars bytes ≡ string → text ≡ bytes ++ rest → behind ≡ rest → chars text ≡ string ++ chars behind
begun text bytes string behind rest u read whole is =
    ap chars whole ∙ (chars-append bytes rest u ∙ ap₂ (λ (xs ys : List ℕ). xs ++ ys) read (ap chars (sym is)))

-- a text doesn't begin with a string that has another first character
pub other_first : (first : ℕ) (rest string : List ℕ) → 0 < length string → first_of string ≢ first → begins_with (first ∷ rest) string ≡ false
other_first first rest [] some other = absurd (omega arith)
other_first first rest (c ∷ string) some other =
    by_test (λ b. (b && begins_with rest string) ≡ false) (first == c)
    (λ same. absurd (other (sym ((Decides-eqb first c).0 same))))
    (λ off. refl)
