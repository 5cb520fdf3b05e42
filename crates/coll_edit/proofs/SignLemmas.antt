-- A line with its signs, byte by byte.
use Rattle.std.proofs.Common.{◌≡◌, ℕ, List, [], ◌∷◌, ◌++◌, refl, sym, ap, ◌∙◌, append-nil, append_assoc}
use Rattle.coll_edit.specs.WordSigns.{behind, put_sign, with_signs}
use Rattle.coll_edit.specs.declared.word_signs.Before.{Before}

signs_nil : (stands : Before) → with_signs stands [] ≡ []
unfolding with_signs
signs_nil stands = refl

signs_cons : (stands : Before) (byte : ℕ) (bytes : List ℕ) → with_signs stands (byte ∷ bytes) ≡ put_sign stands byte ++ with_signs (behind stands byte) bytes
unfolding with_signs
signs_cons stands byte bytes = refl

-- one byte more is put
pub signs_on : (whole kept kept2 line rest : List ℕ) (stands : Before) (byte : ℕ) → kept ++ with_signs stands line ≡ whole → line ≡ byte ∷ rest → kept2 ≡ kept ++ put_sign stands byte
    → kept2 ++ with_signs (behind stands byte) rest ≡ whole
signs_on whole kept kept2 line rest stands byte going cut put =
    ap (λ l. l ++ with_signs (behind stands byte) rest) put ∙ append_assoc kept (put_sign stands byte) (with_signs (behind stands byte) rest)
    ∙ ap (λ l. kept ++ l) (sym (ap (with_signs stands) cut ∙ signs_cons stands byte rest)) ∙ going

-- all bytes are put
pub signs_end : (whole kept line : List ℕ) (stands : Before) → kept ++ with_signs stands line ≡ whole → line ≡ [] → kept ≡ whole
signs_end whole kept line stands going none = sym (append-nil kept) ∙ ap (λ l. kept ++ l) (sym (ap (with_signs stands) none ∙ signs_nil stands)) ∙ going
