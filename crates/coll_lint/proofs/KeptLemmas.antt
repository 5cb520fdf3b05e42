-- What is kept of a device, read by read.
use Rattle.std.proofs.Common.{◌≡◌, ℕ, List, ◌++◌, Option, Some, None, sym, ap, ◌∙◌, subst, append-nil}
use Rattle.std.specs.Io.KnownBytes.{Consumes, IsAtEnd}
use Rattle.std.proofs.KnownBytes.{Consumes-trans}
use Rattle.coll_lint.specs.KeptTexts.{IsTextOf, KeepsPart}

-- what one more read gave stands behind what was kept
pub keeps_more : (a b c : Option (List ℕ)) (kept kept_after : List ℕ) → Consumes a b kept → KeepsPart b c kept kept_after → Consumes a c kept_after
keeps_more a b c kept kept_after done part = subst (Consumes a c) (sym part.1) (Consumes-trans a b c kept part.0 done part.2)

-- at the end all is kept
pub all_kept : (a b : Option (List ℕ)) (kept : List ℕ) → Consumes a b kept → IsAtEnd b → IsTextOf a kept
all_kept None b kept done end text e = absurd (cc)
all_kept (Some l) None kept done end text e = absurd done
all_kept (Some l) (Some m) kept done end text e =
    let same : l ≡ text = cc in
    sym (append-nil kept) ∙ (ap (λ m. kept ++ m) (sym end) ∙ (sym done ∙ same))
