-- Proofs by the answer of a test.
use Rattle.std.proofs.Common.{◌≡◌, Bool, true, false, refl}

-- what holds by either answer holds
pub by_test : (P : Bool → Type 0) (b : Bool) → (b ≡ true → P true) → (b ≡ false → P false) → P b
by_test P true on off = on refl
by_test P false on off = off refl
