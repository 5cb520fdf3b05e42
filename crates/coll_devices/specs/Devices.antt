-- What a device counts and whether all that it took was flushed, and what a function that writes does to the bytes that a device
-- took.
use Rattle.std.specs.Prelude.{◌≡◌, ℕ, ◌+◌, ◌%◌, ◌^◌, Bool, true, false, ◌&&◌, ◌==◌, nat_lt}
use Rattle.std.specs.Prelude.{if◌then◌else◌, List, ◌++◌, length, Option, Result, MatchResult}
use Rattle.std.specs.Io.KnownBytes.{Appends}

-- a count of 64 bits, one higher; after the highest comes 0
abbrev pub raised : ℕ → ℕ
raised n = (n + 1) % 2 ^ 64

-- the count goes up by one at an error, and else stays
abbrev pub CountsErr : {T E : Type 0} → ℕ → ℕ → Result T E → Type 0
CountsErr old new r = MatchResult r (λ _. new ≡ old) (λ _. new ≡ raised old)

-- a write of some bytes that took none
abbrev pub took_none : ℕ → List ℕ → Bool
took_none n bytes = (n == 0) && nat_lt 0 (length bytes)

-- the count goes up by one at an error and where a write of some bytes took none, and else stays
abbrev pub CountsWrite : {E : Type 0} → ℕ → ℕ → Result ℕ E → List ℕ → Type 0
CountsWrite old new r bytes = MatchResult r (λ n. new ≡ (if took_none n bytes then raised old else old)) (λ _. new ≡ raised old)

-- bytes that were taken aren't flushed yet; where none were taken, it stays whether all was flushed
abbrev pub LeavesUnflushed : {E : Type 0} → Bool → Bool → Result ℕ E → Type 0
LeavesUnflushed old new r = MatchResult r (λ n. new ≡ (if n == 0 then old else false)) (λ _. new ≡ old)

-- all that was taken is flushed, but at an error, where it stays whether it was
abbrev pub FlushesAll : {T E : Type 0} → Bool → Bool → Result T E → Type 0
FlushesAll old new r = MatchResult r (λ _. new ≡ true) (λ _. new ≡ old)

-- the device took a prefix of these bytes
abbrev pub AppendsPrefix : Option (List ℕ) → Option (List ℕ) → List ℕ → Type 0
AppendsPrefix old new bytes = (prefix : List ℕ) × (back : List ℕ) × (bytes ≡ prefix ++ back) × Appends old new prefix

-- the device took all of these bytes, or at an error a prefix of them
abbrev pub Sends : {T E : Type 0} → Option (List ℕ) → Option (List ℕ) → List ℕ → Result T E → Type 0
Sends old new bytes r = MatchResult r (λ _. Appends old new bytes) (λ _. AppendsPrefix old new bytes)

-- the device took all of these bytes, or at an error a prefix of them, and a failure was counted exactly there
pub record Writes {T E : Type 0} (taken taken_after : Option (List ℕ)) (failed failed_after : ℕ) (bytes : List ℕ) (r : Result T E)
    : Type 0 where
  pub sent : Sends taken taken_after bytes r
  pub errors : CountsErr failed failed_after r
