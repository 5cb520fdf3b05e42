-- What a search for a line feed tells of the bytes that it went over.
use Rattle.std.proofs.Common.{◌≡◌, ℕ, ◌<◌, ◌≤◌, ◌==◌, List, length, take, get_or, Option, None, Some, IfSome, IfNone, slice_index, sym, ap, ◌∙◌, arith}
use Rattle.std.proofs.lemmas.Bool.Decides.{Decides-eqb}
use Rattle.std.proofs.lemmas.List.{get_or-take, get_or_default, length-take-le}
use Rattle.memchr.specs.Find.{IsFirstByte, Nowhere, Passes, is_byte}
use Rattle.coll_devices.specs.PhysicalLines.{line_feed, IsInLine}

module _ (bytes : List ℕ) where
  -- bytes among which none was found have none
  none_among : Nowhere (Passes (is_byte line_feed) bytes) 0 (length bytes) → IsInLine bytes
  none_among absent k d below = λ feed. absent k (omega arith) below (ap (λ c. c == line_feed) (get_or_default bytes k 0 d below ∙ feed))

  -- a prefix in which none was found has none
  none_before : (at : ℕ) → at ≤ length bytes → Nowhere (Passes (is_byte line_feed) bytes) 0 at → IsInLine (take at bytes)
  none_before at within absent k d below =
      let early : k < at = omega (arith, length-take-le at bytes within) in
      let here : get_or (take at bytes) k d ≡ slice_index bytes k = get_or-take at bytes k d early ∙ get_or_default bytes k d 0 (omega arith) in
      λ feed. absent k (omega arith) early (ap (λ c. c == line_feed) (sym here ∙ feed))

  pub none_found : (found : Option ℕ) → IsFirstByte (is_byte line_feed) bytes found → IfNone found (IsInLine bytes)
  none_found None first = none_among first
  none_found (Some at) first = tt

  pub found_within : (found : Option ℕ) → IsFirstByte (is_byte line_feed) bytes found → IfSome found (λ at. at < length bytes)
  found_within None first = tt
  found_within (Some at) first = first.0.high

  pub found_there : (found : Option ℕ) → IsFirstByte (is_byte line_feed) bytes found → IfSome found (λ at. slice_index bytes at ≡ line_feed)
  found_there None first = tt
  found_there (Some at) first = (Decides-eqb (slice_index bytes at) line_feed).0 first.1

  pub found_first : (found : Option ℕ) → IsFirstByte (is_byte line_feed) bytes found → IfSome found (λ at. IsInLine (take at bytes))
  found_first None first = tt
  found_first (Some at) first = none_before at (omega (arith, first.0.high)) first.0.before
