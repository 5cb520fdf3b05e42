-- How the steps of a line reader add up to one call of `advance`.
use Rattle.std.proofs.Common.{◌≡◌, ℕ, ◌<◌, ◌≤◌, Bool, true, false, nat_lt, List, [], ◌++◌, length, take, Option, None, Some, Ok, refl, sym, ap, ◌∙◌, subst, inl, append_assoc, append-nil, arith}
use Rattle.std.specs.Io.KnownBytes.{prepend_known, Keeps, Consumes, IsAtEnd}
use Rattle.std.proofs.KnownBytes.{Keeps-trans}
use Rattle.std.proofs.lemmas.List.{take_all, take_at, nil_from_length}
use Rattle.std.proofs.lemmas.Bool.{ltb-true, ltb-false}
use Rattle.coll_devices.specs.declared.stops.ReadStop.{ReadStop}
use Rattle.coll_devices.specs.PhysicalLines.{IsInLine}
use Rattle.coll_devices.specs.LineReading.{ReaderState, unread, Cuts, Advances, StopsNow, HasStop, counted}

-- a read moves known bytes from the device to those held back
pub prepend-moved : (left after : Option (List ℕ)) (held more : List ℕ) → Consumes left after more → Keeps (prepend_known held left) (prepend_known (held ++ more) after)
prepend-moved None None held more c = tt
prepend-moved None (Some ys) held more c = tt
prepend-moved (Some xs) None held more c = absurd c
prepend-moved (Some xs) (Some ys) held more c = append_assoc held more ys ∙ ap (λ l. held ++ l) (sym c)

-- bytes that a device keeps stay behind those held back
pub prepend-kept : (left after : Option (List ℕ)) (held : List ℕ) → Keeps left after → Keeps (prepend_known held left) (prepend_known held after)
prepend-kept None after held k = tt
prepend-kept (Some xs) None held k = absurd k
prepend-kept (Some xs) (Some ys) held k = ap (λ l. held ++ l) k

-- the whole is in a line where a prefix of it is that is no shorter
pub in_line_whole : (n : ℕ) (xs : List ℕ) → length xs ≤ n → IsInLine (take n xs) → IsInLine xs
in_line_whole n xs short prefix = subst IsInLine (take_all n xs short) prefix

-- the same, once more bytes were read
pub in_line_grown : (n : ℕ) (xs more : List ℕ) → length xs ≡ n → IsInLine xs → IsInLine (take n (xs ++ more))
in_line_grown n xs more long whole = subst IsInLine (sym (take_at xs more n long)) whole

-- the call that stopped the reader
pub stops : (first held new : ReaderState) (left after : Option (List ℕ)) (failed failed_after : ℕ) (stop : ReadStop)
    → Keeps (unread first left) (unread held after) → HasStop (record held { line = []; stop = Some stop }) stop → failed_after ≡ counted stop failed → first.stop ≡ None → first.ended ≡ false
    → new ≡ record held { line = []; stop = Some stop } → StopsNow first new left after failed failed_after stop
stops first held new left after failed failed_after stop kept cause count went_on not_ended is =
    let P : ReaderState → Type 0 = λ r. StopsNow first r left after failed failed_after stop in
    subst P (sym is) (record { kept = kept; cause = cause; line = refl; count = count; went_on = went_on; not_ended = not_ended })

-- at the end of the device, the bytes held back are all that was unread
pub unread-ended : (first : List ℕ) (left after : Option (List ℕ)) (held : List ℕ) → Keeps (prepend_known first left) (prepend_known held after) → IsAtEnd after
    → 0 < length held → Cuts true (prepend_known first left) (prepend_known [] after) held
unread-ended first None after held kept end some = tt
unread-ended first (Some xs) None held kept end some = absurd kept
unread-ended first (Some xs) (Some ys) held kept end some =
    (sym kept ∙ ap (λ l. held ++ l) end ∙ append-nil held, some, end)

-- the same where nothing is held back
pub unread-empty : (first : List ℕ) (left after : Option (List ℕ)) (held : List ℕ) → Keeps (prepend_known first left) (prepend_known held after) → IsAtEnd after
    → held ≡ [] → IsAtEnd (prepend_known [] after) × Keeps (prepend_known first left) (prepend_known [] after)
unread-empty first None None held kept end none = (tt, tt)
unread-empty first None (Some ys) held kept end none = (end, tt)
unread-empty first (Some xs) None held kept end none = absurd kept
unread-empty first (Some xs) (Some ys) held kept end none = (end, ap (λ l. l ++ ys) (sym none) ∙ kept)

-- the last line, or the end, once the device is at its end
pub ends : (first last new : ReaderState) (left after : Option (List ℕ)) (failed failed_after : ℕ) (given : Bool)
    → Keeps (unread first left) (unread last after) → IsAtEnd after → IsInLine last.held → length last.held ≤ 65536 → failed_after ≡ failed
    → first.stop ≡ None → first.ended ≡ false → last.stop ≡ None → new ≡ record last { line = last.held; held = []; ended = true } → nat_lt 0 (length last.held) ≡ given
    → Advances first new left after failed failed_after (Ok given)
ends first last new left after failed failed_after true kept end whole short count went_on not_ended stop is given =
    let P : ReaderState → Type 0 = λ r. Advances first r left after failed failed_after (Ok true) in
    subst P (sym is) (record {
      cut = unread-ended first.held left after last.held kept end (ltb-true 0 (length last.held) given);
      whole = whole;
      short = short;
      at_end = end;
      count = count;
      went_on = went_on;
      not_ended = not_ended;
      stop = stop;
    })
ends first last new left after failed failed_after false kept end whole short count went_on not_ended stop is given =
    let P : ReaderState → Type 0 = λ r. Advances first r left after failed failed_after (Ok false) in
    let none : last.held ≡ [] = nil_from_length last.held (omega (arith, ltb-false 0 (length last.held) given)) in
    let e = unread-empty first.held left after last.held kept end none in
    subst P (sym is) (inl (record {
      end = e.0;
      kept = e.1;
      line = none;
      held = refl;
      count = count;
      went_on = went_on;
      not_ended = not_ended;
      stop = stop;
      ended = refl;
    }))

-- what was unread is still unread after a read
pub unread-read : (first held filled : ReaderState) (start left after : Option (List ℕ)) (more : List ℕ) → Keeps (unread first start) (unread held left)
    → filled ≡ record held { line = []; held = held.held ++ more } → Consumes left after more → Keeps (unread first start) (unread filled after)
unread-read first held filled start left after more kept is moved =
    let P : ReaderState → Type 0 = λ r. Keeps (unread first start) (unread r after) in
    subst P (sym is) (Keeps-trans _ _ _ kept (prepend-moved left after held.held more moved))
