-- The bytes that a line reader holds, as a part of its buffer, through a line taken off and a read.
use Rattle.std.proofs.Common.{◌≡◌, ℕ, Bool, suc, ◌+◌, ◌-◌, ◌<◌, ◌≤◌, List, ◌∷◌, ◌++◌, length, take, drop, get_or, Option, slice_index, slice_range, min, refl, sym, ap, ◌∙◌, arith, ⊎_elim}
use Rattle.std.proofs.lemmas.List.{take-take, drop-drop, drop-take, get_or-take, length-take-le, take_all}
use Rattle.std.proofs.lemmas.List.Edits.{length-between, get_or-between}
use Rattle.std.proofs.lemmas.Bool.{cases_lt}
use Rattle.std.proofs.lemmas.Slice.{between_is}
use Rattle.std.proofs.Math.Seq.{split_at, take-add}
use Rattle.coll_devices.specs.PhysicalLines.{line_feed, IsInLine}
use Rattle.coll_devices.specs.declared.stops.ReadStop.{ReadStop}
use Rattle.coll_devices.specs.LineReading.{ReaderState}

-- the prefix of a part is the shorter part
pub part-prefix : (buffer : List ℕ) (s e n : ℕ) → s + n ≤ e → take n (slice_range buffer s e) ≡ slice_range buffer s (s + n)
part-prefix buffer s e n h =
    let same : s + n - s ≡ n = omega arith in
    rw same (take-take n (e - s) (drop s buffer) (omega arith))

-- the back of a part is the part that begins later
pub part-back : (buffer : List ℕ) (s e n : ℕ) → drop n (slice_range buffer s e) ≡ slice_range buffer (s + n) e
part-back buffer s e n =
    let same : e - s - n ≡ e - (s + n) = omega arith in
    sym (between_is (drop s buffer) n (e - s)) ∙ (rw (same, drop-drop) refl)

-- a line feed at place m of the bytes held back ends their first line
pub part-cut : (buffer held : List ℕ) (s e m : ℕ) → held ≡ slice_range buffer s e → s ≤ m → m < e → e ≤ length buffer → slice_index buffer m ≡ line_feed
    → held ≡ slice_range buffer s m ++ line_feed ∷ slice_range buffer (m + 1) e
part-cut buffer held s e m is low within fits feed =
    let part : List ℕ = slice_range buffer s e in
    let at : s + (m - s) ≡ m = omega arith in
    let next : s + suc (m - s) ≡ m + 1 = omega arith in
    let long : m - s < length part = omega (arith, length-between buffer s e fits) in
    let here : get_or part (m - s) 0 ≡ line_feed = (rw at at (get_or-between buffer s e (m - s) 0 (omega arith))) ∙ feed in
    let prefix : take (m - s) part ≡ slice_range buffer s m = rw at at (part-prefix buffer s e (m - s) (omega arith)) in
    let back : drop (suc (m - s)) part ≡ slice_range buffer (m + 1) e = rw next at (part-back buffer s e (suc (m - s))) in
    is ∙ split_at part (m - s) 0 long ∙ (rw (prefix, here, back) refl)

-- no line feed stands in a part whose prefix has none and where none was found behind it
pub part-in_line : (buffer held : List ℕ) (s e k n : ℕ) → held ≡ slice_range buffer s e → s + k ≤ n → n ≤ e → e ≤ length buffer
    → IsInLine (take k held) → IsInLine (slice_range buffer (s + k) n) → IsInLine (slice_range buffer s n)
part-in_line buffer held s e k n is after within fits prefix back i d below =
    let short : i < n - s = omega (arith, length-between buffer s n (omega arith)) in
    let at : get_or (slice_range buffer s n) i d ≡ get_or buffer (s + i) d = get_or-between buffer s n i d (omega arith) in
    ⊎_elim
    (λ early.
    let long : k ≤ length held = omega (arith, ap length is, length-between buffer s e fits) in
    let here : get_or (take k held) i d ≡ get_or buffer (s + i) d =
    get_or-take k held i d early ∙ ap (λ l. get_or l i d) is ∙ get_or-between buffer s e i d (omega arith) in
    λ feed. prefix i d (omega (arith, length-take-le k held long)) (here ∙ sym at ∙ feed))
    (λ late.
    let place : s + k + (i - k) ≡ s + i = omega arith in
    let here : get_or (slice_range buffer (s + k) n) (i - k) d ≡ get_or buffer (s + i) d = rw place at (get_or-between buffer (s + k) n (i - k) d (omega arith)) in
    λ feed. back (i - k) d (omega (arith, length-between buffer (s + k) n (omega arith))) (here ∙ sym at ∙ feed))
    (cases_lt i k)

-- a part that ends within a prefix that stayed
pub part-same : (old new : List ℕ) (s e : ℕ) → take e new ≡ take e old → slice_range new s e ≡ slice_range old s e
part-same old new s e prefix = between_is new s e ∙ ap (drop s) prefix ∙ sym (between_is old s e)

-- the bytes held back, once some more were read behind them
pub part-grown : (old new : List ℕ) (s h n : ℕ) → take (s + h) new ≡ take (s + h) old → slice_range new s (s + h + n) ≡ slice_range old s (s + h) ++ slice_range new (s + h) (s + h + n)
part-grown old new s h n prefix =
    let whole : s + h + n - s ≡ h + n = omega arith in
    let held : s + h - s ≡ h = omega arith in
    let more : s + h + n - (s + h) ≡ n = omega arith in
    let same : take h (drop s new) ≡ take h (drop s old) = sym (drop-take s h new) ∙ ap (drop s) prefix ∙ drop-take s h old in
    rw (whole, held, more, ← same, ← drop-drop) (take-add h n (drop s new))

-- the prefix of a part, where the part may be shorter
pub part-prefix_min : (buffer : List ℕ) (s e m n limit : ℕ) → limit ≡ min e m → m ≡ s + n → s ≤ e → e ≤ length buffer → take n (slice_range buffer s e) ≡ slice_range buffer s limit
part-prefix_min buffer s e m n limit is at order fits =
    ⊎_elim
    (λ longer.
    let same : limit ≡ s + n = omega arith in
    rw same (part-prefix buffer s e n (omega arith)))
    (λ shorter.
    let same : limit ≡ e = omega arith in
    rw same (take_all n (slice_range buffer s e) (omega (arith, length-between buffer s e fits))))
    (cases_lt m e)

-- what readers hold is equal by its parts
pub same_reader : (line line' held held' : List ℕ) (stop stop' : Option ReadStop) (ended ended' : Bool) → line ≡ line' → held ≡ held' → stop ≡ stop' → ended ≡ ended'
    → let a : ReaderState = record { line = line; held = held; stop = stop; ended = ended } in let b : ReaderState = record { line = line'; held = held'; stop = stop'; ended = ended' } in a ≡ b
same_reader line line' held held' stop stop' ended ended' p q r t = rw (p, q, r, t) refl
