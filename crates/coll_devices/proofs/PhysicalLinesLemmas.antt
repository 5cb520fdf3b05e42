-- How `lines_of` is read off a text line by line, as a line reader cuts it.
use Rattle.std.proofs.Common.{◌≡◌, ℕ, ◌<◌, Bool, true, false, if◌then◌else◌, List, [], ◌∷◌, ◌++◌, length, take, drop, refl}
use Rattle.std.proofs.Common.{sym, ap, ◌∙◌, append_assoc, take-append-drop, length-append, length-take, arith}
use Rattle.std.proofs.lemmas.Bool.{ne_eqb}
use Rattle.std.proofs.lemmas.List.Elements.{All-head, All-tail}
use Rattle.coll_devices.specs.PhysicalLines.{line_feed, IsInLine, with_first, lines_of}
use Rattle.coll_devices.specs.LineReading.{CutsLine, IsLongLine}

-- a text of no bytes has no lines
pub lines_of-nil : lines_of [] ≡ []
unfolding lines_of
lines_of-nil = refl

-- a line feed ends a line
pub lines_of-feed : (rest : List ℕ) → lines_of (line_feed ∷ rest) ≡ [] ∷ lines_of rest
unfolding lines_of
lines_of-feed rest = refl

-- another byte is the first of its line
pub lines_of-byte : (c : ℕ) (rest : List ℕ) → (c ≡ line_feed → ⊥) → lines_of (c ∷ rest) ≡ with_first c (lines_of rest)
unfolding lines_of
lines_of-byte c rest other = ap (λ b. if b then [] ∷ lines_of rest else with_first c (lines_of rest)) (ne_eqb c line_feed other)

-- a line that a line feed ends
pub lines_of-ended : (line rest : List ℕ) → IsInLine line → lines_of (line ++ line_feed ∷ rest) ≡ line ∷ lines_of rest
lines_of-ended [] rest whole = lines_of-feed rest
lines_of-ended (c ∷ cs) rest whole =
    lines_of-byte c (cs ++ line_feed ∷ rest) (All-head (λ b. b ≡ line_feed → ⊥) c cs whole) ∙ ap (with_first c) (lines_of-ended cs rest (All-tail (λ b. b ≡ line_feed → ⊥) c cs whole))

-- a last line that no line feed ends
pub lines_of-last : (c : ℕ) (line : List ℕ) → IsInLine (c ∷ line) → lines_of (c ∷ line) ≡ (c ∷ line) ∷ []
lines_of-last c [] whole = lines_of-byte c [] (All-head (λ b. b ≡ line_feed → ⊥) c [] whole) ∙ ap (with_first c) lines_of-nil
lines_of-last c (d ∷ ds) whole =
    lines_of-byte c (d ∷ ds) (All-head (λ b. b ≡ line_feed → ⊥) c (d ∷ ds) whole) ∙ ap (with_first c) (lines_of-last d ds (All-tail (λ b. b ≡ line_feed → ⊥) c (d ∷ ds) whole))

-- the same for a line that is known to have a byte
pub lines_of-part : (line : List ℕ) → 0 < length line → IsInLine line → lines_of line ≡ line ∷ []
lines_of-part [] some whole = absurd (omega arith)
lines_of-part (c ∷ cs) some whole = lines_of-last c cs whole

-- the line that a reader cuts off is the first line of what was unread
pub lines_of-cut : (ended : Bool) (all line rest : List ℕ) → CutsLine ended all line rest → IsInLine line → lines_of all ≡ line ∷ lines_of rest
lines_of-cut false all line rest cut whole = ap lines_of cut ∙ lines_of-ended line rest whole
lines_of-cut true all line rest cut whole = ap lines_of cut.0 ∙ lines_of-part line cut.1 whole ∙ ap (λ l. line ∷ l) (sym lines_of-nil ∙ ap lines_of (sym cut.2))

-- the first line after one more byte at the front
with_first-prefix : (c : ℕ) (lines : List (List ℕ)) → (line : List ℕ) × (rest : List (List ℕ)) × (with_first c lines ≡ (c ∷ line) ∷ rest)
with_first-prefix c [] = ([], [], refl)
with_first-prefix c (line ∷ lines) = (line, lines, refl)

-- a text that begins with bytes of one line has a first line that begins with them
pub lines_of-begun : (prefix more : List ℕ) → 0 < length prefix → IsInLine prefix → (line : List ℕ) × (rest : List (List ℕ)) × (lines_of (prefix ++ more) ≡ (prefix ++ line) ∷ rest)
lines_of-begun [] more some whole = absurd (omega arith)
lines_of-begun (c ∷ []) more some whole =
    let e = with_first-prefix c (lines_of more) in
    (e.0, e.1, lines_of-byte c more (All-head (λ b. b ≡ line_feed → ⊥) c [] whole) ∙ e.2)
lines_of-begun (c ∷ d ∷ ds) more some whole =
    let e = lines_of-begun (d ∷ ds) more (omega arith) (All-tail (λ b. b ≡ line_feed → ⊥) c (d ∷ ds) whole) in
    (e.0, e.1, lines_of-byte c (d ∷ (ds ++ more)) (All-head (λ b. b ≡ line_feed → ⊥) c (d ∷ ds) whole) ∙ ap (with_first c) e.2)

-- where a reader stops at a line that is too long, the first line of what was unread is too long
pub lines_of-long : (held more : List ℕ) → IsLongLine held → (line : List ℕ) × (rest : List (List ℕ)) × (lines_of (held ++ more) ≡ line ∷ rest) × (65536 < length line)
lines_of-long held more long =
    let prefix : List ℕ = take 65537 held in
    let count : length prefix ≡ 65537 = omega (arith, length-take 65537 held, long.long) in
    let split : held ++ more ≡ prefix ++ (drop 65537 held ++ more) = ap (λ l. l ++ more) (sym (take-append-drop 65537 held)) ∙ append_assoc prefix (drop 65537 held) more in
    let e = lines_of-begun prefix (drop 65537 held ++ more) (omega arith) long.whole in
    (prefix ++ e.0, e.1, ap lines_of split ∙ e.2, omega (arith, length-append prefix e.0))
