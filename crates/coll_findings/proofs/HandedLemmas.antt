-- The lines of a text, cut at its line feeds and handed on one after another.
use Rattle.std.proofs.Common.{◌≡◌, ℕ, ◌+◌, ◌-◌, ◌<◌, ◌==◌, Bool, true, false, if◌then◌else◌, All, List, [], ◌∷◌, ◌++◌, length, drop, take, get_or, slice_index, refl, sym, ap, ◌∙◌, subst, arith}
use Rattle.std.specs.Prelude.{Option, Some, None}
use Rattle.std.proofs.lemmas.Bool.{false≢true}
use Rattle.std.proofs.lemmas.Bool.Decides.{Decides-eqb}
use Rattle.std.proofs.lemmas.List.{drop_all, drop_more, length-drop, take-append-drop, take_all}
use Rattle.coll_devices.specs.PhysicalLines.{line_feed, IsInLine, lines_of}
use Rattle.coll_devices.proofs.PhysicalLinesLemmas.{lines_of-ended, lines_of-nil}
use Rattle.coll_lex.specs.EarlyEnds.{early_end}
use Rattle.coll_lex.specs.declared.early_ends.EarlyEnd.{EarlyEnd}
use Rattle.coll_lex.specs.declared.tokens.Token.{Token}
use Rattle.coll_findings.specs.SurveyedLines.{Handed, HandsOn, HandsOnAll, LinesState, Takes, TakesOne, ended_early, end_then, handed_at, handed_on, handed_then, lines_state}
use Rattle.coll_findings.specs.declared.line_surveys.Lines.{Lines}

-- Lines.

-- bytes of which none is found to end a line stand in one
pub in_line : (bytes : List ℕ) → All (λ byte. (byte == line_feed) ≡ false) bytes → IsInLine bytes
in_line bytes none k d below = λ feed.
    let here : (get_or bytes k d == line_feed) ≡ true = ap (λ byte. byte == line_feed) feed in
    let other : (get_or bytes k d == line_feed) ≡ false = none k d below in
    cc

-- the first line of a text ends at its first line feed
pub ended_at : (text : List ℕ) (at : ℕ) → at < length text → (slice_index text at == line_feed) ≡ true
    → All (λ byte. (byte == line_feed) ≡ false) (take at text) → lines_of text ≡ take at text ∷ lines_of (drop (at + 1) text)
ended_at text at within found none =
    let feed : slice_index text at ≡ line_feed = (Decides-eqb (slice_index text at) line_feed).0 found in
    let split : text ≡ take at text ++ line_feed ∷ drop (at + 1) text =
    sym (take-append-drop at text) ∙ ap (λ l. take at text ++ l) (drop_more text at 0 within ∙ ap (λ c. c ∷ drop (at + 1) text) feed) in
    ap lines_of split ∙ lines_of-ended (take at text) (drop (at + 1) text) (in_line (take at text) none)

-- the bytes behind a place, by their number
pub to_the_end : (text : List ℕ) (n : ℕ) → take (length text - n) (drop n text) ≡ drop n text
to_the_end text n = take_all (length text - n) (drop n text) (omega (arith, length-drop n text))

-- nothing stands behind a text
pub none_behind : (text : List ℕ) → take (length text - length text) (drop (length text) text) ≡ []
none_behind text = to_the_end text (length text) ∙ drop_all (length text) text (omega arith)

-- What is handed on.

-- what the lines that are left do from here is what all do from the first on
pub record IsUnderway {S : Type 0} (takes : S → Handed → S → Type 0) (ends : List Token → Bool) (first : LinesState) (all : List (List ℕ)) (at : Lines) (left : List (List ℕ)) (begun now : S)
    : Type 0 where
  pub goes_on : (new : S) (end : Option EarlyEnd) → HandsOnAll takes ends (lines_state at) left now new end → HandsOnAll takes ends first all begun new end
  pub passes : at.passes ≡ false
  pub passed : at.passed ≡ 0

-- at first
pub underway : {S : Type 0} (takes : S → Handed → S → Type 0) (ends : List Token → Bool) (at : Lines) (all : List (List ℕ)) (begun : S) → at.passes ≡ false → at.passed ≡ 0
    → IsUnderway takes ends (lines_state at) all at all begun begun
underway takes ends at all begun passes passed = record { goes_on = λ new end on. on; passes = passes; passed = passed }

-- no line is left
pub handed_none : {S : Type 0} (takes : S → Handed → S → Type 0) (ends : List Token → Bool) (at : LinesState) (now : S) (end : EarlyEnd) → end ≡ early_end at.begun at.lexer
    → HandsOnAll takes ends at [] now now (Some end)
unfolding handed_on ended_early Takes
handed_none takes ends at now end is = record { taken = refl; ended = ap Some is }

-- what is handed on of one line, and of those behind it
more_taken : {S : Type 0} (takes : S → Handed → S → Type 0) (ends : List Token → Bool) (handed : Option Handed) (later : List Handed) (old mid new : S) → TakesOne takes ends handed old mid false
    → Takes takes later mid new → Takes takes (handed_then ends handed later) old new
unfolding Takes
more_taken {S} takes ends None later old mid new one on = subst (λ (s : S). Takes takes later s new) one.0 on
more_taken {S} takes ends (Some handed) later old mid new one on =
    (mid, one.0, subst (λ (last : Bool). Takes takes (if last then [] else later) mid new) one.1 on)

more_ended : {S : Type 0} (takes : S → Handed → S → Type 0) (ends : List Token → Bool) (handed : Option Handed) (later : Option EarlyEnd) (old mid : S) → TakesOne takes ends handed old mid false
    → later ≡ end_then ends handed later
more_ended takes ends None later old mid one = refl
more_ended takes ends (Some handed) later old mid one = ap (λ (last : Bool). if last then None else later) one.1

last_taken : {S : Type 0} (takes : S → Handed → S → Type 0) (ends : List Token → Bool) (handed : Option Handed) (later : List Handed) (old new : S) → TakesOne takes ends handed old new true
    → Takes takes (handed_then ends handed later) old new
unfolding Takes
last_taken {S} takes ends None later old new one = absurd (false≢true (sym one.1))
last_taken {S} takes ends (Some handed) later old new one =
    (new, one.0, subst (λ (last : Bool). Takes takes (if last then [] else later) new new) one.1 refl)

last_ended : {S : Type 0} (takes : S → Handed → S → Type 0) (ends : List Token → Bool) (handed : Option Handed) (later : Option EarlyEnd) (old new : S) → TakesOne takes ends handed old new true
    → None ≡ end_then ends handed later
last_ended takes ends None later old new one = absurd (false≢true (sym one.1))
last_ended takes ends (Some handed) later old new one = ap (λ (last : Bool). if last then None else later) one.1

handed_more : {S : Type 0} (takes : S → Handed → S → Type 0) (ends : List Token → Bool) (at : LinesState) (line : List ℕ) (later : List (List ℕ)) (old mid new : S) (end : Option EarlyEnd)
    → TakesOne takes ends (handed_at at line).handed old mid false → HandsOnAll takes ends (handed_at at line).after later mid new end → HandsOnAll takes ends at (line ∷ later) old new end
unfolding handed_on ended_early
handed_more takes ends at line later old mid new end one on = record {
  taken = more_taken takes ends (handed_at at line).handed (handed_on ends (handed_at at line).after later) old mid new one on.taken;
  ended = on.ended ∙ more_ended takes ends (handed_at at line).handed (ended_early ends (handed_at at line).after later) old mid one;
}

handed_last : {S : Type 0} (takes : S → Handed → S → Type 0) (ends : List Token → Bool) (at : LinesState) (line : List ℕ) (later : List (List ℕ)) (old new : S)
    → TakesOne takes ends (handed_at at line).handed old new true → HandsOnAll takes ends at (line ∷ later) old new None
unfolding handed_on ended_early
handed_last takes ends at line later old new one = record {
  taken = last_taken takes ends (handed_at at line).handed (handed_on ends (handed_at at line).after later) old new one;
  ended = last_ended takes ends (handed_at at line).handed (ended_early ends (handed_at at line).after later) old new one;
}

-- a line that ends no category is handed on, or isn't
pub underway_more : {S : Type 0} (takes : S → Handed → S → Type 0) (ends : List Token → Bool) (first : LinesState) (all : List (List ℕ)) (at after : Lines) (line : List ℕ)
    (left later : List (List ℕ)) (begun now new : S) (ended : Bool) → IsUnderway takes ends first all at left begun now → left ≡ line ∷ later
    → (at.passes ≡ false → at.passed ≡ 0 → HandsOn takes ends at line after now new ended) → ended ≡ false → IsUnderway takes ends first all after later begun new
underway_more {S} takes ends first all at after line left later begun now new ended way is one goes =
    let step = one way.passes way.passed in
    record {
      goes_on = λ last end on. way.goes_on last end (subst (λ (lines : List (List ℕ)). HandsOnAll takes ends (lines_state at) lines now last end) (sym is)
          (handed_more takes ends (lines_state at) line later now new last end
          (subst (λ (b : Bool). TakesOne takes ends (handed_at (lines_state at) line).handed now new b) goes step.0)
          (subst (λ (s : LinesState). HandsOnAll takes ends s later new last end) step.1 on)));
      passes = step.2 ∙ way.passes;
      passed = step.3 ∙ way.passed;
    }

-- a line that ends it
pub underway_last : {S : Type 0} (takes : S → Handed → S → Type 0) (ends : List Token → Bool) (first : LinesState) (all : List (List ℕ)) (at after : Lines) (line : List ℕ)
    (left later : List (List ℕ)) (begun now new : S) (ended : Bool) → IsUnderway takes ends first all at left begun now → left ≡ line ∷ later
    → (at.passes ≡ false → at.passed ≡ 0 → HandsOn takes ends at line after now new ended) → ended ≡ true → HandsOnAll takes ends first all begun new None
underway_last {S} takes ends first all at after line left later begun now new ended way is one goes =
    let step = one way.passes way.passed in
    way.goes_on new None (subst (λ (lines : List (List ℕ)). HandsOnAll takes ends (lines_state at) lines now new None) (sym is)
    (handed_last takes ends (lines_state at) line later now new (subst (λ (b : Bool). TakesOne takes ends (handed_at (lines_state at) line).handed now new b) goes step.0)))

-- behind the last line
pub underway_all : {S : Type 0} (takes : S → Handed → S → Type 0) (ends : List Token → Bool) (first : LinesState) (all : List (List ℕ)) (at : Lines) (left : List ℕ) (begun now : S) (end : EarlyEnd)
    → IsUnderway takes ends first all at (lines_of left) begun now → left ≡ [] → end ≡ early_end at.begun at.lexer → HandsOnAll takes ends first all begun now (Some end)
underway_all {S} takes ends first all at left begun now end way none is =
    way.goes_on now (Some end) (subst (λ (lines : List (List ℕ)). HandsOnAll takes ends (lines_state at) lines now now (Some end)) (sym (ap lines_of none ∙ lines_of-nil))
    (handed_none takes ends (lines_state at) now end is))
