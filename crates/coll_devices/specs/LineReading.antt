-- What a line reader holds, and what one call of it gives, by cases.
use Rattle.std.specs.Prelude.{◌≡◌, ℕ, ◌+◌, ◌<◌, ◌≤◌, Bool, true, false, List, [], ◌∷◌, ◌++◌, length, take}
use Rattle.std.specs.Prelude.{Option, None, Some, Result, Ok, Err, MatchResult, ◌⊎◌, ⊤}
use Rattle.std.specs.Bool.{OnTrue}
use Rattle.std.specs.Borrow.{Bor}
use Rattle.std.specs.Io.KnownBytes.{prepend_known, Keeps, Consumes, IsAtEnd}
use Rattle.coll_devices.specs.declared.stops.ReadStop.{ReadStop}
use Rattle.coll_devices.specs.declared.stops.ReadStop.TheVariants.{LineTooLong, ReadFault}
use Rattle.coll_devices.specs.Limits.{most_line_bytes}
use Rattle.coll_devices.specs.Devices.{raised}
use Rattle.coll_devices.specs.PhysicalLines.{line_feed, IsInLine}

-- the line given, the bytes read and not given yet, the stop that is answered from now on, and whether the end of the
-- input was met, which is answered from now on
pub record ReaderState : Type 0 where
  pub line : List ℕ
  pub held : List ℕ
  pub stop : Option ReadStop
  pub ended : Bool

-- what a new reader holds
abbrev pub no_line : ReaderState
no_line = record { line = []; held = []; stop = None; ended = false }

-- the bytes still to be given, where those left in the device are known
abbrev pub unread : ReaderState → Option (List ℕ) → Option (List ℕ)
unread r left = prepend_known r.held left

-- the line stands at the front, before a line feed and the rest; or, where the end was met, as all that is left, and has a byte
abbrev pub CutsLine : (ended : Bool) → List ℕ → List ℕ → List ℕ → Type 0
CutsLine false all line rest = all ≡ line ++ line_feed ∷ rest
CutsLine true all line rest = (all ≡ line) × (0 < length line) × (rest ≡ [])

-- known bytes lose this line
abbrev pub Cuts : (ended : Bool) → Option (List ℕ) → Option (List ℕ) → List ℕ → Type 0
Cuts ended None new line = ⊤
Cuts ended (Some all) None line = ⊥
Cuts ended (Some all) (Some rest) line = CutsLine ended all line rest

-- the next physical line was given: a line feed ended it, or the end of the input, which was met behind it
pub record GivesLine (old new : ReaderState) (left left_after : Option (List ℕ)) (failed failed_after : ℕ) : Type 0 where
  pub cut : Cuts new.ended (unread old left) (unread new left_after) new.line
  pub whole : IsInLine new.line
  pub short : length new.line ≤ most_line_bytes
  pub at_end : OnTrue new.ended (IsAtEnd left_after)
  pub count : failed_after ≡ failed
  pub went_on : old.stop ≡ None
  pub not_ended : old.ended ≡ false
  pub stop : new.stop ≡ None

-- the end was met and no byte was left, so no line was given
pub record GivesEnd (old new : ReaderState) (left left_after : Option (List ℕ)) (failed failed_after : ℕ) : Type 0 where
  pub end : IsAtEnd (unread new left_after)
  pub kept : Keeps (unread old left) (unread new left_after)
  pub line : new.line ≡ []
  pub held : new.held ≡ []
  pub count : failed_after ≡ failed
  pub went_on : old.stop ≡ None
  pub not_ended : old.ended ≡ false
  pub stop : new.stop ≡ None
  pub ended : new.ended ≡ true

-- an earlier call has met the end, and nothing was touched but the line, which is no more
pub record EndsAgain (old new : ReaderState) (left left_after : Option (List ℕ)) (failed failed_after : ℕ) : Type 0 where
  pub kept : Keeps left left_after
  pub same : new ≡ record old { line = [] }
  pub count : failed_after ≡ failed
  pub went_on : old.stop ≡ None
  pub ended : old.ended ≡ true

-- the bytes begin a line that is longer than a line may be
pub record IsLongLine (bytes : List ℕ) : Type 0 where
  pub long : most_line_bytes < length bytes
  pub whole : IsInLine (take (most_line_bytes + 1) bytes)

-- the reader has stopped for this reason: it holds more of one line than is allowed, or a part of a line behind which a read failed
abbrev pub HasStop : ReaderState → ReadStop → Type 0
HasStop r LineTooLong = (r.stop ≡ Some LineTooLong) × IsLongLine r.held
HasStop r ReadFault = (r.stop ≡ Some ReadFault) × IsInLine r.held × (length r.held ≤ most_line_bytes)

-- a read error was counted where it is the reason, and none elsewhere
abbrev pub counted : ReadStop → ℕ → ℕ
counted LineTooLong failed = failed
counted ReadFault failed = raised failed

-- this call met the reason to stop
pub record StopsNow (old new : ReaderState) (left left_after : Option (List ℕ)) (failed failed_after : ℕ) (stop : ReadStop) : Type 0 where
  pub kept : Keeps (unread old left) (unread new left_after)
  pub cause : HasStop new stop
  pub line : new.line ≡ []
  pub count : failed_after ≡ counted stop failed
  pub went_on : old.stop ≡ None
  pub not_ended : old.ended ≡ false

-- an earlier call has stopped, and nothing was touched
pub record StopsAgain (old new : ReaderState) (left left_after : Option (List ℕ)) (failed failed_after : ℕ) (stop : ReadStop) : Type 0 where
  pub kept : Keeps left left_after
  pub same : new ≡ old
  pub count : failed_after ≡ failed
  pub stopped : old.stop ≡ Some stop

-- what one call did: it gave a line, met the end, or stopped
abbrev pub Advances : ReaderState → ReaderState → Option (List ℕ) → Option (List ℕ) → ℕ → ℕ → Result Bool ReadStop → Type 0
Advances old new left left_after failed failed_after (Ok true) = GivesLine old new left left_after failed failed_after
Advances old new left left_after failed failed_after (Ok false) =
    GivesEnd old new left left_after failed failed_after ⊎ EndsAgain old new left left_after failed failed_after
Advances old new left left_after failed failed_after (Err stop) =
    StopsNow old new left left_after failed failed_after stop ⊎ StopsAgain old new left left_after failed failed_after stop

-- what one call did, with the line that it lends
abbrev pub Nexts : ReaderState → ReaderState → Option (List ℕ) → Option (List ℕ) → ℕ → ℕ → Result (Option (Bor (List ℕ))) ReadStop → Type 0
Nexts old new left left_after failed failed_after (Ok (Some line)) =
    GivesLine old new left left_after failed failed_after × (line.now ≡ new.line)
Nexts old new left left_after failed failed_after (Ok None) =
    GivesEnd old new left left_after failed failed_after ⊎ EndsAgain old new left left_after failed failed_after
Nexts old new left left_after failed failed_after (Err stop) =
    StopsNow old new left left_after failed failed_after stop ⊎ StopsAgain old new left left_after failed failed_after stop

-- one read: the bytes read, if any, stand behind those that were held back
abbrev pub Fills : {E : Type 0} → ReaderState → ReaderState → Option (List ℕ) → Option (List ℕ) → Result ℕ E → Type 0
Fills old new left left_after r =
    MatchResult r
    (λ n. (more : List ℕ) × (new ≡ record old { line = []; held = old.held ++ more }) × (length more ≡ n) × Consumes left left_after more
    × (n ≡ 0 → IsAtEnd left_after))
    (λ _. (new ≡ record old { line = [] }) × Keeps left left_after)

-- the line at the front of the bytes held back was taken off, with its line feed
pub record TakesFirstLine (old new : ReaderState) : Type 0 where
  pub cut : old.held ≡ new.line ++ line_feed ∷ new.held
  pub whole : IsInLine new.line
  pub short : length new.line ≤ most_line_bytes
  pub stop : new.stop ≡ old.stop
  pub ended : new.ended ≡ old.ended
