-- What a reader's answer to one call says of the lines of the text that is unread, and which lines it has given so far.
use Rattle.std.proofs.Common.{◌≡◌, ℕ, ◌<◌, ◌≤◌, Bool, true, false, List, [], ◌∷◌, ◌++◌, length, Option, Some, None, ◌⊎◌, ⊎_elim, sym, ap, subst, ◌∙◌, refl, arith, append_assoc, append-nil}
use Rattle.std.proofs.Common.{length-append}
use Rattle.std.specs.Prelude.{◌+◌}
use Rattle.std.proofs.lemmas.Grind.{flat_map-append}
use Rattle.std.proofs.lemmas.Bool.{false≢true}
use Rattle.std.specs.Io.KnownBytes.{prepend_known, Keeps, IsAtEnd}
use Rattle.coll_devices.specs.LineReading.{ReaderState, no_line, unread, Cuts, CutsLine, GivesLine, GivesEnd, EndsAgain, StopsNow, StopsAgain}
use Rattle.coll_devices.specs.PhysicalLines.{line_feed, lines_of, IsInLine, with_feeds}
use Rattle.coll_devices.specs.Limits.{most_line_bytes}
use Rattle.coll_devices.specs.declared.stops.ReadStop.{ReadStop}
use Rattle.coll_devices.specs.declared.stops.ReadStop.TheVariants as stop
use Rattle.coll_table.specs.Loads.{IsCutBehind}
use Rattle.coll_devices.proofs.PhysicalLinesLemmas.{lines_of-nil, lines_of-cut, lines_of-long}

-- this text is still to be given; where the end of the input was met there is none
abbrev pub IsUnread : ReaderState → Option (List ℕ) → List ℕ → Type 0
IsUnread reader left text = (unread reader left ≡ Some text) × (reader.ended ≡ true → text ≡ [])

-- the reader gave the first of the lines unread; if it hasn't met the end by it, that line ended in a line feed
pub record GivesFirst (old new : ReaderState) (left_after : Option (List ℕ)) (text : List ℕ) : Type 0 where
  pub rest : List ℕ
  pub unread : IsUnread new left_after rest
  pub first : lines_of text ≡ new.line ∷ lines_of rest
  pub fed : new.ended ≡ false → text ≡ with_feeds (new.line ∷ []) ++ rest
  pub went_on : old.ended ≡ false

-- the first of the lines unread is longer than a line may be
pub record IsFirstLong (text : List ℕ) : Type 0 where
  pub line : List ℕ
  pub later : List (List ℕ)
  pub first : lines_of text ≡ line ∷ later
  pub long : most_line_bytes < length line

-- a read failed behind a part of the first line unread, before the end was met
pub record IsCutShort (old : ReaderState) (left_after : Option (List ℕ)) (text : List ℕ) : Type 0 where
  pub part : List ℕ
  pub rest : List ℕ
  pub left : left_after ≡ Some rest
  pub all : text ≡ part ++ rest
  pub whole : IsInLine part
  pub short : length part ≤ most_line_bytes
  pub went_on : old.ended ≡ false

-- bytes that are known lose a line, and the rest is known
known_cut : (ended : Bool) (new : Option (List ℕ)) (text line : List ℕ) → Cuts ended (Some text) new line → (rest : List ℕ) × (new ≡ Some rest) × CutsLine ended text line rest
known_cut ended None text line cut = absurd cut
known_cut ended (Some rest) text line cut = (rest, refl, cut)

-- bytes that are known stay known
known_kept : (new : Option (List ℕ)) (text : List ℕ) → Keeps (Some text) new → new ≡ Some text
known_kept None text kept = absurd kept
known_kept (Some rest) text kept = ap Some kept

-- where bytes behind others are known, those are
known_behind : (left : Option (List ℕ)) (held text : List ℕ) → prepend_known held left ≡ Some text → (rest : List ℕ) × (left ≡ Some rest) × (text ≡ held ++ rest)
known_behind None held text e = cc
known_behind (Some rest) held text e = (rest, refl, cc)

-- before the end is met, a line that is cut off ends in a line feed
ended_by_feed : (ended : Bool) (text line rest : List ℕ) → CutsLine ended text line rest → ended ≡ false → text ≡ with_feeds (line ∷ []) ++ rest
ended_by_feed true text line rest cut n = absurd (false≢true (sym n))
ended_by_feed false text line rest cut n =
    cut ∙ (sym (append_assoc line (line_feed ∷ []) rest) ∙ ap (λ l. l ++ rest) (sym (append-nil (line ++ line_feed ∷ []))))

-- behind the line at the end there is nothing
last_at_end : (ended : Bool) (text line rest : List ℕ) → CutsLine ended text line rest → ended ≡ true → rest ≡ []
last_at_end true text line rest cut n = cut.2
last_at_end false text line rest cut n = absurd (false≢true n)

module _ (old new : ReaderState) (left left_after : Option (List ℕ)) (failed failed_after : ℕ) (text : List ℕ) (unread_before : IsUnread old left text) where
  -- a line that was given is the first one unread
  pub gives_first : GivesLine old new left left_after failed failed_after → GivesFirst old new left_after text
  gives_first h =
      let cut = known_cut new.ended (unread new left_after) text new.line (subst (λ o. Cuts new.ended o (unread new left_after) new.line) unread_before.0 h.cut) in
      record {
        rest = cut.0;
        unread = (cut.1, last_at_end new.ended text new.line cut.0 cut.2);
        first = lines_of-cut new.ended text new.line cut.0 cut.2 h.whole;
        fed = λ n. ended_by_feed new.ended text new.line cut.0 cut.2 n;
        went_on = h.not_ended;
      }

  -- where the end is met now there is no line unread
  ends_now : GivesEnd old new left left_after failed failed_after → lines_of text ≡ []
  ends_now h =
      let kept = known_kept (unread new left_after) text (subst (λ o. Keeps o (unread new left_after)) unread_before.0 h.kept) in
      let none : text ≡ [] = subst IsAtEnd kept h.end in
      ap lines_of none ∙ lines_of-nil

  -- at the end there is no line unread
  pub was_last : GivesEnd old new left left_after failed failed_after ⊎ EndsAgain old new left left_after failed failed_after → lines_of text ≡ []
  was_last h = ⊎_elim (λ now. ends_now now) (λ again. ap lines_of (unread_before.1 again.ended) ∙ lines_of-nil) h

  -- a reader that hasn't stopped stops now
  stops_now : (s : ReadStop) → old.stop ≡ None → StopsNow old new left left_after failed failed_after s ⊎ StopsAgain old new left left_after failed failed_after s
      → StopsNow old new left left_after failed failed_after s
  stops_now s none h = ⊎_elim (λ now. now) (λ again. let both : None ≡ Some s = sym none ∙ again.stopped in cc) h

  -- the bytes that were unread are those held and those left
  stopped_at : (s : ReadStop) → StopsNow old new left left_after failed failed_after s → (rest : List ℕ) × (left_after ≡ Some rest) × (text ≡ new.held ++ rest)
  stopped_at s h =
      known_behind left_after new.held text (known_kept (unread new left_after) text (subst (λ o. Keeps o (unread new left_after)) unread_before.0 h.kept))

  -- at a line that is too long, the first one unread is
  pub stops_long : old.stop ≡ None → StopsNow old new left left_after failed failed_after stop.LineTooLong ⊎ StopsAgain old new left left_after failed failed_after stop.LineTooLong → IsFirstLong text
  stops_long none either =
      let h = stops_now stop.LineTooLong none either in
      let at = stopped_at stop.LineTooLong h in
      let long = lines_of-long new.held at.0 h.cause.1 in
      record { line = long.0; later = long.1; first = ap lines_of at.2 ∙ long.2; long = long.3 }

  -- at a read that fails, a part of the first one unread was read
  pub stops_short : old.stop ≡ None → StopsNow old new left left_after failed failed_after stop.ReadFault ⊎ StopsAgain old new left left_after failed failed_after stop.ReadFault
      → IsCutShort old left_after text
  stops_short none either =
      let h = stops_now stop.ReadFault none either in
      let at = stopped_at stop.ReadFault h in
      record { part = new.held; rest = at.0; left = at.1; all = at.2; whole = h.cause.1; short = h.cause.2; went_on = h.not_ended }

-- of a text these lines were given, and the rest is unread
pub record LinesGiven (text : List ℕ) (reader : ReaderState) (left : Option (List ℕ)) : Type 0 where
  pub whole : List (List ℕ)
  pub rest : List ℕ
  pub unread : IsUnread reader left rest
  pub lines : lines_of text ≡ whole ++ lines_of rest
  pub fed : reader.ended ≡ false → text ≡ with_feeds whole ++ rest

-- before the first line
abbrev pub none_given : (text : List ℕ) (start : Option (List ℕ)) → start ≡ Some text → LinesGiven text no_line start
none_given text start e = record {
  whole = [];
  rest = text;
  unread = (ap (prepend_known []) e, λ n. absurd (false≢true n));
  lines = refl;
  fed = λ n. refl;
}

-- lines with their line feeds, and one more
pub one_fed : (text : List ℕ) (whole : List (List ℕ)) (rest line later : List ℕ) → text ≡ with_feeds whole ++ rest → rest ≡ with_feeds (line ∷ []) ++ later
    → text ≡ with_feeds (whole ++ line ∷ []) ++ later
one_fed text whole rest line later h k =
    h ∙ (ap (λ l. with_feeds whole ++ l) k
    ∙ (sym (append_assoc (with_feeds whole) (with_feeds (line ∷ [])) later)
    ∙ ap (λ l. l ++ later) (sym (flat_map-append (λ line. line ++ line_feed ∷ []) whole (line ∷ [])))))

module _ (text : List ℕ) (old new : ReaderState) (left left_after : Option (List ℕ)) (failed failed_after : ℕ) (given : LinesGiven text old left) where
  -- one more
  abbrev pub one_given : GivesLine old new left left_after failed failed_after → LinesGiven text new left_after
  one_given gives =
      let first = gives_first old new left left_after failed failed_after given.rest given.unread gives in
      record {
        whole = given.whole ++ new.line ∷ [];
        rest = first.rest;
        unread = first.unread;
        lines = given.lines ∙ (ap (λ lines. given.whole ++ lines) first.first ∙ sym (append_assoc given.whole (new.line ∷ []) (lines_of first.rest)));
        fed = λ n. one_fed text given.whole given.rest new.line first.rest (given.fed first.went_on) (first.fed n);
      }

  -- all
  pub all_given : GivesEnd old new left left_after failed failed_after ⊎ EndsAgain old new left left_after failed failed_after → lines_of text ≡ given.whole
  all_given ends =
      given.lines ∙ (ap (λ lines. given.whole ++ lines) (was_last old new left left_after failed failed_after given.rest given.unread ends) ∙ append-nil given.whole)

  -- a read that failed behind these lines, of which this holds
  pub cut_behind : (Holds : List (List ℕ) → Type 0) → Holds given.whole → old.stop ≡ None
      → StopsNow old new left left_after failed failed_after stop.ReadFault ⊎ StopsAgain old new left left_after failed failed_after stop.ReadFault → IsCutBehind Holds text left_after
  cut_behind Holds holds none stops =
      let cut = stops_short old new left left_after failed failed_after given.rest given.unread none stops in (
        given.whole,
        cut.part,
        cut.rest,
        cut.left,
        given.fed cut.went_on ∙ ap (λ rest. with_feeds given.whole ++ rest) cut.all,
        given.lines ∙ ap (λ rest. given.whole ++ lines_of rest) cut.all,
        cut.whole,
        cut.short,
        holds,
      )

-- What the lines of a text say, where this is what lines say, by whether the text ends with them.
module _ {O : Type 0} (says : Bool → List (List ℕ) → O) where
  -- of the text these lines were taken, and the rest is unread; with further lines they say what is said of these from here on.
  -- They are counted until what they are read for has ended
  pub record ReadSoFar (from : Bool → List (List ℕ) → O) (ended : Bool) (counted : ℕ) (text : List ℕ) (reader : ReaderState) (left : Option (List ℕ)) : Type 0 where
    pub lines : LinesGiven text reader left
    pub count : ended ≡ false → counted ≡ length lines.whole
    pub decides : (ends : Bool) (more : List (List ℕ)) → says ends (lines.whole ++ more) ≡ from ends more

  module _ (from : Bool → List (List ℕ) → O) (ended : Bool) (counted : ℕ) (text : List ℕ) (reader : ReaderState) (left : Option (List ℕ)) (at : ReadSoFar from ended counted text reader left) where
    -- what the text says is what is said of the lines unread
    pub said_ahead : (lines : List (List ℕ)) → lines_of at.lines.rest ≡ lines → says true (lines_of text) ≡ from true lines
    said_ahead lines ahead = ap (says true) (at.lines.lines ∙ ap (λ l. at.lines.whole ++ l) ahead) ∙ at.decides true lines

    -- what the lines taken say, where the end isn't seen
    pub said_before : says false at.lines.whole ≡ from false []
    said_before = ap (says false) (sym (append-nil at.lines.whole)) ∙ at.decides false []

    module _ (new : ReaderState) (left_after : Option (List ℕ)) (failed failed_after : ℕ) where
      -- one line more
      abbrev pub read_on : (later : Bool → List (List ℕ) → O) (ended_later : Bool) (counted_later : ℕ) → GivesLine reader new left left_after failed failed_after → ended ≡ false
          → (ended_later ≡ false → counted_later ≡ counted + 1) → ((ends : Bool) (more : List (List ℕ)) → from ends (new.line ∷ more) ≡ later ends more)
          → ReadSoFar later ended_later counted_later text new left_after
      read_on later ended_later counted_later gives going one leads = record {
        lines = one_given text reader new left left_after failed failed_after at.lines gives;
        count = λ n. omega (arith, one n, at.count going, length-append at.lines.whole (new.line ∷ []));
        decides = λ ends more. ap (says ends) (append_assoc at.lines.whole (new.line ∷ []) more) ∙ (at.decides ends (new.line ∷ more) ∙ leads ends more);
      }

      -- no line more: the text says what is said from here of none, and its lines are counted
      pub said_at_end : GivesEnd reader new left left_after failed failed_after ⊎ EndsAgain reader new left left_after failed failed_after → says true (lines_of text) ≡ from true []
      said_at_end ends = said_ahead [] (was_last reader new left left_after failed failed_after at.lines.rest at.lines.unread ends)

      pub all_counted : GivesEnd reader new left left_after failed failed_after ⊎ EndsAgain reader new left left_after failed failed_after → ended ≡ false → length (lines_of text) ≡ counted
      all_counted ends going = ap length (all_given text reader new left left_after failed failed_after at.lines ends) ∙ sym (at.count going)
