-- A text that is read line by line: what is known of it after some lines, and what each end of the reading says of it.
use Rattle.std.proofs.Common.{◌≡◌, ◌≢◌, ℕ, Bool, true, false, List, [], ◌∷◌, ◌++◌, length, Option, Some, None, Result, Ok, Err, ◌⊎◌}
use Rattle.std.proofs.Common.{inr, ⊎_elim, sym, ap, subst, ◌∙◌, refl, arith}
use Rattle.std.proofs.lemmas.Bool.{false≢true}
use Rattle.std.specs.Prelude.{IfOk, IfErr}
use Rattle.coll_devices.specs.LineReading.{ReaderState, no_line, Advances, GivesLine, GivesEnd, EndsAgain, StopsNow, StopsAgain}
use Rattle.coll_devices.specs.PhysicalLines.{lines_of}
use Rattle.coll_lex.specs.LogicalLines.{number_of}
use Rattle.coll_lex.specs.declared.faults.LexFault.TheVariants as lex
use Rattle.coll_devices.specs.declared.stops.ReadStop.{ReadStop}
use Rattle.coll_devices.specs.declared.stops.ReadStop.TheVariants as stop
use Rattle.coll_syntax.specs.declared.syntax_faults.SyntaxFault.TheVariants as syntax
use Rattle.coll_nodes.specs.Table.{Collation}
use Rattle.coll_nodes.specs.TableLayout.{TableValue, collation}
use Rattle.coll_texts.specs.BuilderStates.{Numbered, table_of, at_line}
use Rattle.coll_texts.specs.Loading.{LoaderState, first_loader, loaded_line, loaded}
use Rattle.coll_table.specs.Loads.{stop_fault, IsUndecided, Starves, FaultSays, Loads, counted_by, CountsFault}
use Rattle.coll_texts.specs.Reading.{Outcome, Decided, outcome_of, answer_at_end, reads}
use Rattle.coll_table.specs.SoundLoaders.{IsLineCause}
use Rattle.coll_texts.specs.declared.load_faults.LoadFault.{LoadFault}
use Rattle.coll_texts.specs.declared.load_faults.LoadCause.{LoadCause}
use Rattle.coll_texts.specs.declared.load_faults.LoadCause.TheVariants.{Lex, Syntax, ReadFault, OutOfMemory}
use Rattle.coll_table.proofs.LoadEnds.{loaded_ended, ends_here, undecided_here, long_line}
use Rattle.coll_table.proofs.LineNumbers.{next_within}
use Rattle.coll_table.proofs.LoadSteps.{outcome_from, StandsAfter, CountsOne, LeadsOn, Judged, stands_first, from_ended, judged}
use Rattle.coll_table.proofs.TextSteps.{ReadSoFar, gives_first, stops_long, none_given, cut_behind, said_ahead, said_before, read_on, said_at_end, all_counted}

-- what further lines decide, where the loader stands here
abbrev decided_from : List Numbered → LoaderState → Bool → List (List ℕ) → Outcome
decided_from before s ends more = outcome_from ends before s more

-- whatever text the device had, it was read so far
pub record OnWay (start : Option (List ℕ)) (reader : ReaderState) (left : Option (List ℕ)) (s : LoaderState) : Type 0 where
  pub before : List Numbered
  pub stands : StandsAfter before s
  pub read : (text : List ℕ) → start ≡ Some text → ReadSoFar outcome_of (decided_from before s) s.ended s.lexer.count text reader left

-- before the first line
pub sets_out : (start : Option (List ℕ)) → OnWay start no_line start first_loader
sets_out start = record {
  before = [];
  stands = stands_first;
  read = λ text e. record { lines = none_given text start e; count = λ n. refl; decides = λ ends more. refl };
}

-- the reader gave a line
pub gives_line : (old new : ReaderState) (left left_after : Option (List ℕ)) (failed failed_after : ℕ) (is_line : Bool) → is_line ≡ true
    → Advances old new left left_after failed failed_after (Ok is_line) → GivesLine old new left left_after failed failed_after
gives_line old new left left_after failed failed_after true e h = h
gives_line old new left left_after failed failed_after false e h = absurd (false≢true e)

-- the reader gave none
pub gives_none : (old new : ReaderState) (left left_after : Option (List ℕ)) (failed failed_after : ℕ) (is_line : Bool) → is_line ≡ false
    → Advances old new left left_after failed failed_after (Ok is_line) → GivesEnd old new left left_after failed failed_after ⊎ EndsAgain old new left left_after failed failed_after
gives_none old new left left_after failed failed_after true e h = absurd (false≢true (sym e))
gives_none old new left left_after failed failed_after false e h = h

-- what the lines of a text decide is its answer
reads_decided : (text : List ℕ) (answer : Result Collation LoadFault) → outcome_of true (lines_of text) ≡ Decided answer → reads text ≡ answer
unfolding reads
reads_decided text answer e = ap (answer_at_end (length (lines_of text))) e

reads_by : (text : List ℕ) (count : ℕ) (outcome : Outcome) → outcome_of true (lines_of text) ≡ outcome → length (lines_of text) ≡ count → reads text ≡ answer_at_end count outcome
unfolding reads
reads_by text count outcome e n = ap (answer_at_end (length (lines_of text))) e ∙ ap (λ c. answer_at_end c outcome) n

-- a fault of lines says of the text what is answered to it, or at which of its lines memory was refused
pub fault_says : (text : List ℕ) (left : Option (List ℕ)) (line : ℕ) (cause : LoadCause) → IsLineCause cause → (cause ≡ OutOfMemory → Starves text line)
    → (cause ≢ OutOfMemory → reads text ≡ Err (record { line = line; cause = cause })) → FaultSays cause line text left
fault_says text left line OutOfMemory own starves h = starves refl
fault_says text left line (Lex lex.OutOfMemory) own starves h = own
fault_says text left line (Syntax syntax.OutOfMemory) own starves h = own
fault_says text left line ReadFault own starves h = absurd own
fault_says text left line _ own starves h = h (λ e. cc)

module _ (start : Option (List ℕ)) (reader : ReaderState) (left : Option (List ℕ)) (s : LoaderState) (way : OnWay start reader left s) (going : s.ended ≡ false) where
  -- what is decided of the text by the lines unread
  from_here : (text : List ℕ) (e : start ≡ Some text) (lines : List (List ℕ)) → lines_of (way.read text e).lines.rest ≡ lines → outcome_of true (lines_of text) ≡ outcome_from true way.before s lines
  from_here text e lines ahead = said_ahead outcome_of (decided_from way.before s) s.ended s.lexer.count text reader left (way.read text e) lines ahead

  -- the lines so far decide nothing
  undecided : (text : List ℕ) (e : start ≡ Some text) → IsUndecided (outcome_of false (way.read text e).lines.whole)
  undecided text e =
      subst IsUndecided (sym (said_before outcome_of (decided_from way.before s) s.ended s.lexer.count text reader left (way.read text e))) (undecided_here way.before s way.stands going)

  module _ (new : ReaderState) (left_after : Option (List ℕ)) (failed failed_after : ℕ) where
    -- a line more that was taken
    pub goes_on : (after : LoaderState) → GivesLine reader new left left_after failed failed_after → loaded_line s new.line ≡ Ok after → OnWay start new left_after after
    goes_on after gives taken =
        let leads : LeadsOn way.before s new.line after = subst (Judged way.before s new.line) taken (judged way.before s new.line way.stands) in
        record {
          before = leads.next;
          stands = leads.stands;
          read = λ text e.
              read_on outcome_of (decided_from way.before s) s.ended s.lexer.count text reader left (way.read text e) new left_after failed failed_after
              (decided_from leads.next after) after.ended after.lexer.count gives going (λ n. (leads.counts n).1) leads.decides;
        }

    -- a line more to which memory was refused
    starved : (number : ℕ) → GivesLine reader new left left_after failed failed_after → number ≡ number_of s.lexer → (text : List ℕ) → start ≡ Some text → Starves text number
    starved number gives same text e =
        let at = way.read text e in
        let first = gives_first reader new left left_after failed failed_after at.lines.rest at.lines.unread gives in
        let within = next_within s.lexer way.stands.opens in
        inr (
          at.lines.whole,
          new.line,
          lines_of first.rest,
          at.lines.lines ∙ ap (λ lines. at.lines.whole ++ lines) first.first,
          undecided text e,
          (omega (arith, same, within.0), omega (arith, same, within.1, at.count going)),
        )

    -- a line more that was refused
    pub refused : (fault : LoadFault) → GivesLine reader new left left_after failed failed_after → IsLineCause fault.cause
        → (fault.cause ≡ OutOfMemory → s.fault ≡ None → fault.line ≡ number_of s.lexer) → (fault.cause ≢ OutOfMemory → loaded_line s new.line ≡ Err fault) → Loads start left_after (Err fault)
    refused fault gives own number says = λ text e.
        let at = way.read text e in
        let first = gives_first reader new left left_after failed failed_after at.lines.rest at.lines.unread gives in
        fault_says text left_after fault.line fault.cause own
        (λ lack. starved fault.line gives (number lack way.stands.faultless) text e)
        (λ memory.
        let decides : (ends : Bool) (lines : List (List ℕ)) → outcome_from ends way.before s (new.line ∷ lines) ≡ Decided (Err fault) =
        subst (Judged way.before s new.line) (says memory) (judged way.before s new.line way.stands) in
        reads_decided text (Err fault) (from_here text e (new.line ∷ lines_of first.rest) first.first ∙ decides true (lines_of first.rest)))

    -- a line more that is longer than a line may be
    stopped_long : reader.stop ≡ None → StopsNow reader new left left_after failed failed_after stop.LineTooLong ⊎ StopsAgain reader new left left_after failed failed_after stop.LineTooLong
        → Loads start left_after (Err (stop_fault (number_of s.lexer) stop.LineTooLong))
    stopped_long none stops = λ text e.
        let at = way.read text e in
        let first = stops_long reader new left left_after failed failed_after at.lines.rest at.lines.unread none stops in
        let fault = at_line (number_of s.lexer) (Lex lex.LineTooLong) in
        let decides : (ends : Bool) (lines : List (List ℕ)) → outcome_from ends way.before s (first.line ∷ lines) ≡ Decided (Err fault) =
        subst (Judged way.before s first.line) (long_line way.before s way.stands first.line first.long going) (judged way.before s first.line way.stands) in
        reads_decided text (Err fault) (from_here text e (first.line ∷ first.later) first.first ∙ decides true first.later)

    -- a read that failed
    stopped_short : reader.stop ≡ None → StopsNow reader new left left_after failed failed_after stop.ReadFault ⊎ StopsAgain reader new left left_after failed failed_after stop.ReadFault
        → Loads start left_after (Err (stop_fault (number_of s.lexer) stop.ReadFault))
    stopped_short none stops = λ text e.
        let at = way.read text e in (
          refl,
          cut_behind text reader new left left_after failed failed_after at.lines (λ whole. IsUndecided (outcome_of false whole)) (undecided text e) none stops,
        )

    -- a reader that stops
    pub stopped : (why : ReadStop) → reader.stop ≡ None → Advances reader new left left_after failed failed_after (Err why) → Loads start left_after (Err (stop_fault (number_of s.lexer) why))
    stopped stop.LineTooLong none stops = stopped_long none stops
    stopped stop.ReadFault none stops = stopped_short none stops

    -- a line more that was taken is counted, as long as the category goes on
    pub counts : (line : List ℕ) (after : LoaderState) → loaded_line s line ≡ Ok after → after.ended ≡ false → CountsOne s.lexer after.lexer
    counts line after taken on =
        let leads : LeadsOn way.before s line after = subst (Judged way.before s line) taken (judged way.before s line way.stands) in
        leads.counts on

    -- no line more
    pub all_read : GivesEnd reader new left left_after failed failed_after ⊎ EndsAgain reader new left left_after failed failed_after → (text : List ℕ) → start ≡ Some text → reads text ≡ loaded s
    all_read ends text e =
        let at = way.read text e in
        let from = decided_from way.before s in
        reads_by text s.lexer.count (outcome_from true way.before s []) (said_at_end outcome_of from s.ended s.lexer.count text reader left at new left_after failed failed_after ends)
        (all_counted outcome_of from s.ended s.lexer.count text reader left at new left_after failed failed_after ends going)
        ∙ ends_here way.before s way.stands

-- the category has ended
pub ended_reads : (start : Option (List ℕ)) (reader : ReaderState) (left : Option (List ℕ)) (s : LoaderState) → OnWay start reader left s → s.ended ≡ true → (text : List ℕ) → start ≡ Some text
    → reads text ≡ loaded s
ended_reads start reader left s way ended text e =
    let at = way.read text e in
    reads_decided text (Ok (table_of s.builder))
    (ap (outcome_of true) at.lines.lines ∙ (at.decides true (lines_of at.lines.rest) ∙ from_ended true way.before s (lines_of at.lines.rest) ended))
    ∙ sym (loaded_ended way.before s way.stands ended)

-- what a loader answers at the end is the answer to the text
pub loads : (start left_after : Option (List ℕ)) (s : LoaderState) (result : Result TableValue LoadFault) → s.fault ≡ None → ((text : List ℕ) → start ≡ Some text → reads text ≡ loaded s)
    → IfOk result (λ table. loaded s ≡ Ok (collation table)) → IfErr result (λ fault. loaded s ≡ Err fault) → IfErr result (λ fault. IsLineCause fault.cause)
    → IfErr result (λ fault. s.fault ≡ None → fault.cause ≢ OutOfMemory) → Loads start left_after result
loads start left_after s (Ok table) faultless all ok err own spared = λ text e. all text e ∙ ok
loads start left_after s (Err fault) faultless all ok err own spared = λ text e.
    fault_says text left_after fault.line fault.cause own (λ lack. absurd (spared faultless lack)) (λ memory. all text e ∙ err)

counted_lines : (cause : LoadCause) (count : ℕ) → IsLineCause cause → counted_by cause count ≡ count
counted_lines ReadFault count own = absurd own
counted_lines _ count own = refl

-- a fault of lines is no read error
pub counts_none : (old new : ℕ) (result : Result TableValue LoadFault) → new ≡ old → IfErr result (λ fault. IsLineCause fault.cause) → CountsFault old new result
counts_none old new (Ok table) e own = e
counts_none old new (Err fault) e own = e ∙ sym (counted_lines fault.cause old own)

-- where the reader gives no line it counts no error
pub counts_end : (old new : ReaderState) (left left_after : Option (List ℕ)) (failed failed_after : ℕ) → GivesEnd old new left left_after failed failed_after
    ⊎ EndsAgain old new left left_after failed failed_after → failed_after ≡ failed
counts_end old new left left_after failed failed_after h = ⊎_elim (λ now. now.count) (λ again. again.count) h

-- where it stops, it counts a read error
pub counts_stop : (old new : ReaderState) (left left_after : Option (List ℕ)) (failed failed_after number : ℕ) (why : ReadStop) → old.stop ≡ None
    → Advances old new left left_after failed failed_after (Err why) → failed_after ≡ counted_by (stop_fault number why).cause failed
counts_stop old new left left_after failed failed_after number stop.LineTooLong none h = ⊎_elim (λ now. now.count) (λ again. again.count) h
counts_stop old new left left_after failed failed_after number stop.ReadFault none h = ⊎_elim (λ now. now.count) (λ again. let both : None ≡ Some stop.ReadFault = sym none ∙ again.stopped in cc) h
