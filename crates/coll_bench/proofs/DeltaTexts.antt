-- A delta file that is read line by line: what is known of it after some lines, and what each end of the reading says of it.
use Rattle.std.proofs.Common.{◌≡◌, ℕ, Bool, true, false, List, [], ◌∷◌, ◌++◌, length, Option, Some, None, Result, Ok, Err, ◌⊎◌}
use Rattle.std.proofs.Common.{⊎_elim, inl, inr, sym, ap, subst, ◌∙◌, refl, arith, append_assoc, append-nil}
use Rattle.std.specs.Prelude.{◌+◌, option_map, IfErr, OnOk}
use Rattle.coll_devices.specs.LineReading.{ReaderState, no_line, Advances, GivesLine, GivesEnd, EndsAgain, StopsNow, StopsAgain}
use Rattle.coll_lex.specs.EarlyEnds.{ends_at}
use Rattle.coll_lex.specs.LogicalLines.{OpenLine, number_of}
use Rattle.coll_devices.specs.PhysicalLines.{lines_of}
use Rattle.coll_devices.specs.declared.stops.ReadStop.{ReadStop}
use Rattle.coll_devices.specs.declared.stops.ReadStop.TheVariants as stop
use Rattle.coll_nodes.specs.Table.{Collation}
use Rattle.coll_table.proofs.TextSteps.{ReadSoFar, gives_first, stops_long, none_given, cut_behind, said_ahead, said_before, read_on, said_at_end, all_counted}
use Rattle.coll_requests.specs.DeltaFaults.{early_fault}
use Rattle.coll_requests.specs.DeltaFiles.{DeltaOutcome, after_statements, delta_outcome, ends_so, Ended as CategoryEnded}
use Rattle.coll_requests.specs.DeltaReading.{DeltaState, Step, first_delta, delta_line, early_end, delta_end}
use Rattle.coll_requests.specs.Requests.{BlockLines}
use Rattle.coll_requests.specs.declared.delta_faults.DeltaFault.{DeltaFault}
use Rattle.coll_requests.specs.declared.delta_files.StatementAt.{StatementAt}
use Rattle.coll_requests.proofs.DeltaSteps.{outcome_from, StandsAfter, CountsOne, stands_first, from_ended}
use Rattle.coll_bench.specs.BatchOutcome.{Decision, Decided, delta_fault_in, unless_faulty, rewritten, decision, answer_at_end, after_delta, statements_of}
use Rattle.coll_bench.specs.BatchReading.{Taken, DeltaFails, ReadsDelta, FailsAs, IsNumberOf, IsFaultNumber, LeadsOver, unless_stored, by_step, stopped_in, line_taken}
use Rattle.coll_bench.specs.BatchRuns.{Ending, ReadFailed, WriteFailed, Starved, Refused, ending_of, DecidesNothing, IsLineOfStatement, DeltaStarvesWithin}
use Rattle.coll_table.specs.Loads.{IsLineWithin}
use Rattle.coll_faults.specs.declared.faults.RunFault.{RunFault}
use Rattle.coll_bench.proofs.DeltaDecisions.{Leads, LineDecides, line_decides, long_line, ends_here, reader_ends, undecided_here, given_here, line_states}
use Rattle.coll_table.proofs.LineNumbers.{IsOpenWithin, next_within, none_open}
use Rattle.coll_bench.proofs.DeltaNumbers.{opens_after}

-- where a line leads
abbrev state_of : DeltaState → Taken → DeltaState
state_of s (Ok taken) = taken.1
state_of s (Err f) = s

-- the statements that a line gives
abbrev given_of : Step → List StatementAt
given_of (Ok taken) = taken.0
given_of (Err f) = []

-- statements, further ones, and then what later lines say
pub statements_append : (given more : List StatementAt) (later : DeltaOutcome) → after_statements given (after_statements more later) ≡ after_statements (given ++ more) later
statements_append given more later = ap (λ (all : List StatementAt). record { statements = all; ending = later.ending }) (sym (append_assoc given more later.statements))

-- a line that was taken is one that the file's reader took
line_step : (input : ℕ) (table : Collation) (s : DeltaState) (line : List ℕ) (changed : Collation) (after : DeltaState) → line_taken input table s line ≡ Ok (changed, after)
    → (given : List StatementAt) × (delta_line s line ≡ Ok (given, after))
unfolding line_taken
line_step input table s line changed after e = by_answer (delta_line s line) refl e
  where
    by_stored : (given : List StatementAt) (reached : DeltaState) (t : Collation) (stored : Option DeltaFault) → unless_stored input stored (t, reached) ≡ Ok (changed, after) → reached ≡ after
    by_stored given reached t None e = ap (state_of reached) e
    by_stored given reached t (Some f) e = absurd cc

    by_table : (given : List StatementAt) (reached : DeltaState) (r : Result Collation RunFault) → unless_faulty r (λ t. unless_stored input reached.fault (t, reached)) ≡ Ok (changed, after)
        → reached ≡ after
    by_table given reached (Ok t) e = by_stored given reached t reached.fault e
    by_table given reached (Err f) e = absurd cc

    by_answer : (r : Step) → delta_line s line ≡ r → by_step input table r ≡ Ok (changed, after) → (given : List StatementAt) × (delta_line s line ≡ Ok (given, after))
    by_answer (Ok (given, reached)) is e = (given, is ∙ ap (λ (t : DeltaState). Ok (given, t)) (by_table given reached (rewritten input table given) e))
    by_answer (Err f) is e = absurd cc

module _ (input : ℕ) (first : Collation) where
  -- what lines of the file decide, by whether it ends with them
  abbrev decided : Bool → List (List ℕ) → Decision
  decided ends lines = decision input first (delta_outcome ends lines)

  -- what further lines decide, where the table and the state of the file's reader are these
  abbrev decided_from : Option BlockLines → Collation → DeltaState → Bool → List (List ℕ) → Decision
  decided_from block table s ends more = decision input table (outcome_from ends block s more)

  -- of the text lines were taken, which decide and say what is decided and said from here on
  pub record TakenSoFar (text : List ℕ) (reader : ReaderState) (left : Option (List ℕ)) (block : Option BlockLines) (table : Collation) (s : DeltaState) : Type 0 where
    pub read : ReadSoFar decided (decided_from block table s) s.ended s.lexer.count text reader left
    pub given : List StatementAt
    pub says : (ends : Bool) (more : List (List ℕ)) → delta_outcome ends (read.lines.whole ++ more) ≡ after_statements given (outcome_from ends block s more)

  -- whatever text the device had, it was read so far
  pub record OnWay (start : Option (List ℕ)) (reader : ReaderState) (left : Option (List ℕ)) (table : Collation) (s : DeltaState) : Type 0 where
    pub block : Option BlockLines
    pub stands : StandsAfter block s
    pub opens : IsOpenWithin s.lexer
    pub taken : (text : List ℕ) → start ≡ Some text → TakenSoFar text reader left block table s

  -- before the first line
  abbrev pub sets_out : (start : Option (List ℕ)) → OnWay start no_line start first first_delta
  sets_out start = record {
    block = None;
    stands = stands_first;
    opens = none_open first_delta.lexer refl;
    taken = λ text e. record {
      read = record { lines = none_given text start e; count = λ n. refl; decides = λ ends more. refl };
      given = [];
      says = λ ends more. refl;
    };
  }

  -- what the lines of a text decide is the answer to it
  answered_by : (text : List ℕ) (d : Decision) (count : ℕ) → decision input first (delta_outcome true (lines_of text)) ≡ d → length (lines_of text) ≡ count
      → after_delta input first text ≡ answer_at_end input count d
  unfolding after_delta
  answered_by text d count e n = ap (answer_at_end input (length (lines_of text))) e ∙ ap (λ c. answer_at_end input c d) n

  module _ (start : Option (List ℕ)) (reader : ReaderState) (left : Option (List ℕ)) (table : Collation) (s : DeltaState) (way : OnWay start reader left table s) where
    -- what is decided of the text by the lines unread
    from_here : (text : List ℕ) (e : start ≡ Some text) (lines : List (List ℕ)) → lines_of (way.taken text e).read.lines.rest ≡ lines → decision input first (delta_outcome true (lines_of text))
        ≡ decision input table (outcome_from true way.block s lines)
    from_here text e lines ahead = said_ahead decided (decided_from way.block table s) s.ended s.lexer.count text reader left (way.taken text e).read lines ahead

    -- a text of which a line decides is answered so
    decided_so : (text : List ℕ) (e : start ≡ Some text) (line : List ℕ) (later : List (List ℕ)) (ended : RunFault) → lines_of (way.taken text e).read.lines.rest ≡ line ∷ later
        → line_taken input table s line ≡ Err ended → after_delta input first text ≡ Err ended
    decided_so text e line later ended ahead taken =
        let decides : LineDecides input way.block table s line (Err ended) = subst (LineDecides input way.block table s line) taken (line_decides input way.block table s line way.stands) in
        answered_by text (Decided (Err ended)) (length (lines_of text)) (from_here text e (line ∷ later) ahead ∙ decides true later) refl

    -- where the category has ended, the table is the answer
    pub given_whole : s.ended ≡ true → (text : List ℕ) → start ≡ Some text → after_delta input first text ≡ Ok table
    given_whole ended text e =
        let at = (way.taken text e).read in
        answered_by text (Decided (Ok table)) (length (lines_of text))
        (from_here text e (lines_of at.lines.rest) refl ∙ given_here input way.block table s way.stands true (lines_of at.lines.rest) ended) refl

    module _ (going : s.ended ≡ false) (new : ReaderState) (left_after : Option (List ℕ)) (failed failed_after : ℕ) where
      -- a line more that was taken
      module _ (changed : Collation) (after : DeltaState) (taken : line_taken input table s new.line ≡ Ok (changed, after)) where
        pub opens_on : IsOpenWithin after.lexer
        opens_on = let step = line_step input table s new.line changed after taken in opens_after s new.line way.stands.faultless step.0 after going way.stands.few step.1 way.opens

        pub leads : Leads input way.block table changed s new.line after
        leads = subst (LineDecides input way.block table s new.line) taken (line_decides input way.block table s new.line way.stands)

        abbrev pub goes_on : GivesLine reader new left left_after failed failed_after → OnWay start new left_after changed after
        goes_on gives = record {
          block = leads.next;
          stands = leads.stands;
          opens = opens_on;
          taken = λ text e.
              let at = way.taken text e in
              let whole = at.read.lines.whole in
              record {
                read =
                    read_on decided (decided_from way.block table s) s.ended s.lexer.count text reader left at.read new left_after failed failed_after
                    (decided_from leads.next changed after) after.ended after.lexer.count gives going (λ n. (leads.counts n).1) leads.decides;
                given = at.given ++ leads.given;
                says = λ ends more.
                    ap (λ ls. delta_outcome ends ls) (append_assoc whole (new.line ∷ []) more) ∙ (at.says ends (new.line ∷ more)
                    ∙ (ap (after_statements at.given) (leads.says ends more) ∙ statements_append at.given leads.given (outcome_from ends leads.next after more)));
              };
        }

        -- which is counted, as long as the category goes on
        pub counts : after.ended ≡ false → CountsOne s.lexer after.lexer
        counts on = leads.counts on

      -- the lines so far decide nothing
      undecided : (text : List ℕ) (e : start ≡ Some text) → DecidesNothing (decision input first (delta_outcome false (way.taken text e).read.lines.whole))
      undecided text e =
          subst DecidesNothing (sym (said_before decided (decided_from way.block table s) s.ended s.lexer.count text reader left (way.taken text e).read))
          (undecided_here input way.block table s way.stands going)

      -- a line more to which memory was refused
      starved : (number : ℕ) → GivesLine reader new left left_after failed failed_after → IsFaultNumber s new.line number → (text : List ℕ) → start ≡ Some text
          → DeltaStarvesWithin input first text number
      starved number gives is text e =
          let first_line = gives_first reader new left left_after failed failed_after at.read.lines.rest at.read.lines.unread gives in
          (at.read.lines.whole, new.line, lines_of first_line.rest, at.read.lines.lines ∙ ap (λ lines. at.read.lines.whole ++ lines) first_line.first, undecided text e, ⊎_elim of_line of_statement is)
        where
          at : TakenSoFar text reader left way.block table s
          at = way.taken text e

          of_line : number ≡ number_of s.lexer → IsLineWithin number (length at.read.lines.whole + 1) ⊎ IsLineOfStatement (at.read.lines.whole ++ new.line ∷ []) number
          of_line same = let within = next_within s.lexer way.opens in inl (omega (arith, same, within.0), omega (arith, same, within.1, at.read.count going))

          by_given : (given : List StatementAt) (after : DeltaState) → delta_line s new.line ≡ Ok (given, after) → IsNumberOf given number → IsLineOfStatement
              (at.read.lines.whole ++ new.line ∷ []) number
          by_given [] after step here = absurd here
          by_given (it ∷ more) after step here =
              let stated = line_states input way.block s new.line (it ∷ more) after way.stands step in
              (at.given, it, more ++ stated.0.statements, ap (λ (said : DeltaOutcome). said.statements) (at.says false (new.line ∷ []) ∙ ap (after_statements at.given) stated.1), here)

          of_statement : (given : List StatementAt) × (after : DeltaState) × (delta_line s new.line ≡ Ok (given, after)) × IsNumberOf given number → IsLineWithin number
              (length at.read.lines.whole + 1)
              ⊎ IsLineOfStatement (at.read.lines.whole ++ new.line ∷ []) number
          of_statement h = inr (by_given h.0 h.1 h.2 h.3)

      -- a line more that was refused
      refused_by : (kind : Ending) (ended : RunFault) → GivesLine reader new left left_after failed failed_after → FailsAs kind (line_taken input table s new.line) ended
          → IsFaultNumber s new.line ended.line → (text : List ℕ) → start ≡ Some text → DeltaFails kind input first text left_after ended
      refused_by ReadFailed ended gives h number text e = absurd h
      refused_by WriteFailed ended gives h number text e = h
      refused_by Starved ended gives h number text e = inr (starved ended.line gives number text e)
      refused_by Refused ended gives h number text e =
          let at = (way.taken text e).read in
          let first_line = gives_first reader new left left_after failed failed_after at.lines.rest at.lines.unread gives in
          decided_so text e new.line (lines_of first_line.rest) ended first_line.first h

      pub refused : (ended : RunFault) → GivesLine reader new left left_after failed failed_after → FailsAs (ending_of ended) (line_taken input table s new.line) ended
          → (s.fault ≡ None → IsFaultNumber s new.line ended.line) → ReadsDelta input first table start left_after (Err ended)
      refused ended gives h number = refused_by (ending_of ended) ended gives h (number way.stands.faultless)

      -- a line more that is longer than a line may be
      stopped_long : reader.stop ≡ None → StopsNow reader new left left_after failed failed_after stop.LineTooLong ⊎ StopsAgain reader new left left_after failed failed_after stop.LineTooLong
          → (text : List ℕ) → start ≡ Some text
          → after_delta input first text ≡ Err (stopped_in input (number_of s.lexer) stop.LineTooLong)
      stopped_long none stops text e =
          let at = (way.taken text e).read in
          let long = stops_long reader new left left_after failed failed_after at.lines.rest at.lines.unread none stops in
          decided_so text e long.line long.later (stopped_in input (number_of s.lexer) stop.LineTooLong) long.first (long_line input way.block table s way.stands long.line long.long going)

      -- a read that failed
      stopped_short : reader.stop ≡ None → StopsNow reader new left left_after failed failed_after stop.ReadFault ⊎ StopsAgain reader new left left_after failed failed_after stop.ReadFault
          → (text : List ℕ) → start ≡ Some text
          → DeltaFails ReadFailed input first text left_after (stopped_in input (number_of s.lexer) stop.ReadFault)
      stopped_short none stops text e = (
        refl,
        cut_behind text reader new left left_after failed failed_after (way.taken text e).read.lines (λ whole. DecidesNothing (decided false whole)) (undecided text e) none stops,
      )

      -- a reader that stops
      pub stopped : (why : ReadStop) → reader.stop ≡ None → Advances reader new left left_after failed failed_after (Err why)
          → ReadsDelta input first table start left_after (Err (stopped_in input (number_of s.lexer) why))
      stopped stop.LineTooLong none stops = stopped_long none stops
      stopped stop.ReadFault none stops = stopped_short none stops

      -- no line more
      all_read : GivesEnd reader new left left_after failed failed_after ⊎ EndsAgain reader new left left_after failed failed_after → (text : List ℕ) → start ≡ Some text
          → after_delta input first text ≡ Err (delta_fault_in input (early_end s s.lexer.line))
      all_read ends text e =
          let at = (way.taken text e).read in
          let from = decided_from way.block table s in
          answered_by text (decision input table (outcome_from true way.block s [])) s.lexer.count
          (said_at_end decided from s.ended s.lexer.count text reader left at new left_after failed failed_after ends)
          (all_counted decided from s.ended s.lexer.count text reader left at new left_after failed failed_after ends going)
          ∙ ends_here input way.block table s way.stands going

      -- a file that ends before its category does: what its reader answers is the answer to the text
      ends_early : GivesEnd reader new left left_after failed failed_after ⊎ EndsAgain reader new left left_after failed failed_after → (ended : RunFault)
          → option_map (delta_fault_in input) (delta_end s) ≡ Some ended → ReadsDelta input first table start left_after (Err ended)
      ends_early ends ended h =
          let f = early_end s s.lexer.line in
          let both : Some (delta_fault_in input f) ≡ Some ended = sym (ap (option_map (delta_fault_in input)) (reader_ends input way.block table s way.stands going)) ∙ h in
          let same : delta_fault_in input f ≡ ended = cc in
          λ text e. subst (λ (ended : RunFault). DeltaFails (ending_of ended) input first text left_after ended) same
          (subst (λ (kind : Ending). DeltaFails kind input first text left_after (delta_fault_in input f)) (sym (early_kind s.lexer.line)) (all_read ends text e))
        where
          by_begun : (begun : Bool) → ending_of (delta_fault_in input (early_fault (ends_at begun s.lexer.count None))) ≡ Refused
          by_begun true = refl
          by_begun false = refl

          -- a file that ends too early is no lack of memory
          early_kind : (left : Option OpenLine) → ending_of (delta_fault_in input (early_end s left)) ≡ Refused
          early_kind (Some o) = refl
          early_kind None = by_begun s.begun

      -- and it can't end well
      ends_ill : delta_end s ≡ None → ⊥
      ends_ill none = let both : Some (early_end s s.lexer.line) ≡ None = sym (reader_ends input way.block table s way.stands going) ∙ none in cc

      -- so nothing has to be said of one that does
      pub ends_nothing : (P : Type 0) (r : Result (Unit {0}) RunFault) → OnOk r (delta_end s ≡ None) → OnOk r P
      ends_nothing P (Ok done) ok = absurd (ends_ill ok)
      ends_nothing P (Err ended) ok = tt

      -- a file that ends here
      pub ends_file : GivesEnd reader new left left_after failed failed_after ⊎ EndsAgain reader new left left_after failed failed_after → (r : Result (Unit {0}) RunFault)
          → OnOk r (delta_end s ≡ None) → IfErr r (λ ended. option_map (delta_fault_in input) (delta_end s) ≡ Some ended)
          → ReadsDelta input first table start left_after r
      ends_file ends (Ok done) ok err = absurd (ends_ill ok)
      ends_file ends (Err ended) ok err = ends_early ends ended err

  -- What takes the statements.

  module _ {S : Type 0} (reaches : S → List StatementAt → S → Type 0) (begun : S) where
    -- it was reached by the statements of the lines read so far
    pub record Reached (now : S) (start : Option (List ℕ)) (reader : ReaderState) (left : Option (List ℕ)) (table : Collation) (s : DeltaState) : Type 0 where
      pub way : OnWay start reader left table s
      pub by_given : (text : List ℕ) (e : start ≡ Some text) → reaches begun (way.taken text e).given now

    -- before the first line
    pub begins : (start : Option (List ℕ)) → reaches begun [] begun → Reached begun start no_line start first first_delta
    begins start stays = record { way = sets_out start; by_given = λ text e. stays }

    module _ (now : S) (start : Option (List ℕ)) (reader : ReaderState) (left : Option (List ℕ)) (table : Collation) (s : DeltaState) (reached : Reached now start reader left table s) where
      -- one line more
      pub leads_on : (going : s.ended ≡ false) (new : ReaderState) (left_after : Option (List ℕ)) (failed failed_after : ℕ) (changed : Collation) (after : DeltaState)
          → line_taken input table s new.line ≡ Ok (changed, after) → GivesLine reader new left left_after failed failed_after → (later : S)
          → LeadsOver reaches now later s new.line after → Reached later start new left_after changed after
      leads_on going new left_after failed failed_after changed after taken gives later over =
          let line = leads start reader left table s reached.way going new left_after failed failed_after changed after taken in
          let both : Ok (over.0, after) ≡ Ok (line.given, after) = sym over.1 ∙ line.step in
          let same : over.0 ≡ line.given = ap given_of both in
          record {
            way = goes_on start reader left table s reached.way going new left_after failed failed_after changed after taken gives;
            by_given = λ text e.
                let before = (reached.way.taken text e).given in
                subst (λ (given : List StatementAt). reaches begun (before ++ given) later) same (over.2 begun before (reached.by_given text e));
          }

      -- where the category has ended, these are the statements of the text
      pub by_all : s.ended ≡ true → (text : List ℕ) → start ≡ Some text → reaches begun (statements_of text) now
      by_all ended text e =
          let at = reached.way.taken text e in
          let rest = lines_of at.read.lines.rest in
          let said : delta_outcome true (lines_of text) ≡ after_statements at.given (ends_so CategoryEnded) =
          ap (delta_outcome true) at.read.lines.lines ∙ at.says true rest ∙ ap (after_statements at.given) (from_ended true reached.way.block s rest ended) in
          subst (λ (given : List StatementAt). reaches begun given now) (sym (ap (λ (o : DeltaOutcome). o.statements) said ∙ append-nil at.given)) (reached.by_given text e)
