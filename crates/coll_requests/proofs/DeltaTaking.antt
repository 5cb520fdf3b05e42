-- A line of a delta file is judged by what the reader keeps: its fault, what it leaves where it has none, and for which lines
-- memory may be taken.
use Rattle.std.proofs.Common.{◌≡◌, ◌⊎◌, inl, inr, ⊎_elim, ℕ, Bool, true, false, List, [], ◌∷◌, Option, Some, None, Result, Ok, Err, refl, sym, ap, ◌∙◌, subst}
use Rattle.std.proofs.lemmas.Bool.{false≢true}
use Rattle.std.specs.Prelude.{◌&&◌, ◌||◌, ◌==◌, if◌then◌else◌, option_to_list, IsTrue, IfOk, IfErr, OnOk}
use Rattle.coll_lex.specs.Faults.{lex_fault_number}
use Rattle.coll_lex.specs.LogicalLines.{LexerState, number_of, first_line, fed, takes_memory, served, state_by}
use Rattle.coll_lex.specs.declared.tokens.Line.{Line}
use Rattle.coll_lex.specs.declared.faults.LexFault.{LexFault}
use Rattle.coll_lex.specs.declared.faults.LexFault.TheVariants as lex
use Rattle.coll_lex.proofs.LineEnds.{fed-takes}
use Rattle.coll_lex.proofs.LineFaults.{fed-not_starved}
use Rattle.coll_syntax.specs.declared.statements.OrderLine.{OrderLine}
use Rattle.coll_requests.specs.SessionLines.{opening_of, fault_parsed}
use Rattle.coll_requests.specs.Parsing.{parsed_by, parsed_in, Parses, no_memory}
use Rattle.coll_requests.specs.RequestFaults.{is_lack_of_memory}
use Rattle.coll_requests.specs.OpenBlocks.{open_at, kept_by, kept_after, kept_requests_by, kept_requests_at}
use Rattle.coll_requests.specs.Taking.{IsOrder, TakesParsing}
use Rattle.coll_requests.specs.DeltaFaults.{lacks_memory}
use Rattle.coll_requests.specs.DeltaFiles.{file_fault, statements_in, ends_category}
use Rattle.coll_requests.specs.DeltaReading.{DeltaState, Unspoiled, IsUnspoiled, kept_fault_under, kept_ended_before, faulty, judged, by_parsed}
use Rattle.coll_requests.specs.DeltaReading.{by_physical, is_lack, is_order, MayLackMemory, refuses, is_refused, is_starved, leaves_lack}
use Rattle.coll_requests.specs.declared.delta_faults.DeltaFault.{DeltaFault}
use Rattle.coll_requests.specs.declared.delta_files.StatementAt.{StatementAt}
use Rattle.coll_requests.specs.declared.parsing.Parsing.{Parsing}
use Rattle.coll_requests.specs.declared.open_blocks.OpenBlock.{OpenBlock}
use Rattle.coll_requests.specs.declared.open_blocks.BlockStatus.{BlockStatus}
use Rattle.coll_requests.specs.declared.open_blocks.BlockStatus.TheVariants.{Building, Spoiled, Starved}
use Rattle.coll_requests.specs.declared.session_lines.Opening.{Opening}
use Rattle.coll_requests.specs.declared.session_lines.Opening.TheVariants as opening
use Rattle.coll_requests.specs.declared.session_lines.Parsed.{Parsed}
use Rattle.coll_requests.specs.declared.session_lines.Parsed.TheVariants as parsed
use Rattle.coll_requests.specs.declared.session_lines.ParsedLine.{ParsedLine}
use Rattle.coll_requests.specs.declared.request_faults.RequestFault.{RequestFault}
use Rattle.coll_requests.specs.declared.request_faults.RequestFault.TheVariants as fault
use Rattle.coll_requests.specs.declared.requests.FaultAt.{FaultAt}
use Rattle.coll_requests.specs.declared.requests.RequestAt.{RequestAt}
use Rattle.coll_requests.proofs.PhysicalTaking.{served_fed}

abbrev pub Answer : Type 0
Answer = Result (Option StatementAt) DeltaFault

-- A line at fault.

module _ (s new : DeltaState) (line : ParsedLine) (at : FaultAt) (r : Answer) (is : Some at ≡ kept_fault_under s.block line) where
  -- what is given before its fault
  pub fault_given : IfOk r (λ given. faulty s (file_fault at) (statements_in (kept_ended_before s.block line.parsed)) ≡ Ok (option_to_list given, new))
      → IfOk r (λ given. judged s line (kept_fault_under s.block line) ≡ Ok (option_to_list given, new))
  fault_given h = subst (λ (f : Option FaultAt). IfOk r (λ given. judged s line f ≡ Ok (option_to_list given, new))) is h

  pub fault_answered : IfErr r (λ f. faulty s (file_fault at) (statements_in (kept_ended_before s.block line.parsed)) ≡ Err f)
      → IfErr r (λ f. lacks_memory f.cause ≡ false → judged s line (kept_fault_under s.block line) ≡ Err f)
  fault_answered h = subst (λ (f : Option FaultAt). IfErr r (λ e. lacks_memory e.cause ≡ false → judged s line f ≡ Err e)) is (by_answer r h)
    where
      by_answer : (r : Answer) → IfErr r (λ f. faulty s (file_fault at) (statements_in (kept_ended_before s.block line.parsed)) ≡ Err f)
          → IfErr r (λ f. lacks_memory f.cause ≡ false → faulty s (file_fault at) (statements_in (kept_ended_before s.block line.parsed)) ≡ Err f)
      by_answer (Ok given) h = tt
      by_answer (Err f) h = λ _. h

  module _ (not_lack : is_lack_of_memory at.fault ≡ false) where
    no_lack : is_lack (kept_fault_under s.block line) ≡ false
    no_lack = sym (ap is_lack is) ∙ not_lack

    pub fault_served : OnOk r (is_lack (kept_fault_under s.block line) ≡ false)
    fault_served = by_answer r
      where
        by_answer : (r : Answer) → OnOk r (is_lack (kept_fault_under s.block line) ≡ false)
        by_answer (Ok given) = no_lack
        by_answer (Err f) = tt

    pub fault_refused : IfErr r (λ f. lacks_memory f.cause ≡ false → is_lack (kept_fault_under s.block line) ≡ false)
    fault_refused = by_answer r
      where
        by_answer : (r : Answer) → IfErr r (λ f. lacks_memory f.cause ≡ false → is_lack (kept_fault_under s.block line) ≡ false)
        by_answer (Ok given) = tt
        by_answer (Err f) = λ _. no_lack

    pub fault_takes_none : IfErr r (λ f. f ≡ file_fault at) → IfErr r (λ f. lacks_memory f.cause ≡ true → MayLackMemory s.block line)
    fault_takes_none own = by_answer r own
      where
        by_answer : (r : Answer) → IfErr r (λ f. f ≡ file_fault at) → IfErr r (λ f. lacks_memory f.cause ≡ true → MayLackMemory s.block line)
        by_answer (Ok given) own = tt
        by_answer (Err f) own = λ lack. absurd (false≢true (sym not_lack ∙ sym (ap (λ (g : DeltaFault). lacks_memory g.cause) own) ∙ lack))

-- A line without a fault.

order_is : (h : Parsed) → IsOrder h → is_order h ≡ true
order_is (parsed.Stops f) order = absurd order
order_is (parsed.Refused o f) order = absurd order
order_is (parsed.Command c) order = absurd order
order_is (parsed.BadCommand f) order = absurd order
order_is (parsed.BlockStart target) order = absurd order
order_is parsed.BlockEnd order = absurd order
order_is (parsed.OrderLine line) order = refl
order_is (parsed.Standalone a) order = absurd order

first_of_two : (a b : Bool) → a ≡ true → (a || b) ≡ true
first_of_two true b e = refl
first_of_two false b e = absurd (false≢true e)

second_of_two : (a b : Bool) → b ≡ true → (a || b) ≡ true
second_of_two true b e = refl
second_of_two false b e = e

both : (a b : Bool) → a ≡ true → b ≡ true → (a && b) ≡ true
both true b e f = f
both false b e f = absurd (false≢true e)

-- the first of some requests is refused
abbrev head_refused : List RequestAt → Bool
head_refused [] = false
head_refused (request ∷ requests) = refuses request.request

request_refused : (request : Option RequestAt) (requests : List RequestAt) → option_to_list request ≡ requests → head_refused requests ≡ true → is_refused request ≡ true
request_refused None requests e refused = sym (ap head_refused (sym e)) ∙ refused
request_refused (Some request) requests e refused = ap head_refused e ∙ refused

-- where memory is refused to a line, the block after it says so, or its request
starved_shows : (block next : Option OpenBlock) (request : Option RequestAt) (n : ℕ) (o : Opening) → IsUnspoiled block → next ≡ kept_by block n (no_memory o)
    → option_to_list request ≡ kept_requests_by block n (no_memory o) → (is_starved next || is_refused request) ≡ true
starved_shows None next request n opening.ReorderAfter sound kept completes = first_of_two (is_starved next) (is_refused request) (ap is_starved kept)
starved_shows None next request n opening.ReorderEnd sound kept completes = second_of_two (is_starved next) (is_refused request) (request_refused request _ completes refl)
starved_shows None next request n opening.Neither sound kept completes = second_of_two (is_starved next) (is_refused request) (request_refused request _ completes refl)
starved_shows (Some block) next request n o sound kept completes = by_block block.line block.status o sound kept completes
  where
    by_block : (l : ℕ) (status : BlockStatus) (o : Opening) → Unspoiled status → next ≡ kept_by (Some (open_at l status)) n (no_memory o)
        → option_to_list request ≡ kept_requests_by (Some (open_at l status)) n (no_memory o) → (is_starved next || is_refused request) ≡ true
    by_block l (Building g) opening.ReorderAfter sound kept completes = first_of_two (is_starved next) (is_refused request) (ap is_starved kept)
    by_block l (Building g) opening.ReorderEnd sound kept completes = second_of_two (is_starved next) (is_refused request) (request_refused request _ completes refl)
    by_block l (Building g) opening.Neither sound kept completes = first_of_two (is_starved next) (is_refused request) (ap is_starved kept)
    by_block l (Spoiled at) o sound kept completes = absurd sound
    by_block l (Starved line) o sound kept completes = absurd sound

-- so a line that leaves no such thing was taken as it is
taken_whole : (starved : Bool) (block next : Option OpenBlock) (h : Parsing) (request : Option RequestAt) → IsUnspoiled block → TakesParsing starved block h next request
    → leaves_lack (is_order h.line.parsed) next request ≡ false → TakesParsing false block h next request
unfolding kept_after kept_requests_at
taken_whole false block next h request sound taken served = taken
taken_whole true block next h request sound taken served =
    let order : is_order h.line.parsed ≡ true = order_is h.line.parsed (taken.order refl) in
    let shows : (is_starved next || is_refused request) ≡ true = starved_shows block next request h.line.number h.opening sound taken.kept taken.completes in
    absurd (false≢true (sym served ∙ both (is_order h.line.parsed) (is_starved next || is_refused request) order shows))

-- the same of what the reader's block was
pub taken_unless_lacking : (starved : Bool) (block was next : Option OpenBlock) (h : Parsing) (request : Option RequestAt) (order : Bool) → IsUnspoiled block → was ≡ block
    → TakesParsing starved was h next request → order ≡ is_order h.line.parsed → false ≡ leaves_lack order next request → TakesParsing false block h next request
taken_unless_lacking starved block was next h request order sound is taken ordered served =
    taken_whole starved block next h request sound (subst (λ (b : Option OpenBlock). TakesParsing starved b h next request) is taken)
    (sym (served ∙ ap (λ (o : Bool). leaves_lack o next request) ordered))

unless_full : (full : Bool) (at : FaultAt) (spoiled : FaultAt) (status : BlockStatus) → Unspoiled status → (if full then Some at else None) ≡ None
    → Unspoiled (if full then Spoiled spoiled else status)
unless_full true at spoiled status sound e = absurd cc
unless_full false at spoiled status sound e = sound

-- a line without a fault spoils no block
pub unspoiled_after : (block : Option OpenBlock) (line : ParsedLine) → IsUnspoiled block → kept_fault_under block line ≡ None → IsUnspoiled (kept_after block line)
unfolding kept_after
unspoiled_after block line sound faultless = by_parsed block line.number line.parsed sound faultless
  where
    inside : (l : ℕ) (status : BlockStatus) (n : ℕ) (order : OrderLine) → Unspoiled status → kept_fault_under (Some (open_at l status)) (record { number = n; parsed = parsed.OrderLine order }) ≡ None
        → IsUnspoiled (kept_by (Some (open_at l status)) n (parsed.OrderLine order))
    inside l (Building g) n order sound e = unless_full _ _ _ _ tt e
    inside l (Spoiled at) n order sound e = absurd sound
    inside l (Starved first) n order sound e = absurd sound

    by_parsed : (block : Option OpenBlock) (n : ℕ) (h : Parsed) → IsUnspoiled block → kept_fault_under block (record { number = n; parsed = h }) ≡ None → IsUnspoiled (kept_by block n h)
    by_parsed block n (parsed.Stops f) sound e = tt
    by_parsed None n (parsed.Refused o f) sound e = absurd cc
    by_parsed (Some block) n (parsed.Refused o f) sound e = absurd cc
    by_parsed block n (parsed.Command c) sound e = sound
    by_parsed block n (parsed.BadCommand f) sound e = sound
    by_parsed block n (parsed.BlockStart target) sound e = tt
    by_parsed block n parsed.BlockEnd sound e = tt
    by_parsed None n (parsed.OrderLine order) sound e = tt
    by_parsed (Some block) n (parsed.OrderLine order) sound e = inside block.line block.status n order sound e
    by_parsed None n (parsed.Standalone a) sound e = tt
    by_parsed (Some block) n (parsed.Standalone a) sound e = absurd cc

-- what is given for it, and what is stored then
pub accepted_answer : (s : DeltaState) (next : Option OpenBlock) (request : Option RequestAt) (h : Parsing) (given : List StatementAt) (ended : Bool) → TakesParsing false s.block h next request
    → given ≡ statements_in (option_to_list request) → ended ≡ ends_category h.line.parsed
    → judged s h.line None ≡ Ok (given, record s { block = next; ended = ended })
accepted_answer s next request h given ended taken is ends = rw (taken.kept, is, taken.completes, ends) refl

-- A physical line of the category.

-- what was parsed is what the lexer says, and no lack of memory
pub record IsWhole (old new : LexerState) (line : List ℕ) (h : Option ParsedLine) : Type 0 where
  pub parsed_is : parsed_in false false old line ≡ h
  pub stands : new ≡ state_by old (fed old line)

-- the fault of what was parsed is no lack of memory
abbrev pub IsSpared : Option OpenBlock → Option ParsedLine → Type 0
IsSpared block None = Unit {0}
IsSpared block (Some line) = is_lack (kept_fault_under block line) ≡ false

no_memory_lacks : (block : Option OpenBlock) (n : ℕ) (o : Opening) → is_lack (kept_fault_under block (record { number = n; parsed = no_memory o })) ≡ true
no_memory_lacks None n o = refl
no_memory_lacks (Some block) n o = refl

pub spared_whole : (block : Option OpenBlock) (starved : Bool) (old new : LexerState) (line : List ℕ) (h : Option ParsedLine) → Parses false starved old new line h → IsSpared block h
    → IsWhole old new line h
unfolding parsed_in served
spared_whole block false old new line h parses spared = record { parsed_is = sym parses.parsed_is; stands = parses.stands }
spared_whole block true old new line h parses spared = by_choice (takes_memory old line) parses.parsed_is parses.stands
  where
    by_choice : (b : Bool) → h ≡ parsed_by false (number_of old) (opening_of (first_line old line)) (if b then Err lex.OutOfMemory else fed old line)
        → new ≡ state_by old (if b then Err lex.OutOfMemory else fed old line) → IsWhole old new line h
    by_choice true is stands =
        absurd (false≢true (sym (subst (IsSpared block) is spared) ∙ no_memory_lacks block (number_of old) (opening_of (first_line old line))))
    by_choice false is stands = record { parsed_is = sym is; stands = stands }

pub physical_by : (s : DeltaState) (new : LexerState) (line : List ℕ) (h : Option ParsedLine) → IsWhole s.lexer new line h → by_physical s line ≡ by_parsed (record s { lexer = new }) h
physical_by s new line h whole =
    ap (λ (l : LexerState). by_parsed (record s { lexer = l }) (parsed_in false false s.lexer line)) (sym whole.stands) ∙ ap (by_parsed (record s { lexer = new })) whole.parsed_is

-- what is answered to it, where it isn't refused for lack of memory
module _ (s : DeltaState) (starved : Bool) (new : LexerState) (line : List ℕ) (h : ParsedLine) (parses : Parses false starved s.lexer new line (Some h)) where
  whole_by : is_lack (kept_fault_under s.block h) ≡ false → by_physical s line ≡ by_parsed (record s { lexer = new }) (Some h)
  whole_by spared = physical_by s new line (Some h) (spared_whole s.block starved s.lexer new line (Some h) parses spared)

  pub physical_given : (after : DeltaState) (r : Answer) → OnOk r (is_lack (kept_fault_under s.block h) ≡ false)
      → IfOk r (λ given. by_parsed (record s { lexer = new }) (Some h) ≡ Ok (option_to_list given, after)) → IfOk r (λ given. by_physical s line ≡ Ok (option_to_list given, after))
  physical_given after (Ok given) spared is = whole_by spared ∙ is
  physical_given after (Err f) spared is = tt

  pub physical_refused : (r : Answer) → IfErr r (λ f. lacks_memory f.cause ≡ false → is_lack (kept_fault_under s.block h) ≡ false)
      → IfErr r (λ f. lacks_memory f.cause ≡ false → by_parsed (record s { lexer = new }) (Some h) ≡ Err f) → IfErr r (λ f. lacks_memory f.cause ≡ false → by_physical s line ≡ Err f)
  physical_refused (Ok given) spared is = tt
  physical_refused (Err f) spared is = λ lack. whole_by (spared lack) ∙ is lack

-- For which lines memory may be taken.

pub lack_number : (f : LexFault) → is_lack_of_memory (fault.Lex f) ≡ (lex_fault_number f == 70)
lack_number lex.NotUtf8 = refl
lack_number lex.OpenSymbol = refl
lack_number lex.EmptySymbol = refl
lack_number lex.BadName = refl
lack_number lex.BadCodePoint = refl
lack_number lex.OpenString = refl
lack_number lex.CharacterConstant = refl
lack_number lex.DanglingEscape = refl
lack_number lex.LineTooLong = refl
lack_number lex.BadCharDirective = refl
lack_number lex.TooManyLines = refl
lack_number lex.OutOfMemory = refl

pub fault_parsed_is : (o : Opening) (f : LexFault) → (fault_parsed o f ≡ parsed.Stops f) ⊎ (fault_parsed o f ≡ parsed.Refused o (fault.Lex f))
fault_parsed_is o lex.NotUtf8 = inr refl
fault_parsed_is o lex.OpenSymbol = inr refl
fault_parsed_is o lex.EmptySymbol = inr refl
fault_parsed_is o lex.BadName = inr refl
fault_parsed_is o lex.BadCodePoint = inr refl
fault_parsed_is o lex.OpenString = inr refl
fault_parsed_is o lex.CharacterConstant = inr refl
fault_parsed_is o lex.DanglingEscape = inl refl
fault_parsed_is o lex.LineTooLong = inl refl
fault_parsed_is o lex.BadCharDirective = inr refl
fault_parsed_is o lex.TooManyLines = inl refl
fault_parsed_is o lex.OutOfMemory = inr refl

stops_lacks : (block : Option OpenBlock) (n : ℕ) (f : LexFault) → MayLackMemory block (record { number = n; parsed = parsed.Stops f }) → is_lack_of_memory (fault.Lex f) ≡ true
stops_lacks None n f lack = ⊎_elim (λ w. w) (λ order. absurd (false≢true order)) lack
stops_lacks (Some block) n f lack = ⊎_elim (λ w. w) (λ order. absurd (false≢true order)) lack

refused_lacks : (block : Option OpenBlock) (n : ℕ) (o : Opening) (f : RequestFault) → MayLackMemory block (record { number = n; parsed = parsed.Refused o f }) → is_lack_of_memory f ≡ true
refused_lacks None n o f lack = ⊎_elim (λ w. w) (λ order. absurd (false≢true order)) lack
refused_lacks (Some block) n o f lack = ⊎_elim (λ w. w) (λ order. absurd (false≢true order)) lack

abbrev may_lack_memory_at : Option OpenBlock → ℕ → Parsed → Type 0
may_lack_memory_at block n h = MayLackMemory block (record { number = n; parsed = h })

fault_lacks : (block : Option OpenBlock) (n : ℕ) (o : Opening) (f : LexFault) → may_lack_memory_at block n (fault_parsed o f) → is_lack_of_memory (fault.Lex f) ≡ true
fault_lacks block n o f lack =
    ⊎_elim (λ (is : fault_parsed o f ≡ parsed.Stops f). stops_lacks block n f (subst (may_lack_memory_at block n) is lack))
    (λ (is : fault_parsed o f ≡ parsed.Refused o (fault.Lex f)). refused_lacks block n o (fault.Lex f) (subst (may_lack_memory_at block n) is lack)) (fault_parsed_is o f)

abbrev MayLackMemoryIf : Option OpenBlock → Option ParsedLine → Type 0
MayLackMemoryIf block None = ⊥
MayLackMemoryIf block (Some line) = MayLackMemory block line

module _ (s : LexerState) (line : List ℕ) where
  never : (f : LexFault) → fed s line ≡ Err f → is_lack_of_memory (fault.Lex f) ≡ true → ⊥
  never f e lack = false≢true (sym (fed-not_starved s line f e) ∙ sym (lack_number f) ∙ lack)

  refused_takes : (starved : Bool) (f : LexFault) → served starved s line ≡ Err f → is_lack_of_memory (fault.Lex f) ≡ true → takes_memory s line ≡ true
  unfolding served
  refused_takes false f e lack = absurd (never f e lack)
  refused_takes true f e lack = by_choice (takes_memory s line) e
    where
      by_choice : (b : Bool) → (if b then Err lex.OutOfMemory else fed s line) ≡ Err f → b ≡ true
      by_choice true e = refl
      by_choice false e = absurd (never f e lack)

  -- memory may be taken for each line that is refused for lack of it, and for each order line
  pub lacking_takes : (block : Option OpenBlock) (starved : Bool) (new : LexerState) (h : ParsedLine) → Parses false starved s new line (Some h) → MayLackMemory block h → takes_memory s line ≡ true
  unfolding parsed_in
  lacking_takes block starved new h parses lack = by_answer (served starved s line) refl (subst (MayLackMemoryIf block) parses.parsed_is lack)
    where
      by_answer : (r : Result (Option Line × LexerState) LexFault) → served starved s line ≡ r → MayLackMemoryIf block (parsed_by false (number_of s) (opening_of (first_line s line)) r)
          → takes_memory s line ≡ true
      by_answer (Ok (None, after)) e lack = absurd lack
      by_answer (Ok (Some given, after)) e lack = fed-takes s line given after (served_fed starved s line (Some given, after) e)
      by_answer (Err f) e lack = refused_takes starved f e (fault_lacks block (number_of s) (opening_of (first_line s line)) f lack)

  pub physical_takes : (block : Option OpenBlock) (starved : Bool) (new : LexerState) (h : ParsedLine) (r : Answer) → Parses false starved s new line (Some h)
      → IfErr r (λ f. lacks_memory f.cause ≡ true → MayLackMemory block h) → IfErr r (λ f. lacks_memory f.cause ≡ true → IsTrue (takes_memory s line))
  physical_takes block starved new h (Ok given) parses lacks = tt
  physical_takes block starved new h (Err f) parses lacks = λ lack. lacking_takes block starved new h parses (lacks lack)
