-- What the lines of a delta file leave, and what is told of all of them.
use Rattle.std.proofs.Common.{◌≡◌, ℕ, List, [], ◌∷◌, map, Option, Some, None, Result, Ok, Err, refl, sym, ap, ◌∙◌, subst}
use Rattle.std.specs.Prelude.{IfOk, IfSome, IsOk, OnOk, option_map}
use Rattle.std.proofs.lemmas.Bool.{false≢true}
use Rattle.coll_lex.specs.declared.early_ends.EarlyEnd.{EarlyEnd}
use Rattle.coll_requests.specs.DeltaFaults.{early_fault}
use Rattle.coll_syntax.specs.declared.identifiers.Id.{Id}
use Rattle.coll_syntax.specs.declared.lines.DeltaLine.{DeltaLine}
use Rattle.coll_syntax.specs.declared.lines.DeltaLine.TheVariants as line
use Rattle.coll_syntax.specs.declared.statements.OrderLine.{OrderLine}
use Rattle.coll_syntax.specs.declared.statements.Statement.{Statement}
use Rattle.coll_nodes.specs.Table.{Collation}
use Rattle.coll_nodes.specs.TableLayout.{TableValue, collation}
use Rattle.coll_findings.specs.SurveyedLines.{Handed, Takes}
use Rattle.coll_findings.specs.ToldFaults.{AreAmong, Tells, told_fault}
use Rattle.coll_surveys.specs.DeltaSurveys.{BlockState, DeltaState, EndedState, TellsDeltaLine, block_faults, block_left, block_state, closed, closed_left, delta_end, delta_faults, delta_left, delta_lines}
use Rattle.coll_surveys.specs.DeltaSurveys.{delta_state, early_faults, ended_block, ended_faults, ended_left, faults_by, faults_told, first_block, first_state, left_alone, left_by, left_by_bare, left_by_line}
use Rattle.coll_surveys.specs.DeltaSurveys.{lines_faults, lines_left, opened, table_behind, table_left, text_end_faults, text_end_left, text_faults, text_left}
use Rattle.coll_findings.specs.declared.collecting.Surveyed.{Surveyed}
use Rattle.coll_surveys.specs.declared.delta_surveys.DeltaSurvey.{DeltaSurvey}
use Rattle.coll_findings.specs.declared.findings.FoundFault.{FoundFault}
use Rattle.coll_surveys.specs.declared.open_blocks.OpenBlock.{OpenBlock}
use Rattle.coll_surveys.proofs.TableLemmas.{among_told, told_more_given}
use Rattle.coll_surveys.proofs.TellingLemmas.{told_none, told_on, told_on_ok}

-- What one call leaves.

-- where a survey stands, by its parts
abbrev pub state : Collation → Option BlockState → DeltaState
state table block = record { table = table; block = block }

stands : (survey : DeltaSurvey) (table : Collation) (block : Option BlockState) → table_left survey ≡ table → block_left survey ≡ block → delta_state survey ≡ state table block
stands survey table block table_is block_is = ap (λ (t : Collation). state t (block_left survey)) table_is ∙ ap (λ (b : Option BlockState). state table b) block_is

-- no block is open, so none ends
pub none_ends : (table : Collation) (old new : Option OpenBlock) → old ≡ None → new ≡ None
    → state table (option_map block_state new) ≡ closed (state table (option_map block_state old))
none_ends table old new was is =
    ap (λ (b : Option OpenBlock). state table (option_map block_state b)) is ∙ ap (λ (b : Option OpenBlock). state (closed_left table (option_map block_state b)) None) (sym was)

-- a block ends
pub ended_told : {T E : Type 0} (a b : List FoundFault) (table : Collation) (block : Option OpenBlock) (one : OpenBlock) (ended : Option EndedState) (r : Result T E) → block ≡ Some one
    → ended ≡ ended_block (block_state one) → OnOk r (Tells a b (ended_faults table ended)) → OnOk r (Tells a b (block_faults table (option_map block_state block)))
ended_told a b table block one ended r is ends told =
    subst (λ (o : Option OpenBlock). OnOk r (Tells a b (block_faults table (option_map block_state o)))) (sym is)
    (subst (λ (e : Option EndedState). OnOk r (Tells a b (ended_faults table e))) ends told)

pub ended_leaves : {T E : Type 0} (old new : DeltaSurvey) (one : OpenBlock) (ended : Option EndedState) (r : Result T E) → old.block ≡ Some one → ended ≡ ended_block (block_state one)
    → OnOk r (table_left new ≡ ended_left (table_left old) ended) → new.block ≡ None → OnOk r (delta_state new ≡ closed (delta_state old))
ended_leaves old new one ended (Ok x) is ends left none =
    let behind : ended_left (table_left old) ended ≡ closed_left (table_left old) (block_left old) =
    ap (ended_left (table_left old)) ends ∙ sym (ap (λ (o : Option OpenBlock). closed_left (table_left old) (option_map block_state o)) is) in
    stands new (closed_left (table_left old) (block_left old)) None (left ∙ behind) (ap (option_map block_state) none)
ended_leaves old new one ended (Err e) is ends left none = tt

-- a block begins behind the one that has ended
pub opened_behind : (old mid : DeltaSurvey) (block : Option OpenBlock) (one : OpenBlock) (number : ℕ) (target : Option Id) → delta_state mid ≡ closed (delta_state old) → block ≡ Some one
    → block_state one ≡ first_block number target → state (table_left mid) (option_map block_state block) ≡ opened (delta_state old) number target
opened_behind old mid block one number target ends is first =
    ap (λ (s : DeltaState). state s.table (option_map block_state block)) ends
    ∙ ap (state (closed_left (table_left old) (block_left old))) (ap (option_map block_state) is ∙ ap Some first)

-- a statement that is a line of its own
pub alone_leaves : (old new : DeltaSurvey) (s : Statement) → table_left new ≡ table_behind (table_left old) s → new.block ≡ old.block → delta_state new ≡ left_alone (delta_state old) s
alone_leaves old new s left same = stands new (table_behind (table_left old) s) (block_left old) left (ap (option_map block_state) same)

-- what is told of a line that is handed on, and what it leaves
pub line_told : {T E : Type 0} (old new : DeltaSurvey) (handed : Handed) (r : Result T E) → OnOk r (Tells (faults_told old) (faults_told new) (faults_by (table_left old) (block_left old) handed))
    → OnOk r (delta_state new ≡ left_by (delta_state old) handed) → OnOk r (TellsDeltaLine old handed new)
line_told old new handed (Ok x) told left = record { told = told; left = left }
line_told old new handed (Err e) told left = tt

-- a line that is a keyword alone
pub idle_left : (s : DeltaState) (read : DeltaLine) → (read ≡ line.ReorderEnd → ⊥) → (read ≡ line.EndCategory → ⊥) → s ≡ left_by_bare s read
idle_left s line.ReorderEnd no_end no_category = absurd (no_end refl)
idle_left s line.EndCategory no_end no_category = absurd (no_category refl)
idle_left s _ no_end no_category = refl

pub bare_left : (s : DeltaState) (number : ℕ) (read : DeltaLine) → ((name : List ℕ) → read ≡ line.Symbol name → ⊥) → ((name text : List ℕ) → read ≡ line.Element name text → ⊥)
    → ((name symbol : List ℕ) → read ≡ line.Equivalence name symbol → ⊥) → ((moved after : List ℕ) → read ≡ line.SectionAfter moved after → ⊥)
    → ((target : Id) → read ≡ line.ReorderAfter target → ⊥) → ((order : OrderLine) → read ≡ line.Order order → ⊥) → left_by_bare s read ≡ left_by_line s number read
bare_left s number (line.Symbol name) no_symbol no_element no_equivalence no_section no_block no_order = absurd (no_symbol name refl)
bare_left s number (line.Element name text) no_symbol no_element no_equivalence no_section no_block no_order = absurd (no_element name text refl)
bare_left s number (line.Equivalence name symbol) no_symbol no_element no_equivalence no_section no_block no_order = absurd (no_equivalence name symbol refl)
bare_left s number (line.SectionAfter moved after) no_symbol no_element no_equivalence no_section no_block no_order = absurd (no_section moved after refl)
bare_left s number (line.ReorderAfter target) no_symbol no_element no_equivalence no_section no_block no_order = absurd (no_block target refl)
bare_left s number (line.Order order) no_symbol no_element no_equivalence no_section no_block no_order = absurd (no_order order refl)
bare_left s number _ no_symbol no_element no_equivalence no_section no_block no_order = refl

-- What all lines leave.

-- what is told of all lines, and what they leave
pub lines_told : (handed : List Handed) (old new : DeltaSurvey) → Takes TellsDeltaLine handed old new → Tells (faults_told old) (faults_told new) (lines_faults (delta_state old) handed)
unfolding Takes lines_faults
lines_told [] old new same = told_none (faults_told old) (faults_told new) [] (ap faults_told same)
lines_told (handed ∷ later) old new (mid, one, on) =
    told_on (faults_told old) (faults_told mid) (faults_told new) _ (lines_faults (left_by (delta_state old) handed) later) one.told
    (subst (λ (s : DeltaState). Tells (faults_told mid) (faults_told new) (lines_faults s later)) one.left (lines_told later mid new on))

pub lines_leave : (handed : List Handed) (old new : DeltaSurvey) → Takes TellsDeltaLine handed old new → delta_state new ≡ lines_left (delta_state old) handed
unfolding Takes lines_left
lines_leave [] old new same = ap delta_state same
lines_leave (handed ∷ later) old new (mid, one, on) = lines_leave later mid new on ∙ ap (λ (s : DeltaState). lines_left s later) one.left

-- the same with how the text ends: at its end, or behind the line that ends its category
pub told_early : {T E : Type 0} (text : List ℕ) (old mid new : DeltaSurvey) (found : Option EarlyEnd) (end : EarlyEnd) (r : Result T E) → Takes TellsDeltaLine (delta_lines text) old mid
    → found ≡ delta_end text → found ≡ Some end → OnOk r (Tells (faults_told mid) (faults_told new) (early_faults (table_left mid) (block_left mid) (early_fault end)))
    → OnOk r (Tells (faults_told old) (faults_told new) (text_faults (delta_state old) text))
told_early text old mid new found end r taken ends is told =
    told_on_ok (faults_told old) (faults_told mid) (faults_told new) (lines_faults (delta_state old) (delta_lines text))
    (text_end_faults (lines_left (delta_state old) (delta_lines text)) (delta_end text)) r (lines_told (delta_lines text) old mid taken)
    (subst (λ (s : DeltaState). OnOk r (Tells (faults_told mid) (faults_told new) (text_end_faults s (delta_end text)))) (lines_leave (delta_lines text) old mid taken)
    (subst (λ (e : Option EarlyEnd). OnOk r (Tells (faults_told mid) (faults_told new) (text_end_faults (delta_state mid) e))) (sym is ∙ ends) told))

pub left_early : {T E : Type 0} (text : List ℕ) (old mid new : DeltaSurvey) (found : Option EarlyEnd) (end : EarlyEnd) (r : Result T E) → Takes TellsDeltaLine (delta_lines text) old mid
    → found ≡ delta_end text → found ≡ Some end → OnOk r (delta_state new ≡ closed (delta_state mid)) → OnOk r (delta_state new ≡ text_left (delta_state old) text)
left_early text old mid new found end r taken ends is left =
    subst (λ (s : DeltaState). OnOk r (delta_state new ≡ text_end_left s (delta_end text))) (lines_leave (delta_lines text) old mid taken)
    (subst (λ (e : Option EarlyEnd). OnOk r (delta_state new ≡ text_end_left (delta_state mid) e)) (sym is ∙ ends) left)

pub told_ended : (text : List ℕ) (old new : DeltaSurvey) → Takes TellsDeltaLine (delta_lines text) old new → Tells (faults_told old) (faults_told new) (text_faults (delta_state old) text)
told_ended text old new taken =
    told_more_given (faults_told old) (faults_told new) (lines_faults (delta_state old) (delta_lines text)) (text_end_faults (lines_left (delta_state old) (delta_lines text)) (delta_end text))
    (lines_told (delta_lines text) old new taken)

pub left_ended : (text : List ℕ) (old new : DeltaSurvey) (found : Option EarlyEnd) → Takes TellsDeltaLine (delta_lines text) old new → found ≡ delta_end text → found ≡ None
    → delta_state new ≡ text_left (delta_state old) text
left_ended text old new found taken ends none =
    lines_leave (delta_lines text) old new taken ∙ ap (text_end_left (lines_left (delta_state old) (delta_lines text))) (sym none ∙ ends)

-- what is told of a text over a table, and the table that it leaves
pub told_of_text : {E F : Type 0} (text : List ℕ) (table : Collation) (told : List FoundFault) (first : DeltaState) (new : DeltaSurvey) (over : Surveyed) (done : Result (Unit {0}) E)
    (r : Result Surveyed F) → told ≡ [] → first ≡ first_state table → OnOk done (Tells told (faults_told new) (text_faults first text)) → over.told.faults.items ≡ faults_told new
    → IfOk r (λ surveyed. surveyed ≡ over) → OnOk r (IsOk done) → IfOk r (λ surveyed. AreAmong (map told_fault surveyed.told.faults.items) (delta_faults table text))
told_of_text text table told first new over (Ok u) (Ok surveyed) none begins tells goes same done =
    let from_first : Tells told (faults_told new) (delta_faults table text) = subst (λ (s : DeltaState). Tells told (faults_told new) (text_faults s text)) begins tells in
    let from_none : Tells [] (faults_told new) (delta_faults table text) = subst (λ (l : List FoundFault). Tells l (faults_told new) (delta_faults table text)) none from_first in
    let told_is : faults_told new ≡ surveyed.told.faults.items = sym (ap (λ (s : Surveyed). s.told.faults.items) same ∙ goes) in
    subst (λ (l : List FoundFault). AreAmong (map told_fault l) (delta_faults table text)) told_is (among_told (faults_told new) (delta_faults table text) from_none)
told_of_text text table told first new over (Err e) (Ok surveyed) none begins tells goes same done = absurd (false≢true done)
told_of_text text table told first new over done (Err e) none begins tells goes same ok = tt

pub left_of_text : {E F : Type 0} (text : List ℕ) (table : Collation) (first : DeltaState) (new : DeltaSurvey) (over : Surveyed) (done : Result (Unit {0}) E) (r : Result Surveyed F)
    → first ≡ first_state table → OnOk done (delta_state new ≡ text_left first text) → over.table ≡ Some new.table → IfOk r (λ surveyed. surveyed ≡ over) → OnOk r (IsOk done)
    → IfOk r (λ surveyed. IfSome surveyed.table (λ left. collation left ≡ delta_left table text))
left_of_text text table first new over (Ok u) (Ok surveyed) begins left goes same done =
    let is : surveyed.table ≡ Some new.table = ap (λ (s : Surveyed). s.table) same ∙ goes in
    let behind : table_left new ≡ delta_left table text = ap (λ (s : DeltaState). s.table) left ∙ ap (λ (s : DeltaState). (text_left s text).table) begins in
    subst (λ (t : Option TableValue). IfSome t (λ left. collation left ≡ delta_left table text)) (sym is) behind
left_of_text text table first new over (Err e) (Ok surveyed) begins left goes same done = absurd (false≢true done)
left_of_text text table first new over done (Err e) begins left goes same ok = tt
