-- What is told of all lines of a table.
use Rattle.std.proofs.Common.{◌≡◌, ℕ, Bool, List, [], ◌∷◌, ◌++◌, Option, Some, None, refl, sym, ap, ◌∙◌, subst}
use Rattle.std.specs.Prelude.{IfOk, IfSome, IsOk, MatchOption, OnOk, Result, Ok, Err, map}
use Rattle.std.specs.List.{flat_map}
use Rattle.std.proofs.lemmas.Bool.{false≢true}
use Rattle.coll_devices.specs.PhysicalLines.{lines_of}
use Rattle.coll_lex.specs.declared.early_ends.EarlyEnd.{EarlyEnd}
use Rattle.coll_nodes.specs.Table.{Collation}
use Rattle.coll_nodes.specs.TableLayout.{TableValue, collation}
use Rattle.coll_texts.specs.BuilderStates.{BuilderState, table_of}
use Rattle.coll_texts.specs.LoadFaults.{early_fault}
use Rattle.coll_findings.specs.SurveyedLines.{Handed, Takes, ended_early, first_lines}
use Rattle.coll_surveys.specs.TableSurveys.{SurveyState, TellsLine, end_faults, ended_by, ends_table, first_survey, given_table, left_by, lines_faults, lines_left, load_fault}
use Rattle.coll_surveys.specs.TableSurveys.{survey_state, table_lines, text_faults, text_left, told_of_table}
use Rattle.coll_surveys.specs.TableWeights.{TellsWeights, table_faults, text_weights, weights_by}
use Rattle.coll_findings.specs.ToldFaults.{AreAmong, LineFault, Tells, told_fault}
use Rattle.coll_findings.specs.declared.collecting.Surveyed.{Surveyed}
use Rattle.coll_findings.specs.declared.findings.FoundFault.{FoundFault}
use Rattle.coll_surveys.specs.declared.table_surveys.TableSurvey.{TableSurvey}
use Rattle.coll_surveys.specs.declared.table_weights.WeightSurvey.{WeightSurvey}
use Rattle.coll_surveys.proofs.TellingLemmas.{told_none, told_on, told_on_ok}

-- what is told of all lines, and what they leave
pub lines_told : (handed : List Handed) (old new : TableSurvey) → Takes TellsLine handed old new → Tells (told_of_table old) (told_of_table new) (lines_faults (survey_state old) handed)
unfolding Takes lines_faults
lines_told [] old new same = told_none (told_of_table old) (told_of_table new) [] (ap told_of_table same)
lines_told (handed ∷ later) old new (mid, one, on) =
    told_on (told_of_table old) (told_of_table mid) (told_of_table new) _ (lines_faults (left_by (survey_state old) handed) later) one.told
    (subst (λ (s : SurveyState). Tells (told_of_table mid) (told_of_table new) (lines_faults s later)) one.left (lines_told later mid new on))

pub lines_leave : (handed : List Handed) (old new : TableSurvey) → Takes TellsLine handed old new → survey_state new ≡ lines_left (survey_state old) handed
unfolding Takes lines_left
lines_leave [] old new same = ap survey_state same
lines_leave (handed ∷ later) old new (mid, one, on) = lines_leave later mid new on ∙ ap (λ (s : SurveyState). lines_left s later) one.left

-- the same with how the text ends: at its end, or behind the line that ends its category
pub told_to_end : {T E : Type 0} (handed : List Handed) (old mid : TableSurvey) (new : List FoundFault) (found early : Option EarlyEnd) (end : EarlyEnd) (r : Result T E) → Takes TellsLine handed old mid
    → found ≡ early → found ≡ Some end → OnOk r (Tells (told_of_table mid) new (load_fault (early_fault end) ∷ []))
    → OnOk r (Tells (told_of_table old) new (lines_faults (survey_state old) handed ++ end_faults early))
told_to_end handed old mid new found early end r taken ends is told =
    told_on_ok (told_of_table old) (told_of_table mid) new (lines_faults (survey_state old) handed) (end_faults early) r (lines_told handed old mid taken)
    (subst (λ (e : Option EarlyEnd). OnOk r (Tells (told_of_table mid) new (end_faults e))) (sym is ∙ ends) told)

-- more may be given behind
pub told_more_given : (a b : List FoundFault) (given later : List LineFault) → Tells a b given → Tells a b (given ++ later)
told_more_given a b given later tells = told_on a b b given later tells (told_none b b later refl)

-- what is told behind nothing is among what is given
pub among_told : (new : List FoundFault) (given : List LineFault) → Tells [] new given → AreAmong (map told_fault new) given
among_told new given (told, is, among) = subst (λ (l : List FoundFault). AreAmong (map told_fault l) given) (sym is) among

-- the weights of all lines
pub weights_told : (handed : List Handed) (old new : WeightSurvey) → Takes TellsWeights handed old new
    → Tells old.told.now.told.faults.items new.told.now.told.faults.items (flat_map (weights_by (collation old.table.now) old.ruled) handed)
unfolding Takes
weights_told [] old new same = told_none _ _ [] (ap (λ (s : WeightSurvey). s.told.now.told.faults.items) same)
weights_told (handed ∷ later) old new (mid, one, on) =
    let rest : Tells mid.told.now.told.faults.items new.told.now.told.faults.items (flat_map (weights_by (collation old.table.now) old.ruled) later) =
    rw (← one.table, ← one.ruled) (weights_told later mid new on) in
    told_on old.told.now.told.faults.items mid.told.now.told.faults.items new.told.now.told.faults.items (weights_by (collation old.table.now) old.ruled handed)
    (flat_map (weights_by (collation old.table.now) old.ruled) later) one.told rest

-- they are told in what was lent for it
pub weights_lent : (handed : List Handed) (old new : WeightSurvey) → Takes TellsWeights handed old new → new.told.ghost_name ≡ old.told.ghost_name
unfolding Takes
weights_lent [] old new same = ap (λ (s : WeightSurvey). s.told.ghost_name) same
weights_lent (handed ∷ later) old new (mid, one, on) = weights_lent later mid new on ∙ one.reference

-- where there is a table, it is the one that is given
pub looked_up : (table : Option TableValue) (given : Collation) (ruled : Bool) (text : List ℕ) (a b : List FoundFault) → IfSome table (λ t. collation t ≡ given)
    → MatchOption table (b ≡ a) (λ t. Tells a b (text_weights (collation t) ruled text)) → Tells a b (text_weights given ruled text)
looked_up None given ruled text a b is told = told_none a b (text_weights given ruled text) told
looked_up (Some t) given ruled text a b is told = subst (λ (table : Collation). Tells a b (text_weights table ruled text)) is told

-- the same of a survey that ends with it
pub told_if_done : {E : Type 0} (table : Option TableValue) (given : Collation) (ruled : Bool) (text : List ℕ) (a b : List FoundFault) (over : Surveyed) (done : Result (Unit {0}) E)
    (r : Result Surveyed E) → IfSome table (λ t. collation t ≡ given) → OnOk done (MatchOption table (b ≡ a) (λ t. Tells a b (text_weights (collation t) ruled text)))
    → over.told.faults.items ≡ b → IfOk r (λ surveyed. surveyed ≡ over) → OnOk r (IsOk done) → IfOk r (λ surveyed. Tells a surveyed.told.faults.items (text_weights given ruled text))
told_if_done table given ruled text a b over (Ok u) (Ok surveyed) is told goes same done =
    subst (λ (l : List FoundFault). Tells a l (text_weights given ruled text)) (sym goes ∙ ap (λ (s : Surveyed). s.told.faults.items) (sym same)) (looked_up table given ruled text a b is told)
told_if_done table given ruled text a b over (Err e) (Ok surveyed) is told goes same done = absurd (false≢true done)
told_if_done table given ruled text a b over done (Err e) is told goes same ok = tt

-- what is told of lines, and then of their weights, from the first line on, is among all that is wrong with a text
pub all_among : {E : Type 0} (text : List ℕ) (told : List FoundFault) (first : SurveyState) (new : TableSurvey) (builder : BuilderState) (mid : List FoundFault) (ruled : Bool) (r : Result Surveyed E)
    → told ≡ [] → first ≡ first_survey
    → Tells told (told_of_table new) (lines_faults first (table_lines text) ++ end_faults (ended_early ends_table first_lines (lines_of text)))
    → survey_state new ≡ lines_left first (table_lines text) → builder ≡ new.builder → mid ≡ told_of_table new → ruled ≡ new.ruled
    → IfOk r (λ surveyed. Tells mid surveyed.told.faults.items (text_weights (table_of (ended_by builder)) ruled text))
    → IfOk r (λ surveyed. AreAmong (map told_fault surveyed.told.faults.items) (table_faults text))
all_among text told first new builder mid ruled (Ok surveyed) none begins tells left built kept known weights =
    let end = end_faults (ended_early ends_table first_lines (lines_of text)) in
    let lines : Tells [] (told_of_table new) (text_faults text) =
    subst (λ (s : SurveyState). Tells [] (told_of_table new) (lines_faults s (table_lines text) ++ end)) begins
    (subst (λ (l : List FoundFault). Tells l (told_of_table new) (lines_faults first (table_lines text) ++ end)) none tells) in
    let left_at : survey_state new ≡ text_left text = left ∙ ap (λ (s : SurveyState). lines_left s (table_lines text)) begins in
    let given : table_of (ended_by builder) ≡ given_table text = ap (λ (d : BuilderState). table_of (ended_by d)) (built ∙ ap (λ (s : SurveyState). s.built) left_at) in
    let rules : ruled ≡ (text_left text).ruled = known ∙ ap (λ (s : SurveyState). s.ruled) left_at in
    among_told surveyed.told.faults.items (table_faults text)
    (told_on [] (told_of_table new) surveyed.told.faults.items (text_faults text) (text_weights (given_table text) (text_left text).ruled text) lines
    (subst (λ (l : List FoundFault). Tells l surveyed.told.faults.items (text_weights (given_table text) (text_left text).ruled text)) kept
    (subst (λ (t : Collation). Tells mid surveyed.told.faults.items (text_weights t (text_left text).ruled text)) given
    (subst (λ (b : Bool). Tells mid surveyed.told.faults.items (text_weights (table_of (ended_by builder)) b text)) rules weights))))
all_among text told first new builder mid ruled (Err e) none begins tells left built kept known weights = tt
