-- What is wrong with the lines of a table that is surveyed, but for their weights (`TableWeights`): with each, what judging it gives,
-- where it stands, over what the lines before it left (the project's own).
use Rattle.std.specs.Prelude.{◌≡◌, ◌||◌, ℕ, Bool, codes, true, false, if◌then◌else◌, List, [], ◌∷◌, ◌++◌}
use Rattle.std.specs.Prelude.{Option, Some, None, Result, Ok, Err}
use Rattle.coll_devices.specs.PhysicalLines.{lines_of}
use Rattle.coll_lex.specs.declared.early_ends.EarlyEnd.{EarlyEnd}
use Rattle.coll_lex.specs.declared.tokens.Token.{Token}
use Rattle.coll_syntax.specs.Identifier.{is_word}
use Rattle.coll_syntax.specs.TableLines.{table_line}
use Rattle.coll_syntax.specs.declared.lines.TableLine.{TableLine}
use Rattle.coll_syntax.specs.declared.lines.TableLine.TheVariants as line
use Rattle.coll_syntax.specs.declared.syntax_faults.SyntaxFault.{SyntaxFault}
use Rattle.coll_nodes.specs.Table.{Collation}
use Rattle.coll_texts.specs.BuilderStates.{BuilderState, Numbered, is_end, line_fault, state_of, table_of}
use Rattle.coll_texts.specs.LoadFaults.{early_fault, lex_cause}
use Rattle.coll_texts.specs.Loading.{state_after, state_refused, state_with}
use Rattle.coll_texts.specs.declared.load_faults.LoadCause.TheVariants.{OutsideOrder, Syntax}
use Rattle.coll_texts.specs.declared.load_faults.LoadFault.{LoadFault}
use Rattle.coll_faults.specs.declared.faults.Fault.TheVariants as fault
use Rattle.coll_findings.specs.SurveyedLines.{Given, Handed, Refused, ended_early, first_lines, handed_on}
use Rattle.coll_findings.specs.ToldFaults.{LineFault, Tells, at_line}
use Rattle.coll_findings.specs.declared.findings.FoundFault.{FoundFault}
use Rattle.coll_surveys.specs.declared.standings.Standing.{Standing}
use Rattle.coll_surveys.specs.declared.standings.Standing.TheVariants as stands
use Rattle.coll_surveys.specs.declared.table_surveys.TableSurvey.{TableSurvey}

-- the faults that were told
abbrev pub told_of_table : TableSurvey → List FoundFault
told_of_table survey = survey.told.told.faults.items

-- a fault of a table, at its line
abbrev pub load_fault : LoadFault → LineFault
load_fault f = at_line f.line (fault.Load f)

abbrev pub load_faults : Option LoadFault → List LineFault
load_faults None = []
load_faults (Some f) = load_fault f ∷ []

-- a line without the weights that it gives
abbrev pub bare_line : TableLine → TableLine
bare_line (line.Order order) = line.Order (record order { weights = None })
bare_line other = other

-- Where a line stands.

-- a line stands in an order
abbrev pub is_in_order : TableLine → Bool
is_in_order (line.Section name) = true
is_in_order (line.Order order) = true
is_in_order _ = false

-- a line ends an order that was opened for one outside of an order: it opens one of the text, or ends the category
abbrev pub ends_opened : TableLine → Bool
ends_opened (line.OrderStart section rules) = true
ends_opened line.EndCategory = true
ends_opened _ = false

-- where the line stands behind one that stands in an order: where none was open, one was opened for it
abbrev pub standing_in_order : Standing → Standing
standing_in_order stands.Outside = stands.Opened
standing_in_order stands.Within = stands.Within
standing_in_order stands.Opened = stands.Opened

-- where the line stands behind one that the grammar accepts
abbrev pub standing_after : Standing → TableLine → Standing
standing_after standing (line.OrderStart section rules) = stands.Within
standing_after standing line.OrderEnd = stands.Outside
standing_after standing (line.Section name) = standing_in_order standing
standing_after standing (line.Order order) = standing_in_order standing
standing_after standing _ = standing

-- where the line stands behind an `order_start` that the grammar refuses: it opens an order nevertheless, where none is open
abbrev pub standing_behind_start : Standing → Standing
standing_behind_start stands.Outside = stands.Within
standing_behind_start stands.Within = stands.Within
standing_behind_start stands.Opened = stands.Opened

-- a line begins with `order_start`
abbrev pub begins_order : List Token → Bool
begins_order [] = false
begins_order (first ∷ later) = is_word first (codes "order_start")

-- where the line stands behind one, as the grammar reads it
abbrev pub standing_read : Standing → (begins : Bool) → Result TableLine SyntaxFault → Standing
standing_read standing begins (Ok read) = standing_after standing read
standing_read standing begins (Err f) = if begins then standing_behind_start standing else standing

-- What judges a line.

-- what is built, with an order opened: the rules stand, or else there is one level
abbrev pub opened_by : BuilderState → BuilderState
opened_by built = state_with built 0 (line.OrderStart None None)

-- what is built, with the order closed again that was opened so
abbrev pub closed_by : BuilderState → BuilderState
closed_by built = state_with built 0 line.OrderEnd

-- what judges a line: what is built, with an order opened for a line outside of one, which is closed again where the text opens one, or ends
abbrev pub judging : BuilderState → Standing → TableLine → BuilderState
judging built stands.Outside read = if is_in_order read then opened_by built else built
judging built stands.Within read = built
judging built stands.Opened read = if ends_opened read then closed_by built else built

-- that a line stands outside of an order which is to stand in one
abbrev pub outside_faults : Standing → ℕ → TableLine → List LineFault
outside_faults stands.Outside number read =
    if is_in_order read then load_fault (record { line = number; cause = OutsideOrder }) ∷ [] else []
outside_faults stands.Within number read = []
outside_faults stands.Opened number read = []

-- a line without its weights, with its number
abbrev pub bare_numbered : ℕ → TableLine → Numbered
bare_numbered number read = record { number = number; line = bare_line read }

-- the fault of a line without its weights, as it is judged by this, if it has one
abbrev pub judged_faults : BuilderState → ℕ → TableLine → List LineFault
judged_faults judge number read = load_faults (line_fault judge (bare_numbered number read))

-- the faults of a line that the grammar accepts
abbrev pub line_faults : BuilderState → Standing → ℕ → TableLine → List LineFault
line_faults built standing number read = outside_faults standing number read ++ judged_faults (judging built standing read) number read

-- the faults of a line, as the grammar reads it
abbrev pub read_faults : BuilderState → Standing → ℕ → Result TableLine SyntaxFault → List LineFault
read_faults built standing number (Ok read) = line_faults built standing number read
read_faults built standing number (Err f) = load_fault (record { line = number; cause = Syntax f }) ∷ []

-- the faults of a line of these tokens
abbrev pub faults_of_line : BuilderState → Standing → ℕ → List Token → List LineFault
faults_of_line built standing number tokens = read_faults built standing number (table_line tokens)

-- What a line leaves.

-- what a survey of a table has behind some lines: the table that is built, where the next line stands, and whether an `order_start` was
-- accepted, by which the rules are known
pub record SurveyState : Type 0 where
  pub built : BuilderState
  pub standing : Standing
  pub ruled : Bool

-- before the first line
abbrev pub first_survey : SurveyState
first_survey = record { built = state_of []; standing = stands.Outside; ruled = false }

abbrev pub survey_state : TableSurvey → SurveyState
survey_state survey = record { built = survey.builder; standing = survey.standing; ruled = survey.ruled }

-- a line opens an order
abbrev pub starts_order : TableLine → Bool
starts_order (line.OrderStart section rules) = true
starts_order _ = false

-- what is built, with an order opened if one is to be
abbrev pub opened_if : Bool → BuilderState → BuilderState
opened_if opens built = if opens then opened_by built else built

-- what a line without its weights leaves that is judged by this, by its fault, if it has one: what loading makes of it, or what it leaves
-- where it is refused, with an order opened if it would open one
abbrev pub built_behind : (judge : BuilderState) → Numbered → (starts : Bool) → Option LoadFault → BuilderState
built_behind judge bare starts None = state_after judge bare
built_behind judge bare starts (Some f) = opened_if starts (state_refused judge bare)

-- whether the rules are known behind a line
abbrev pub ruled_behind : Bool → (starts : Bool) → Option LoadFault → Bool
ruled_behind ruled starts None = ruled || starts
ruled_behind ruled starts (Some f) = ruled

-- what a line leaves that the grammar accepts
abbrev pub left_by_line : SurveyState → ℕ → TableLine → SurveyState
left_by_line s number read = record {
  built = built_behind (judging s.built s.standing read) (bare_numbered number read) (starts_order read)
      (line_fault (judging s.built s.standing read) (bare_numbered number read));
  standing = standing_after s.standing read;
  ruled = ruled_behind s.ruled (starts_order read) (line_fault (judging s.built s.standing read) (bare_numbered number read));
}

-- what a line leaves, as the grammar reads it: one that it refuses opens an order where it begins with `order_start`
abbrev pub left_read : SurveyState → ℕ → (begins : Bool) → Result TableLine SyntaxFault → SurveyState
left_read s number begins (Ok read) = left_by_line s number read
left_read s number begins (Err f) =
    record s { built = opened_if begins s.built; standing = standing_read s.standing begins (Err f) }

-- what a line that is handed on leaves, and what is wrong with it
abbrev pub left_by : SurveyState → Handed → SurveyState
left_by s (Given number begins tokens) = left_read s number (begins_order tokens) (table_line tokens)
left_by s (Refused number begins f) = s

abbrev pub faults_by : SurveyState → Handed → List LineFault
faults_by s (Given number begins tokens) = faults_of_line s.built s.standing number tokens
faults_by s (Refused number begins f) = load_fault (record { line = number; cause = lex_cause f }) ∷ []

-- what is told of a line that is handed on is what is wrong with it over what the lines before it left
pub record TellsLine (old : TableSurvey) (handed : Handed) (new : TableSurvey) : Type 0 where
  pub told : Tells (told_of_table old) (told_of_table new) (faults_by (survey_state old) handed)
  pub left : survey_state new ≡ left_by (survey_state old) handed

-- All lines of a text.

-- a line ends the category, as the grammar reads it
abbrev pub ends_read : Result TableLine SyntaxFault → Bool
ends_read (Ok read) = is_end read
ends_read (Err f) = false

abbrev pub ends_table : List Token → Bool
ends_table tokens = ends_read (table_line tokens)

-- the lines of a text, as a survey is handed them
abbrev pub table_lines : (text : List ℕ) → List Handed
table_lines text = handed_on ends_table first_lines (lines_of text)

-- what is wrong with each line, over what the lines before it left
unfoldable pub lines_faults : SurveyState → List Handed → List LineFault
lines_faults s [] = []
lines_faults s (handed ∷ later) = faults_by s handed ++ lines_faults (left_by s handed) later

-- what lines leave
unfoldable pub lines_left : SurveyState → List Handed → SurveyState
lines_left s [] = s
lines_left s (handed ∷ later) = lines_left (left_by s handed) later

-- how a text ends of which the category doesn't
abbrev pub end_faults : Option EarlyEnd → List LineFault
end_faults None = []
end_faults (Some end) = load_fault (early_fault end) ∷ []

-- what is wrong with the lines of a text but for their weights, and then with its end
abbrev pub text_faults : (text : List ℕ) → List LineFault
text_faults text = lines_faults first_survey (table_lines text) ++ end_faults (ended_early ends_table first_lines (lines_of text))

-- what the lines of a text leave
abbrev pub text_left : (text : List ℕ) → SurveyState
text_left text = lines_left first_survey (table_lines text)

-- The table that lines give.

-- the end of a category, which is none of the text
abbrev pub own_end : Numbered
own_end = record { number = 0; line = line.EndCategory }

-- what is built where a category is ended, by its fault, if it has one: then an order is opened, and closed, before it is ended
abbrev pub end_behind : BuilderState → Option LoadFault → BuilderState
end_behind built None = state_after built own_end
end_behind built (Some f) = state_after (closed_by (opened_by (state_refused built own_end))) own_end

abbrev pub ended_by : BuilderState → BuilderState
ended_by built = end_behind built (line_fault built own_end)

-- a category is ended, or that is refused
abbrev pub IsEnded : (old new : BuilderState) → (ended : Bool) → Type 0
IsEnded old new true = (line_fault old own_end ≡ None) × (new ≡ state_after old own_end)
IsEnded old new false = (f : LoadFault) × (line_fault old own_end ≡ Some f) × (new ≡ state_refused old own_end)

-- the table that the lines of a text give, where they give one
abbrev pub given_table : (text : List ℕ) → Collation
given_table text = table_of (ended_by (text_left text).built)
