-- What is wrong with the weights of an order line of a table that is surveyed, in the table that all its lines give (the project's own).
use Rattle.std.specs.Prelude.{◌≡◌, ℕ, Bool, nat_lt, ◌&&◌, List, [], ◌∷◌, ◌++◌, length, Option, Some, None, Result, Ok, Err}
use Rattle.std.specs.List.{flat_map}
use Rattle.coll_syntax.specs.TableLines.{table_line}
use Rattle.coll_syntax.specs.declared.identifiers.Id.{Id}
use Rattle.coll_syntax.specs.declared.lines.TableLine.{TableLine}
use Rattle.coll_syntax.specs.declared.lines.TableLine.TheVariants as line
use Rattle.coll_syntax.specs.declared.statements.OrderLine.{OrderLine}
use Rattle.coll_syntax.specs.declared.weights.Weight.{Weight}
use Rattle.coll_syntax.specs.declared.syntax_faults.SyntaxFault.{SyntaxFault}
use Rattle.coll_nodes.specs.Causes.{refused_if}
use Rattle.coll_nodes.specs.Entries.{weight_ids}
use Rattle.coll_nodes.specs.OwnNames.{own_id}
use Rattle.coll_nodes.specs.Table.{Collation, is_symbol}
use Rattle.coll_nodes.specs.TableLayout.{collation}
use Rattle.coll_texts.specs.BuilderStates.{weight_cause}
use Rattle.coll_texts.specs.declared.load_faults.LoadCause.{LoadCause}
use Rattle.coll_texts.specs.declared.load_faults.LoadCause.TheVariants.{SymbolWithWeights, TooManyWeights}
use Rattle.coll_findings.specs.SurveyedLines.{Given, Handed, Refused}
use Rattle.coll_surveys.specs.TableSurveys.{given_table, load_fault, table_lines, text_faults, text_left}
use Rattle.coll_findings.specs.ToldFaults.{LineFault, Tells}
use Rattle.coll_surveys.specs.declared.table_weights.WeightSurvey.{WeightSurvey}

-- a fault of the line of this number, if there is a cause for one
abbrev pub cause_faults : (number : ℕ) → Option LoadCause → List LineFault
cause_faults number None = []
cause_faults number (Some cause) = load_fault (record { line = number; cause = cause }) ∷ []

-- why an identifier may not stand in a weight: by its own name it isn't declared, or has no entry
abbrev pub named_cause : Collation → Id → Option LoadCause
named_cause table id = weight_cause table.declared table.sections (own_id table.declared id)

-- the faults of what a weight names
abbrev pub ids_faults : Collation → (number : ℕ) → List Id → List LineFault
ids_faults table number ids = flat_map (λ id. cause_faults number (named_cause table id)) ids

-- the faults of what weights name
abbrev pub weights_faults : Collation → (number : ℕ) → List Weight → List LineFault
weights_faults table number weights = flat_map (λ weight. ids_faults table number (weight_ids weight)) weights

-- why an identifier may not have weights, whatever they name: by its own name it is a collating symbol, or they are more than there are
-- levels, where the rules are known
abbrev pub given_cause : Collation → (ruled : Bool) → Id → List Weight → Option LoadCause
given_cause table ruled id weights =
    refused_if (is_symbol table.declared (own_id table.declared id)) SymbolWithWeights
    (refused_if (ruled && nat_lt (length table.rules) (length weights)) TooManyWeights None)

-- the faults of weights, which are refused as they are for this cause, if there is one
abbrev pub refused_faults : Collation → (number : ℕ) → List Weight → Option LoadCause → List LineFault
refused_faults table number weights None = weights_faults table number weights
refused_faults table number weights (Some cause) = cause_faults number (Some cause)

-- the faults of the weights that are given to an identifier, if any are
abbrev pub given_faults : Collation → (ruled : Bool) → (number : ℕ) → Id → Option (List Weight) → List LineFault
given_faults table ruled number id None = []
given_faults table ruled number id (Some weights) = refused_faults table number weights (given_cause table ruled id weights)

-- the faults of the weights of an order line
abbrev pub weight_faults : Collation → (ruled : Bool) → (number : ℕ) → OrderLine → List LineFault
weight_faults table ruled number order = given_faults table ruled number order.id order.weights

-- the faults of the weights of a line, as the grammar reads it
abbrev pub read_weights : Collation → (ruled : Bool) → (number : ℕ) → Result TableLine SyntaxFault → List LineFault
read_weights table ruled number (Ok (line.Order order)) = weight_faults table ruled number order
read_weights table ruled number _ = []

-- the faults of the weights of a line that is handed on
abbrev pub weights_by : Collation → (ruled : Bool) → Handed → List LineFault
weights_by table ruled (Given number begins tokens) = read_weights table ruled number (table_line tokens)
weights_by table ruled (Refused number begins f) = []

-- the faults of the weights in a text, in this table
abbrev pub text_weights : Collation → (ruled : Bool) → (text : List ℕ) → List LineFault
text_weights table ruled text = flat_map (weights_by table ruled) (table_lines text)

-- all that is wrong with a text: with each of its lines, over what the lines before it left, with its end, and with the weights, in the
-- table that all its lines give
abbrev pub table_faults : (text : List ℕ) → List LineFault
table_faults text = text_faults text ++ text_weights (given_table text) (text_left text).ruled text

-- the faults of the weights are told that a line has, in the table and with the rules that stay
pub record TellsWeights (old : WeightSurvey) (handed : Handed) (new : WeightSurvey) : Type 0 where
  pub told : Tells old.told.now.told.faults.items new.told.now.told.faults.items (weights_by (collation old.table.now) old.ruled handed)
  pub reference : new.told.ghost_name ≡ old.told.ghost_name
  pub table : new.table ≡ old.table
  pub ruled : new.ruled ≡ old.ruled
