-- All faults of a statement, each with what it is about (the project's own).
use Rattle.std.specs.Prelude.{◌≡◌, ℕ, zero, suc, ◌==◌, Bool, ◌&&◌, not, if◌then◌else◌, List, [], ◌∷◌, ◌++◌, Option, Some, None, is_some}
use Rattle.std.specs.Prelude.{Result, Ok, Err, IsTrue}
use Rattle.coll_syntax.specs.Identifier.{has_name}
use Rattle.coll_syntax.specs.declared.identifiers.Id.{Id}
use Rattle.coll_syntax.specs.declared.identifiers.Id.TheVariants.{Named}
use Rattle.coll_syntax.specs.declared.statements.OrderLine.{OrderLine}
use Rattle.coll_syntax.specs.declared.statements.Statement.{Statement}
use Rattle.coll_syntax.specs.declared.statements.Statement.TheVariants as statement
use Rattle.coll_nodes.specs.Causes.{refused_if}
use Rattle.coll_nodes.specs.OwnNames.{own_id}
use Rattle.coll_nodes.specs.Table.{Collation, is_placed, section_names}
use Rattle.coll_nodes.specs.WellFormed.{IsWellFormed}
use Rattle.coll_statements.specs.OwnStatements.{own_lines}
use Rattle.coll_table.specs.Delta.{delta}
use Rattle.coll_table.specs.Judging.{line_ids}
use Rattle.coll_table.specs.Refusals.{refusal_number}
use Rattle.coll_table.specs.declared.refusals.Refusal.{Refusal}
use Rattle.coll_table.specs.declared.refusals.Refusal.TheVariants.{Full, NotASymbol, NotDeclared, NoSuchSection, TargetNotPlaced}
use Rattle.coll_advice.specs.LineFaults.{about, line_fault, reweight_fault}
use Rattle.coll_advice.specs.declared.found.Found.{Found}

-- a fault, if there is one, as a list
abbrev pub listed : Option Found → List Found
listed None = []
listed (Some fault) = fault ∷ []

-- two refusals are the same: they have one number
abbrev pub same_refusal : Refusal → Refusal → Bool
same_refusal a b = refusal_number a == refusal_number b

-- Blocks.

-- what is wrong with the target of a block: it has no entry
abbrev pub target_fault : Collation → Id → Option Found
target_fault table target =
    about None target (refused_if (not (is_placed table (own_id table.declared target))) TargetNotPlaced None)

-- what is wrong with the lines of a block, in order, from this number on
abbrev pub line_faults : Collation → (number : ℕ) → (before all : List Id) → List OrderLine → List Found
line_faults table number before all [] = []
line_faults table number before all (line ∷ lines) =
    listed (line_fault table number before all line)
    ++ line_faults table (suc number) (before ++ own_id table.declared line.id ∷ []) all lines

-- that a block that is refused so has too many entries
abbrev pub full_faults : Refusal → List Found
full_faults refusal = if same_refusal refusal Full then record { line = None; refusal = Full; id = None } ∷ [] else []

-- the identifiers of the target of a block and of its lines, by own names
abbrev pub block_ids : Collation → Id → List OrderLine → List Id
block_ids table target lines = own_id table.declared target ∷ line_ids (own_lines table.declared lines)

-- what is wrong with the lines of a block, in order
abbrev pub block_line_faults : Collation → Id → List OrderLine → List Found
block_line_faults table target lines =
    line_faults table zero (own_id table.declared target ∷ []) (block_ids table target lines) lines

-- what is wrong with a block that is refused so: with its target, with its lines, and that there would be too many entries
abbrev pub block_faults : Collation → Id → List OrderLine → Refusal → List Found
block_faults table target lines refusal =
    listed (target_fault table target) ++ (block_line_faults table target lines ++ full_faults refusal)

-- Other statements.

-- the fault of a statement that is refused so, about a name
abbrev pub fault_named : Refusal → List ℕ → List Found
fault_named refusal name = listed (about None (Named name) (Some refusal))

-- which name the refusal of a second name is about: that of the symbol, where it is none
abbrev pub equivalence_name : Refusal → (name symbol : List ℕ) → List ℕ
equivalence_name refusal name symbol =
    if same_refusal refusal NotDeclared then symbol else (if same_refusal refusal NotASymbol then symbol else name)

-- which section a refusal to move one after another is about: where one isn't there, the first of them that isn't
abbrev pub section_named : Collation → Refusal → (moved after : List ℕ) → List ℕ
section_named table refusal moved after =
    if same_refusal refusal NoSuchSection && has_name (section_names table.sections) moved then after else moved

-- the faults of a statement that is refused so
abbrev pub refused_faults : Collation → Statement → Refusal → List Found
refused_faults table (statement.Symbol name) refusal = fault_named refusal name
refused_faults table (statement.Element name text) refusal = fault_named refusal name
refused_faults table (statement.Equivalence name symbol) refusal = fault_named refusal (equivalence_name refusal name symbol)
refused_faults table (statement.Block target lines) refusal = block_faults table target lines refusal
refused_faults table (statement.SectionAfter moved after) refusal = fault_named refusal (section_named table refusal moved after)
refused_faults table (statement.Reweight line) refusal = listed (reweight_fault table line)

-- the faults of a statement that a table answers so
abbrev pub answered_faults : Collation → Statement → Result Collation Refusal → List Found
answered_faults table s (Ok after) = []
answered_faults table s (Err refusal) = refused_faults table s refusal

-- all faults of a statement: none where the table accepts it
unfoldable pub faults : Collation → Statement → List Found
faults table s = answered_faults table s (delta table s)

-- the first of these faults that has a refusal
abbrev pub first_with : Refusal → List Found → Option Found
first_with refusal [] = None
first_with refusal (fault ∷ later) = if same_refusal fault.refusal refusal then Some fault else first_with refusal later

-- what a table answers is among the faults that are found
abbrev pub RefusalsAreFound : Type 0
RefusalsAreFound = (table : Collation) (s : Statement) (refusal : Refusal) → IsWellFormed table → delta table s ≡ Err refusal
    → IsTrue (is_some (first_with refusal (faults table s)))
