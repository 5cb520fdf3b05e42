-- What a statement makes of a table: the table rewritten, or the refusal (the project's own rules, and for weights
-- POSIX.1-2017, 7.3.2.4). The refusals of a statement stand in their order.
use Rattle.std.specs.Prelude.{ℕ, Bool, true, false, ◌&&◌, if◌then◌else◌, nat_le, nat_lt, not, is_some, is_none}
use Rattle.std.specs.Prelude.{List, [], ◌∷◌, ◌++◌, Option, Some, None, Result, Ok, Err, length}
use Rattle.std.specs.List.{flat_map}
use Rattle.std.specs.Option.{option_or}
use Rattle.coll_syntax.specs.Identifier.{same_name, has_name, has_id}
use Rattle.coll_syntax.specs.declared.identifiers.Id.{Id}
use Rattle.coll_syntax.specs.declared.statements.OrderLine.{OrderLine}
use Rattle.coll_syntax.specs.declared.statements.Statement.{Statement}
use Rattle.coll_syntax.specs.declared.statements.Statement.TheVariants as statement
use Rattle.coll_nodes.specs.Table.{has_text}
use Rattle.coll_nodes.specs.Causes.{refused_if}
use Rattle.coll_nodes.specs.Entries.{entry_of, given_weights, weight_ids}
use Rattle.coll_nodes.specs.Limits.{most_declarations, most_entries}
use Rattle.coll_nodes.specs.OwnNames.{means_nothing, means_no_symbol}
use Rattle.coll_nodes.specs.Placement.{without, placed_after, entry_at, with_entry, section_moved}
use Rattle.coll_nodes.specs.Table.{Collation, entries_of, section_names, name_of, text_of, is_declared, is_known, is_placed, is_symbol}
use Rattle.coll_nodes.specs.declared.declarations.Declaration.{Declaration}
use Rattle.coll_nodes.specs.declared.declarations.Declaration.TheVariants as declaration
use Rattle.coll_nodes.specs.declared.entries.Entry.{Entry}
use Rattle.coll_table.specs.OwnStatements.{own_statement}
use Rattle.coll_table.specs.declared.refusals.Refusal.{Refusal}
use Rattle.coll_table.specs.declared.refusals.Refusal.TheVariants.{DeclaredTwice, NotDeclared, SymbolWithWeights, TooManyWeights}
use Rattle.coll_table.specs.declared.refusals.Refusal.TheVariants.{WeightNotPlaced, StringTwice, Full, TargetNotPlaced, TwiceInBlock}
use Rattle.coll_table.specs.declared.refusals.Refusal.TheVariants.{NoSuchSection, SectionAfterItself, NotPlaced, NoWeights, NotASymbol}

-- a table that results, unless a refusal stands before it
abbrev pub unless_refused : Option Refusal → Collation → Result Collation Refusal
unless_refused (Some refusal) table = Err refusal
unless_refused None table = Ok table

-- Weights that a line gives.

-- why a line is refused that gives weights: a collating symbol has none, and there is at most one for each level
abbrev pub weights_refusal : Collation → OrderLine → (later : Option Refusal) → Option Refusal
weights_refusal table line later =
    refused_if (is_symbol table.declared line.id && is_some line.weights) SymbolWithWeights
    (refused_if (nat_lt (length table.rules) (length (given_weights line.weights))) TooManyWeights later)

-- the identifiers in the weights that lines give, in order
abbrev pub ids_given : List OrderLine → List Id
ids_given lines = flat_map (λ (line : OrderLine). flat_map weight_ids (given_weights line.weights)) lines

-- why an identifier may not stand in a weight: it has to be declared as an own name, if it is a name, and placed
abbrev pub weight_id_refusal : Collation → Id → Option Refusal
weight_id_refusal table id =
    refused_if (not (is_known table.declared id)) NotDeclared
    (refused_if (not (is_placed table id)) WeightNotPlaced None)

-- why identifiers may not stand in weights, by the first of them that may not
abbrev pub weight_ids_refusal : Collation → List Id → Option Refusal
weight_ids_refusal table [] = None
weight_ids_refusal table (id ∷ ids) = option_or (weight_id_refusal table id) (weight_ids_refusal table ids)

-- the table that lines result in, unless a weight that they give names what may not stand there; it is looked up in the table
-- that results, so it may name what these lines place
abbrev pub looked_up : Collation → List OrderLine → Result Collation Refusal
looked_up table lines = unless_refused (weight_ids_refusal table (ids_given lines)) table

-- Blocks.

-- why a line of a block is refused, from the identifiers of the target and of the lines before it
abbrev pub line_refusal : Collation → List Id → OrderLine → Option Refusal
line_refusal table before line =
    refused_if (has_id before line.id) TwiceInBlock
    (refused_if (not (is_known table.declared line.id)) NotDeclared
    (weights_refusal table line None))

-- why the lines of a block are refused, by the first line that is
abbrev pub lines_refusal : Collation → List Id → List OrderLine → Option Refusal
lines_refusal table before [] = None
lines_refusal table before (line ∷ lines) =
    option_or (line_refusal table before line) (lines_refusal table (before ++ line.id ∷ []) lines)

-- the entry that stands, where no weights are given for it
abbrev pub standing : Bool → Option Entry → Entry → Entry
standing true (Some entry) new = entry
standing true None new = new
standing false entry new = new

-- the entry that a line of a block places: with the weights that it gives, and where it gives none the one that stands; a new
-- one has its own weight at each level, and none if it is a collating symbol
abbrev pub block_entry : Collation → OrderLine → Entry
block_entry table line =
    standing (is_none line.weights) (entry_at (entries_of table) line.id) (entry_of (length table.rules) table.declared line)

-- the table with the entry of a line moved, or newly placed, directly after the target
abbrev pub moved : Collation → Id → OrderLine → Collation
moved table target line = record table { sections = placed_after (without table.sections line.id) target (block_entry table line) }

-- the table with the entry of each line of a block moved, or newly placed: the first after the target, each further one after
-- the line before
abbrev pub all_moved : Collation → Id → List OrderLine → Collation
all_moved table target [] = table
all_moved table target (line ∷ lines) = all_moved (moved table target line) line.id lines

-- the table that a block results in, unless it has too many entries, or a weight names what may not stand there
abbrev pub block_result : Collation → List OrderLine → Result Collation Refusal
block_result table lines = if nat_le (length (entries_of table)) most_entries then looked_up table lines else Err Full

-- a result, unless a refusal stands before it
abbrev pub or_refused : Option Refusal → Result Collation Refusal → Result Collation Refusal
or_refused (Some refusal) result = Err refusal
or_refused None result = result

-- the delta of a block
abbrev pub block_delta : Collation → Id → List OrderLine → Result Collation Refusal
block_delta table target lines =
    if not (is_placed table target) then Err TargetNotPlaced
    else or_refused (lines_refusal table (target ∷ []) lines) (block_result (all_moved table target lines) lines)

-- Declarations.

-- why a declaration is refused; the declaration of a second name has the own name of its symbol already, so it means nothing where
-- that name isn't declared
abbrev pub declaration_refusal : Collation → Declaration → Option Refusal
declaration_refusal table new =
    refused_if (is_declared table.declared (name_of new)) DeclaredTwice
    (refused_if (means_nothing table.declared new) NotDeclared
    (refused_if (means_no_symbol table.declared new) NotASymbol
    (refused_if (has_text table.declared (text_of new)) StringTwice
    (refused_if (nat_le most_declarations (length table.declared)) Full None))))

-- the delta of a declaration: it stands behind all others
abbrev pub declaration_delta : Collation → Declaration → Result Collation Refusal
declaration_delta table new =
    unless_refused (declaration_refusal table new) (record table { declared = table.declared ++ new ∷ [] })

-- Sections.

-- why a section isn't moved: both have names that sections have, and it can't stand after itself
abbrev pub section_refusal : Collation → (name after : List ℕ) → Option Refusal
section_refusal table name after =
    refused_if (not (has_name (section_names table.sections) name && has_name (section_names table.sections) after)) NoSuchSection
    (refused_if (same_name name after) SectionAfterItself None)

-- the delta of a section that is moved, whole, directly after another
abbrev pub section_delta : Collation → (name after : List ℕ) → Result Collation Refusal
section_delta table name after =
    unless_refused (section_refusal table name after) (record table { sections = section_moved table.sections name after })

-- Order lines outside a block.

-- why an order line outside a block is refused
abbrev pub reweight_refusal : Collation → OrderLine → Option Refusal
reweight_refusal table line =
    refused_if (not (is_known table.declared line.id)) NotDeclared
    (refused_if (not (is_placed table line.id)) NotPlaced
    (refused_if (is_none line.weights) NoWeights
    (weights_refusal table line None)))

-- the table with the weights of an entry replaced
abbrev pub reweighted : Collation → OrderLine → Collation
reweighted table line = record table { sections = with_entry table.sections (entry_of (length table.rules) table.declared line) }

-- the delta of an order line outside a block: the weights of the entry are replaced, and it stays where it is
abbrev pub reweight_delta : Collation → OrderLine → Result Collation Refusal
reweight_delta table line = or_refused (reweight_refusal table line) (looked_up (reweighted table line) (line ∷ []))

-- the table rewritten by a statement of own names, or the refusal
unfoldable pub own_delta : Collation → Statement → Result Collation Refusal
own_delta table (statement.Symbol name) = declaration_delta table (declaration.Symbol name)
own_delta table (statement.Element name text) = declaration_delta table (declaration.Element name text)
own_delta table (statement.Equivalence name symbol) = declaration_delta table (declaration.Equivalence name symbol)
own_delta table (statement.Block target lines) = block_delta table target lines
own_delta table (statement.SectionAfter name after) = section_delta table name after
own_delta table (statement.Reweight line) = reweight_delta table line

-- the table rewritten by a statement, or the refusal: what it states by own names
unfoldable pub delta : Collation → Statement → Result Collation Refusal
delta table s = own_delta table (own_statement table s)
