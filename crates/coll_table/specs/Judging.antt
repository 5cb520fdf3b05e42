-- What is counted and looked up of a block while it is judged, before any of its lines is placed, and what memory that takes (the
-- project's own).
use Rattle.std.specs.Prelude.{◌≡◌, ℕ, Bool, false, ◌||◌, not, List, [], ◌∷◌, Option, None, All, map, filter, length}
use Rattle.std.specs.Option.{option_or}
use Rattle.coll_syntax.specs.Identifier.{has_id}
use Rattle.coll_syntax.specs.declared.identifiers.Id.{Id}
use Rattle.coll_syntax.specs.declared.statements.OrderLine.{OrderLine}
use Rattle.coll_syntax.specs.declared.statements.Statement.{Statement}
use Rattle.coll_syntax.specs.declared.statements.Statement.TheVariants as statement
use Rattle.coll_nodes.specs.Causes.{refused_if}
use Rattle.coll_nodes.specs.Table.{Collation, is_known, is_placed}
use Rattle.coll_statements.specs.OwnStatements.{uses_second}
use Rattle.coll_table.specs.OwnStatements.{own_statement}
use Rattle.coll_table.specs.declared.refusals.Refusal.{Refusal}
use Rattle.coll_table.specs.declared.refusals.Refusal.TheVariants.{NotDeclared, WeightNotPlaced}

-- the number of lines that place an entry which isn't placed yet
abbrev pub entries_added : Collation → List OrderLine → ℕ
entries_added table lines = length (filter (λ (line : OrderLine). not (is_placed table line.id)) lines)

-- the identifiers of lines, in order
abbrev pub line_ids : List OrderLine → List Id
line_ids lines = map (λ (line : OrderLine). line.id) lines

-- two lists have the same identifiers
abbrev pub HaveSame : List Id → List Id → Type 0
HaveSame ids others = (id : Id) → has_id ids id ≡ has_id others id

-- why an identifier may not stand in a weight of a table, where these are placed, too
abbrev pub id_refusal : Collation → (more : List Id) → Id → Option Refusal
id_refusal table more id =
    refused_if (not (is_known table.declared id)) NotDeclared
    (refused_if (not (is_placed table id || has_id more id)) WeightNotPlaced None)

-- why the first of identifiers that may not stand in a weight may not
abbrev pub ids_refusal : Collation → (more : List Id) → List Id → Option Refusal
ids_refusal table more [] = None
ids_refusal table more (id ∷ ids) = option_or (id_refusal table more id) (ids_refusal table more ids)

-- the identifier of each of these lines may stand in a weight, where these are placed, too
abbrev pub MayNameOwn : Collation → (more : List Id) → List OrderLine → Type 0
MayNameOwn table more lines = All (λ (line : OrderLine). id_refusal table more line.id ≡ None) lines

-- memory may be taken to judge a statement of own names: that of a block whose target is placed, for the identifiers of its
-- lines, and no other
abbrev pub own_judging_takes_memory : Collation → Statement → Bool
own_judging_takes_memory table (statement.Symbol name) = false
own_judging_takes_memory table (statement.Element name text) = false
own_judging_takes_memory table (statement.Equivalence name symbol) = false
own_judging_takes_memory table (statement.Block target lines) = is_placed table target
own_judging_takes_memory table (statement.SectionAfter name after) = false
own_judging_takes_memory table (statement.Reweight line) = false

-- memory may be taken to judge a statement: where it uses a second name, for a copy by own names, and for what it states by these
abbrev pub judging_takes_memory : Collation → Statement → Bool
judging_takes_memory table s = uses_second table.declared s || own_judging_takes_memory table (own_statement table s)
