-- What is wrong with an order line, and which identifier that is about (the project's own). A line is judged as the delta of a table
-- judges it, by own names; what is told is the identifier as the line has it.
use Rattle.std.specs.Prelude.{ℕ, List, [], ◌∷◌, Option, Some, None}
use Rattle.std.specs.List.{flat_map}
use Rattle.std.specs.Option.{option_or}
use Rattle.coll_syntax.specs.declared.identifiers.Id.{Id}
use Rattle.coll_syntax.specs.declared.statements.OrderLine.{OrderLine}
use Rattle.coll_nodes.specs.Entries.{given_weights, weight_ids}
use Rattle.coll_nodes.specs.OwnNames.{own_id}
use Rattle.coll_nodes.specs.Table.{Collation}
use Rattle.coll_statements.specs.OwnStatements.{own_line}
use Rattle.coll_table.specs.Delta.{line_refusal, reweight_refusal}
use Rattle.coll_table.specs.Judging.{id_refusal}
use Rattle.coll_table.specs.declared.refusals.Refusal.{Refusal}
use Rattle.coll_advice.specs.declared.found.Found.{Found}

-- a fault about an identifier, at a line of a block if at one, where there is a refusal
abbrev pub about : (place : Option ℕ) → Id → Option Refusal → Option Found
about place id None = None
about place id (Some refusal) = Some (record { line = place; refusal = refusal; id = Some id })

-- the identifiers in the weights of a line, in order
abbrev pub ids_in : OrderLine → List Id
ids_in line = flat_map weight_ids (given_weights line.weights)

-- what is wrong with identifiers in weights, where more is placed: the first of them that may not stand there
abbrev pub ids_fault : Collation → (place : Option ℕ) → (more : List Id) → List Id → Option Found
ids_fault table place more [] = None
ids_fault table place more (id ∷ ids) =
    option_or (about place id (id_refusal table more (own_id table.declared id))) (ids_fault table place more ids)

-- what is wrong with a line of a block, from the identifiers of the target and of the lines before it, and those of all lines: that
-- it isn't placed, or what its weights name
abbrev pub line_fault : Collation → (number : ℕ) → (before all : List Id) → OrderLine → Option Found
line_fault table number before all line =
    option_or (about (Some number) line.id (line_refusal table before (own_line table.declared line)))
    (ids_fault table (Some number) all (ids_in line))

-- what is wrong with an order line outside of a block: that it doesn't change an entry, or what its weights name
abbrev pub reweight_fault : Collation → OrderLine → Option Found
reweight_fault table line =
    option_or (about None line.id (reweight_refusal table (own_line table.declared line)))
    (ids_fault table None [] (ids_in line))
