-- An entry with all its weights written out.
use Rattle.std.specs.Prelude.{ℕ, List, [], ◌∷◌, ◌++◌, codes}
use Rattle.std.specs.List.{flat_map}
use Rattle.coll_syntax.specs.declared.identifiers.Id.{Id}
use Rattle.coll_syntax.specs.declared.weights.Weight.{Weight}
use Rattle.coll_syntax.specs.declared.weights.Weight.TheVariants.{Ignore, Own, Names}
use Rattle.coll_nodes.specs.declared.entries.Entry.{Entry}
use Rattle.coll_texts.specs.PrintedParts.{id_bytes}

-- a list of identifiers behind a mark: the identifier where there is one, and else all between quotation marks
abbrev pub marked_names : (mark : List ℕ) → List Id → List ℕ
marked_names mark [] = mark ++ codes "\"\""
marked_names mark (only ∷ []) = mark ++ id_bytes only
marked_names mark (first ∷ second ∷ later) = mark ++ (codes "\"" ++ (flat_map id_bytes (first ∷ second ∷ later) ++ codes "\""))

-- a weight of the entry of this identifier behind a mark: `IGNORE`, the identifier itself for its own, or those of a list
abbrev pub marked_weight : (mark : List ℕ) → Id → Weight → List ℕ
marked_weight mark owner Ignore = mark ++ codes "IGNORE"
marked_weight mark owner Own = mark ++ id_bytes owner
marked_weight mark owner (Names ids) = marked_names mark ids

-- the weights of the entry of this identifier: a space before the first, and a semicolon before each other; a symbol has none
abbrev pub all_weights : Id → List Weight → List ℕ
all_weights owner [] = []
all_weights owner (weight ∷ weights) = marked_weight (codes " ") owner weight ++ flat_map (marked_weight (codes ";") owner) weights

-- the identifier of an entry with all its weights written out, and the line's end
abbrev pub weighed_line : Entry → List ℕ
weighed_line entry = id_bytes entry.id ++ (all_weights entry.id entry.weights ++ codes "\n")
