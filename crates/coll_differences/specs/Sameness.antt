-- When two weights, two entries and what two walks visit are the same, as tests.
use Rattle.std.specs.Prelude.{Bool, true, false, ◌&&◌, List, [], ◌∷◌}
use Rattle.std.specs.Bool.{beq}
use Rattle.coll_syntax.specs.Identifier.{same_name, same_id}
use Rattle.coll_syntax.specs.declared.rules.Rule.{Rule}
use Rattle.coll_syntax.specs.declared.weights.Weight.{Weight}
use Rattle.coll_syntax.specs.declared.weights.Weight.TheVariants.{Ignore, Own, Names}
use Rattle.coll_nodes.specs.Walks.{Visited, VisitedSection, VisitedEntry}
use Rattle.coll_nodes.specs.declared.declarations.Declaration.{Declaration}
use Rattle.coll_nodes.specs.declared.declarations.Declaration.TheVariants.{Symbol, Element, Equivalence}
use Rattle.coll_nodes.specs.declared.entries.Entry.{Entry}

-- two lists are as long, and the same member by member
abbrev pub same_list : {X : Type 0} → (X → X → Bool) → List X → List X → Bool
same_list same [] [] = true
same_list same [] (y ∷ ys) = false
same_list same (x ∷ xs) [] = false
same_list same (x ∷ xs) (y ∷ ys) = same x y && same_list same xs ys

-- two rules are the same
abbrev pub same_rule : Rule → Rule → Bool
same_rule rule other = beq rule.backward other.backward && beq rule.position other.position

-- two weights are the same
abbrev pub same_weight : Weight → Weight → Bool
same_weight Ignore Ignore = true
same_weight Ignore Own = false
same_weight Ignore (Names ids) = false
same_weight Own Ignore = false
same_weight Own Own = true
same_weight Own (Names ids) = false
same_weight (Names ids) Ignore = false
same_weight (Names ids) Own = false
same_weight (Names ids) (Names others) = same_list same_id ids others

-- so are two lists of weights
abbrev pub same_weights : List Weight → List Weight → Bool
same_weights weights others = same_list same_weight weights others

-- two entries have the same identifier and the same weights
abbrev pub same_entry : Entry → Entry → Bool
same_entry entry other = same_id entry.id other.id && same_weights entry.weights other.weights

-- two walks visit the same
abbrev pub same_visited : Visited → Visited → Bool
same_visited (VisitedSection name) (VisitedSection other) = same_name name other
same_visited (VisitedSection name) (VisitedEntry other) = false
same_visited (VisitedEntry entry) (VisitedSection other) = false
same_visited (VisitedEntry entry) (VisitedEntry other) = same_entry entry other

-- two declarations are of one kind, and declare the same
abbrev pub same_declaration : Declaration → Declaration → Bool
same_declaration (Symbol name) (Symbol other) = same_name name other
same_declaration (Symbol name) (Element other others) = false
same_declaration (Symbol name) (Equivalence other others) = false
same_declaration (Element name text) (Symbol other) = false
same_declaration (Element name text) (Element other others) = same_name name other && same_name text others
same_declaration (Element name text) (Equivalence other others) = false
same_declaration (Equivalence name symbol) (Symbol other) = false
same_declaration (Equivalence name symbol) (Element other others) = false
same_declaration (Equivalence name symbol) (Equivalence other others) = same_name name other && same_name symbol others
