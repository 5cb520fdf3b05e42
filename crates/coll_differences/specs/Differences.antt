-- What differs between two tables (the project's own).
use Rattle.std.specs.Prelude.{◌≡◌, ◌≢◌, List, Option, Some, None, map}
use Rattle.std.specs.Borrow.{Bor}
use Rattle.coll_syntax.specs.declared.rules.Rule.{Rule}
use Rattle.coll_nodes.specs.declared.entries.Entry.{Entry}
use Rattle.coll_nodes.specs.Table.{Collation, entries_of}
use Rattle.coll_differences.specs.declared.differences.Differences.{Differences}
use Rattle.coll_differences.specs.Changes.{Rearranges}
use Rattle.coll_differences.specs.Orders.{marks_declared, marks_in}
use Rattle.coll_differences.specs.Weights.{all_reweighted}

-- what is told of rules: nothing where they are the same, and else those of the second table
abbrev pub TellsRules : (first second : List Rule) → Option (Bor (List Rule)) → Type 0
TellsRules first second None = first ≡ second
TellsRules first second (Some rules) = (first ≢ second) × (rules.now ≡ second)

-- these are the differences of two tables: the rules of the second where they are others; what makes the declarations of the second
-- of those of the first; what makes its order of that of the first; and the entries of the second that the first has with other
-- weights
pub record AreDifferences (first second : Collation) (told : Differences) : Type 0 where
  pub rules : TellsRules first.rules second.rules told.rules
  pub declarations : Rearranges (marks_declared first) (marks_declared second) told.declarations.items
  pub order : Rearranges (marks_in first) (marks_in second) told.changes.items
  pub weights : map (λ (entry : Bor Entry). entry.now) told.weights.items ≡ all_reweighted (entries_of first) (entries_of second)
