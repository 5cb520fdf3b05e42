-- The lines that tell what differs between two tables (the project's own).
use Rattle.std.specs.Prelude.{ℕ, Bool, if◌then◌else◌, List, [], ◌∷◌, ◌++◌, Option, Some, None, is_some}
use Rattle.std.specs.Prelude.{codes, decimal, count_by, vec_len, encode_utf8_all}
use Rattle.std.specs.List.{flat_map}
use Rattle.std.specs.Borrow.{Bor}
use Rattle.coll_devices.specs.PhysicalLines.{line_feed}
use Rattle.coll_syntax.specs.declared.rules.Rule.{Rule}
use Rattle.coll_nodes.specs.declared.declarations.Declaration.{Declaration}
use Rattle.coll_nodes.specs.declared.declarations.Declaration.TheVariants.{Symbol, Element, Equivalence}
use Rattle.coll_nodes.specs.declared.entries.Entry.{Entry}
use Rattle.coll_texts.specs.CanonicalText.{spelled_rule}
use Rattle.coll_texts.specs.PrintedParts.{char_bytes, id_bytes, symbol_bytes}
use Rattle.coll_texts.specs.WeighedEntries.{weighed_line}
use Rattle.coll_differences.specs.declared.orders.Point.{Point}
use Rattle.coll_differences.specs.declared.changes.Change.{Change}
use Rattle.coll_differences.specs.declared.changes.Change.TheVariants.{Removed, Added, Moved}
use Rattle.coll_differences.specs.declared.differences.Differences.{Differences}
use Rattle.coll_differences.specs.Changes.{is_removal, is_addition, is_move}
use Rattle.coll_differences.specs.Orders.{Mark, Declares, Begins, Stands, mark_of}

-- the end of a line
abbrev pub line_end : List ℕ
line_end = line_feed ∷ []

-- Rules.

-- a rule, with a space before it
abbrev pub rule_word : Rule → List ℕ
rule_word rule = codes " " ++ encode_utf8_all (spelled_rule rule [])

-- the line of rules, where they are others: those of the second table
abbrev pub rules_told : Option (Bor (List Rule)) → List ℕ
rules_told None = []
rules_told (Some rules) = codes "rules" ++ (flat_map rule_word rules.now ++ line_end)

-- Points of a list.

-- a declaration, as its line in a table
abbrev pub declaration_told : Declaration → List ℕ
declaration_told (Symbol name) = codes "collating-symbol " ++ symbol_bytes name
declaration_told (Element name text) =
    codes "collating-element " ++ (symbol_bytes name ++ (codes " from \"" ++ (flat_map char_bytes text ++ codes "\"")))
declaration_told (Equivalence name symbol) = codes "symbol-equivalence " ++ (symbol_bytes name ++ (codes " " ++ symbol_bytes symbol))

-- a point: a declaration, the beginning of a section by its name, or the identifier of an entry
abbrev pub mark_told : Mark → List ℕ
mark_told (Declares declaration) = declaration_told declaration
mark_told (Begins name) = codes "section " ++ symbol_bytes name
mark_told (Stands id) = id_bytes id

-- a point behind a word
abbrev pub worded : (word : List ℕ) → Mark → List ℕ
worded word mark = word ++ mark_told mark

-- what a point stands behind, and the end of the line
abbrev pub behind_told : Option Point → List ℕ
behind_told None = codes " first\n"
behind_told (Some behind) = worded (codes " behind ") (mark_of behind) ++ line_end

-- the line of a change: what is removed, or what is added or moved to where it stands in the second table
abbrev pub change_told : Change → List ℕ
change_told (Removed point) = worded (codes "removed ") (mark_of point) ++ line_end
change_told (Added point behind) = worded (codes "added ") (mark_of point) ++ behind_told behind
change_told (Moved point behind) = worded (codes "moved ") (mark_of point) ++ behind_told behind

-- Weights.

-- the line of an entry with other weights: its identifier, and the weights that it has in the second table
abbrev pub weights_told : Entry → List ℕ
weights_told entry = codes "weights " ++ weighed_line entry

-- that of a borrowed one
abbrev pub lent_weights_told : Bor Entry → List ℕ
lent_weights_told entry = weights_told entry.now

-- The last line.

-- one, or none
abbrev pub one_if : Bool → ℕ
one_if b = if b then 1 else 0

-- the counts of all lines before it: of rules, of declarations, of each kind of change of the order, and of weights
abbrev pub counts_told : Differences → List ℕ
counts_told told =
    codes "differences rules " ++ (decimal (one_if (is_some told.rules)) ++ (codes " declarations " ++ (decimal (vec_len told.declarations)
    ++ (codes " removed " ++ (decimal (count_by is_removal told.changes.items)
    ++ (codes " added " ++ (decimal (count_by is_addition told.changes.items)
    ++ (codes " moved " ++ (decimal (count_by is_move told.changes.items)
    ++ (codes " weights " ++ (decimal (vec_len told.weights) ++ line_end)))))))))))

-- All lines.

-- the lines of all differences, in the order of the second table but for what that has not, and then their counts
unfoldable pub differences_told : Differences → List ℕ
differences_told told =
    rules_told told.rules
    ++ (flat_map change_told told.declarations.items
    ++ (flat_map change_told told.changes.items ++ (flat_map lent_weights_told told.weights.items ++ counts_told told)))

-- what is told of two tables: that they are the same, or what differs
abbrev pub difference_told : Option Differences → List ℕ
difference_told None = codes "same\n"
difference_told (Some told) = differences_told told
