-- What a delta file can be written of, so that it is read back.
use Rattle.std.specs.Prelude.{◌≡◌, ℕ, ◌≤◌, ◌&&◌, not, nat_le, Bool, true, false, List, [], ◌∷◌, length, All, Option, Some, None}
use Rattle.std.specs.List.{list_all}
use Rattle.std.specs.Str.{all_scalars}
use Rattle.coll_lex.specs.Characters.{space}
use Rattle.coll_lex.specs.Names.{AreCharacters}
use Rattle.coll_syntax.specs.Proper.{IsProper, is_proper}
use Rattle.coll_syntax.specs.Weights.{is_own}
use Rattle.coll_syntax.specs.declared.weights.Weight.{Weight}
use Rattle.coll_syntax.specs.declared.statements.OrderLine.{OrderLine}
use Rattle.coll_syntax.specs.declared.statements.Statement.{Statement}
use Rattle.coll_syntax.specs.declared.statements.Statement.TheVariants as statement

-- one weight, which is the entry's own: no order line gives it, since behind the identifier nothing would stand
abbrev pub is_own_alone : List Weight → Bool
is_own_alone [] = false
is_own_alone (only ∷ []) = is_own only
is_own_alone (first ∷ second ∷ later) = false

-- weights that an order line can give, if it gives any: at most four, and not an own one alone
abbrev pub AreGiven : Option (List Weight) → Type 0
AreGiven None = Unit {0}
AreGiven (Some weights) = (length weights ≤ 4) × (is_own_alone weights ≡ false)

-- an order line whose weights can be given
abbrev pub GivesWeights : OrderLine → Type 0
GivesWeights line = AreGiven line.weights

-- the order lines of a statement, if it has any, can give their weights
abbrev pub GivesAllWeights : Statement → Type 0
GivesAllWeights (statement.Symbol name) = Unit {0}
GivesAllWeights (statement.Element name text) = Unit {0}
GivesAllWeights (statement.Equivalence name symbol) = Unit {0}
GivesAllWeights (statement.Block target lines) = All GivesWeights lines
GivesAllWeights (statement.SectionAfter moved after) = Unit {0}
GivesAllWeights (statement.Reweight line) = GivesWeights line

-- a statement that can be written: it is proper, and its order lines can give their weights
abbrev pub IsWritable : Statement → Type 0
IsWritable s = IsProper s × GivesAllWeights s

-- the name of a copy that can be written: at most 4,096 characters, and no control character below the space among them
abbrev pub IsCopyName : List ℕ → Type 0
IsCopyName name = (length name ≤ 4096) × All (λ c. space ≤ c) name × AreCharacters name

-- The same as tests.

-- whether an order line can give these weights, if it gives any
abbrev pub are_given : Option (List Weight) → Bool
are_given None = true
are_given (Some weights) = nat_le (length weights) 4 && not (is_own_alone weights)

-- whether an order line can give its weights
abbrev pub gives_weights : OrderLine → Bool
gives_weights line = are_given line.weights

-- whether all order lines of a statement can
abbrev pub gives_all_weights : Statement → Bool
gives_all_weights (statement.Symbol name) = true
gives_all_weights (statement.Element name text) = true
gives_all_weights (statement.Equivalence name symbol) = true
gives_all_weights (statement.Block target lines) = list_all gives_weights lines
gives_all_weights (statement.SectionAfter moved after) = true
gives_all_weights (statement.Reweight line) = gives_weights line

-- whether a statement can be written
abbrev pub is_writable : Statement → Bool
is_writable s = is_proper s && gives_all_weights s

-- whether a character is no control character below the space
abbrev pub is_above_controls : ℕ → Bool
is_above_controls c = nat_le space c

-- whether this can be written as the name of a copy
abbrev pub is_copy_name : List ℕ → Bool
is_copy_name name = nat_le (length name) 4096 && list_all is_above_controls name && all_scalars name
