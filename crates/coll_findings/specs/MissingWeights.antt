-- Whether an order line gives weights for few of the levels (the project's own).
use Rattle.std.specs.Prelude.{ℕ, ◌-◌, nat_lt, Bool, false, List, length, Option, None, Some}
use Rattle.coll_syntax.specs.declared.statements.OrderLine.{OrderLine}
use Rattle.coll_syntax.specs.declared.weights.Weight.{Weight}

-- of so many levels more than one have none of these weights, if weights are given
abbrev pub are_missing : (levels : ℕ) → Option (List Weight) → Bool
are_missing levels None = false
are_missing levels (Some weights) = nat_lt 1 (levels - length weights)

-- a line gives weights, and none for more than one of so many levels
abbrev pub lacks_weights : (levels : ℕ) → OrderLine → Bool
lacks_weights levels line = are_missing levels line.weights
