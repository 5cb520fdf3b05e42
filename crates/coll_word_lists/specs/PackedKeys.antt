-- Sort keys, packed (the project's own): each number of a key as one number of 32 bits, or in rare cases as three, so that packed
-- keys have the order of the keys.
use Rattle.std.specs.Prelude.{◌≡◌, ℕ, ◌+◌, ◌*◌, ◌/◌, ◌%◌, ◌==◌, nat_lt, min, if◌then◌else◌, List, [], ◌∷◌}
use Rattle.std.specs.List.{flat_map}
use Rattle.coll_ranks.specs.WeightNumbers.{rank_step}
use Rattle.coll_key.specs.TextOrder.{list_order}

-- ranks below this have a number of their own
abbrev pub short_ranks : ℕ
short_ranks = 1_073_741_824

-- what stands for a rank alone, above all positions and the 0 behind a level
abbrev pub packed_rank : ℕ → ℕ
packed_rank rank = rank_step + 2 * rank

-- the number of a rank and more, or of a rank that isn't short: behind its rank, the whole number, in two parts
abbrev pub packed_whole : ℕ → List ℕ
packed_whole n = (packed_rank (min (n / rank_step) short_ranks) + 1) ∷ n / 4_294_967_296 ∷ n % 4_294_967_296 ∷ []

-- the number of a rank, where it is short and nothing was added
abbrev pub packed_above : ℕ → List ℕ
packed_above n =
    if n % rank_step == 0
    then (if nat_lt (n / rank_step) short_ranks then packed_rank (n / rank_step) ∷ [] else packed_whole n)
    else packed_whole n

-- a number of a key: a position, and the 0 behind a level, stand as they are
abbrev pub packed_number : ℕ → List ℕ
packed_number n = if nat_lt n rank_step then n ∷ [] else packed_above n

-- a key
abbrev pub packed_key : List ℕ → List ℕ
packed_key key = flat_map packed_number key

-- packed keys are ordered as the keys are
abbrev pub PackedKeysAreOrderedAlike : Type 0
PackedKeysAreOrderedAlike = (key other : List ℕ) → list_order (packed_key key) (packed_key other) ≡ list_order key other
