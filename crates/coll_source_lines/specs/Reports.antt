-- What is told of an import.
use Rattle.std.specs.Prelude.{◌≡◌, ◌+◌, ◌-◌, ◌^◌, ◌==◌, ◌&&◌, Bool, nat_lt, if◌then◌else◌, min}
use Rattle.std.specs.Prelude.{List, find, Option, Some, None}
use Rattle.coll_source_lines.specs.Adjustments.{same_kind}
use Rattle.coll_source_lines.specs.declared.places.SourcePlace.{SourcePlace}
use Rattle.coll_source_lines.specs.declared.adjustments.Adjustment.{Adjustment}
use Rattle.coll_source_lines.specs.declared.adjustments.Tally.{Tally}
use Rattle.coll_source_lines.specs.declared.adjustments.Loss.{Loss}

-- how often each kind of change was made, each kind once, and what was lost, in the order in which it was met
pub record ReportValue : Type 0 where
  pub tallies : List Tally
  pub losses : List Loss

-- a tally is of this kind
abbrev pub is_of : Adjustment → Tally → Bool
is_of kind tally = same_kind tally.adjustment kind

-- the tally of a kind, if there is one: the first
abbrev pub tally_of : List Tally → Adjustment → Option Tally
tally_of tallies kind = find (is_of kind) tallies

-- where a change is told: at the place told before, or at another one of the same text that stands before that
abbrev pub earlier_place : (told place : SourcePlace) → SourcePlace
earlier_place told place = if (place.text == told.text) && nat_lt place.line told.line then place else told

-- one change more of a kind, behind those that are counted; 2 to the power 32, less one, are the most that are counted
abbrev pub one_more : Adjustment → SourcePlace → Option Tally → Tally
one_more kind place None = record { adjustment = kind; first = place; count = 1 }
one_more kind place (Some tally) =
    record { adjustment = kind; first = earlier_place tally.first place; count = min (tally.count + 1) (2 ^ 32 - 1) }

-- a change is counted: there is one more of its kind, and as many as before of each other kind
abbrev pub CountsOne : (old new : List Tally) → Adjustment → SourcePlace → Type 0
CountsOne old new changed place =
    (kind : Adjustment) → tally_of new kind
    ≡ (if same_kind kind changed then Some (one_more changed place (tally_of old kind)) else tally_of old kind)
