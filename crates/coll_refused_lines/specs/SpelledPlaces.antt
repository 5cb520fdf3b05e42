-- Where in a line what a fault is about is spelled (the project's own).
use Rattle.std.specs.Prelude.{ℕ, ◌≤◌, List, length}
use Rattle.coll_refused_lines.specs.declared.spelled_places.Place.{Place}

-- a part of a line
pub record IsPartOf (line : List ℕ) (place : Place) : Type 0 where
  pub ordered : place.start ≤ place.end
  pub within : place.end ≤ length line
