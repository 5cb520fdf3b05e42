-- A line of a text by its number (the project's own).
use Rattle.std.specs.Prelude.{◌≡◌, ℕ, ◌-◌, ◌<◌, List, [], length, get_or}
use Rattle.coll_devices.specs.PhysicalLines.{lines_of, without_return}

-- this line stands in a text as the one with this number, from 1, but for the carriage return at its end
pub record IsLineAt (text : List ℕ) (number : ℕ) (line : List ℕ) : Type 0 where
  pub there : number - 1 < length (lines_of text)
  pub is : line ≡ without_return (get_or (lines_of text) (number - 1) [])
