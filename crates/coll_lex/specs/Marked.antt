-- The marked text of a line: its characters, each plain or made literal by an escape character before it
-- (POSIX.1-2017, 7.3).
use Rattle.std.specs.Prelude.{ℕ, Bool, true, false, if◌then◌else◌, ◌==◌, List, [], ◌∷◌, ◌++◌}

-- a character of a line: as it stands, or escaped
pub data Mark : Type 0 where
  Plain : ℕ → Mark
  Literal : ℕ → Mark

-- the marked text of a physical line: an escape character and the character after it are one literal character,
-- and an escape character at the line's end vanishes; the test says that an escape character stands before
unfoldable pub marks : (escape : ℕ) → (escaped : Bool) → List ℕ → List Mark
marks escape escaped [] = []
marks escape true (c ∷ cs) = Literal c ∷ marks escape false cs
marks escape false (c ∷ cs) = if c == escape then marks escape true cs else Plain c ∷ marks escape false cs

-- the line ends with an escape character that escapes nothing, and so joins the next line
unfoldable pub ends_escaped : (escape : ℕ) → (escaped : Bool) → List ℕ → Bool
ends_escaped escape escaped [] = escaped
ends_escaped escape true (c ∷ cs) = ends_escaped escape false cs
ends_escaped escape false (c ∷ cs) = if c == escape then ends_escaped escape true cs else ends_escaped escape false cs

-- the physical line joins the next one, if no comment has begun in it
abbrev pub is_joined : (escape : ℕ) → List ℕ → Bool
is_joined escape line = ends_escaped escape false line

-- the marked text of physical lines that are joined
unfoldable pub joined_marks : (escape : ℕ) → List (List ℕ) → List Mark
joined_marks escape [] = []
joined_marks escape (line ∷ lines) = marks escape false line ++ joined_marks escape lines
