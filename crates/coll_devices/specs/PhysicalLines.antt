-- The physical lines of a text, as POSIX.1-2017, 3.206, has a line; a text may end without a line feed.
use Rattle.std.specs.Prelude.{◌≢◌, ◌==◌, ℕ, if◌then◌else◌, List, [], ◌∷◌, ◌++◌, All}
use Rattle.std.specs.Io.BufRead.{strip_last}
use Rattle.std.specs.List.{flat_map}

-- the byte that ends a line
abbrev pub line_feed : ℕ
line_feed = 10

-- the byte that may stand before a line feed
abbrev pub carriage_return : ℕ
carriage_return = 13

-- no line feed stands among these bytes
abbrev pub IsInLine : List ℕ → Type 0
IsInLine bytes = All (λ c. c ≢ line_feed) bytes

-- the lines with one more byte at the front of the first, which is made where there is none
abbrev pub with_first : ℕ → List (List ℕ) → List (List ℕ)
with_first c [] = (c ∷ []) ∷ []
with_first c (line ∷ lines) = (c ∷ line) ∷ lines

-- the text cut at each line feed; bytes after the last line feed, if any, are a last line
unfoldable pub lines_of : List ℕ → List (List ℕ)
lines_of [] = []
lines_of (c ∷ cs) = if c == line_feed then [] ∷ lines_of cs else with_first c (lines_of cs)

-- lines with their line feeds, one after another
abbrev pub with_feeds : List (List ℕ) → List ℕ
with_feeds lines = flat_map (λ line. line ++ line_feed ∷ []) lines

-- the line without one carriage return at its end
unfoldable pub without_return : List ℕ → List ℕ
without_return line = strip_last carriage_return line
