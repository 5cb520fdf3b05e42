-- How a lexer's fields show where it stands, and what its open line keeps.
use Rattle.std.specs.Prelude.{◌≡◌, ℕ, ◌+◌, ◌≤◌, false, List, [], ◌∷◌, ◌++◌, map, chars, All, IsUtf8, Vec}
use Rattle.std.specs.Option.{option_map, ForSome}
use Rattle.std.specs.declared.alloc.Global.{Global}
use Rattle.coll_lex.specs.Marked.{Mark, joined_marks}
use Rattle.coll_lex.specs.Tokens.{reading_of}
use Rattle.coll_lex.specs.Scanning.{reading_left}
use Rattle.coll_lex.specs.LogicalLines.{OpenLine, LexerState}
use Rattle.coll_lex.specs.declared.logical_lines.Open.{Open}
use Rattle.coll_lex.specs.declared.logical_lines.Lexer.TheInside.{Inside}
use Rattle.coll_lex.specs.declared.tokens.Chars.{Chars}
use Rattle.coll_devices.specs.Limits.{most_line_bytes}
use Rattle.coll_lex.specs.Limits.{most_lines}

-- the physical lines that are stored
abbrev pub lines_in : List (Vec ℕ Global) → List (List ℕ)
lines_in stored = map (λ (line : Vec ℕ Global). line.items) stored

-- the logical line that is open, without the scan's own state
abbrev pub line_in : Open → OpenLine
line_in o = record { number = o.number; lines = lines_in o.lines.items; bytes = o.bytes }

-- a logical line with this number and no physical line yet
abbrev pub empty_line : ℕ → OpenLine
empty_line number = record { number = number; lines = []; bytes = 0 }

-- the open line with one more physical line, of which this many bytes were handed in
abbrev pub added : OpenLine → (line : List ℕ) → (bytes : ℕ) → OpenLine
added o line bytes = record { number = o.number; lines = o.lines ++ line ∷ []; bytes = o.bytes + bytes }

-- the state that the fields show
abbrev pub state_of : Inside → LexerState
state_of l = record { special = l.special; count = l.count; line = option_map line_in l.open }

-- the physical lines of an open line are text; its scan has read them, and stands at the beginning of the next one
pub record IsSoundOpen (special : Chars) (o : Open) : Type 0 where
  pub reads : (ms : List Mark) → reading_of special.comment (joined_marks special.escape (map chars (lines_in o.lines.items)) ++ ms)
      ≡ reading_left special.comment o.scan ms
  pub text : All IsUtf8 (lines_in o.lines.items)
  pub unescaped : o.scan.escaped ≡ false
  pub short : o.bytes ≤ most_line_bytes

-- the count is within the limit of lines, and an open line is sound
pub record IsSoundLexer (l : Inside) : Type 0 where
  pub counted : l.count ≤ most_lines
  pub opened : ForSome l.open (IsSoundOpen l.special)
