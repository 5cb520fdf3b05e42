-- The words of a text, one a line (the project's own).
use Rattle.std.specs.Prelude.{ℕ, suc, if◌then◌else◌, List, [], ◌∷◌, ◌++◌, length, chars, encode_utf8_all}
use Rattle.std.specs.Prelude.{Option, Some, None, Result, Ok, Err}
use Rattle.std.specs.List.{flat_map}
use Rattle.std.specs.Str.{is_utf8}
use Rattle.coll_devices.specs.PhysicalLines.{line_feed, lines_of, without_return}
use Rattle.coll_lex.specs.LogicalLines.{line_fault}
use Rattle.coll_lex.specs.declared.faults.LexFault.{LexFault}
use Rattle.coll_lex.specs.declared.faults.LexFault.TheVariants as lex
use Rattle.coll_key.specs.KeyLimits.{is_too_long}
use Rattle.coll_key.specs.declared.key_faults.KeyFault.TheVariants as key
use Rattle.coll_bench.specs.BatchOutcome.{fault_in, unless_faulty}
use Rattle.coll_faults.specs.declared.faults.Fault.TheVariants as fault
use Rattle.coll_faults.specs.declared.faults.RunFault.{RunFault}

-- a word of the line with this number, unless it is too long to have a key (no line that is short enough has one)
abbrev pub unless_long : (number : ℕ) → List ℕ → Result (List ℕ) RunFault
unless_long number word = if is_too_long word then Err (fault_in 0 number (fault.Key key.TextTooLong)) else Ok word

-- the word of the line with this number
abbrev pub word_at : (number : ℕ) → List ℕ → Result (List ℕ) RunFault
word_at number line = if is_utf8 line then unless_long number (chars line) else Err (fault_in 0 number (fault.Lex lex.NotUtf8))

-- the word of the line with this number, unless that is too long or one too many
abbrev pub unless_at_fault : (number : ℕ) → Option LexFault → Result (List ℕ) RunFault → Result (List ℕ) RunFault
unless_at_fault number None word = word
unless_at_fault number (Some f) word = Err (fault_in 0 number (fault.Lex f))

-- the word of a line, where so many lines came before it, or its fault; a carriage return at the end is no part of it
unfoldable pub line_word : (before : ℕ) → (line : List ℕ) → Result (List ℕ) RunFault
line_word before line = unless_at_fault (suc before) (line_fault before (length line)) (word_at (suc before) (without_return line))

-- words, and what later lines are
abbrev pub behind : (words : List (List ℕ)) → Result (List (List ℕ)) RunFault → Result (List (List ℕ)) RunFault
behind words (Ok later) = Ok (words ++ later)
behind words (Err f) = Err f

-- the words of lines, where so many lines came before them, or the fault of the first that has one
unfoldable pub words_from : (before : ℕ) → (lines : List (List ℕ)) → Result (List (List ℕ)) RunFault
words_from before [] = Ok []
words_from before (line ∷ lines) = unless_faulty (line_word before line) (λ word. behind (word ∷ []) (words_from (suc before) lines))

-- the words of a text, or the fault of its first line that has one
abbrev pub words_of : (text : List ℕ) → Result (List (List ℕ)) RunFault
words_of text = words_from 0 (lines_of text)

-- a word as it is written, with its line feed
abbrev pub written_word : List ℕ → List ℕ
written_word word = encode_utf8_all word ++ line_feed ∷ []

-- words as they are written, one a line
abbrev pub written_words : List (List ℕ) → List ℕ
written_words words = flat_map written_word words
