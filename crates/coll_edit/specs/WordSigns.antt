-- A line of `edit` in which a `#` within a word is a character of that word (the project's own).
use Rattle.std.specs.Prelude.{ℕ, Bool, ◌==◌, ◌||◌, if◌then◌else◌, List, [], ◌∷◌, ◌++◌}
use Rattle.coll_lex.specs.Blanks.{is_blank}
use Rattle.coll_lex.specs.Characters.{backslash, comma, greater_than, less_than, number_sign, quotation_mark, semicolon}
use Rattle.coll_edit.specs.declared.word_signs.Before.{Before}
use Rattle.coll_edit.specs.declared.word_signs.Before.TheVariants as before

-- no word goes on behind a blank, nor behind what begins, ends or parts operands
abbrev pub parts_words : ℕ → Bool
parts_words byte = is_blank byte || (byte == quotation_mark) || (byte == comma) || (byte == semicolon) || (byte == less_than) || (byte == greater_than)

-- what stands before the byte behind this one
abbrev pub behind : Before → ℕ → Before
behind before.Escape byte = before.Word
behind before.Word byte = if byte == backslash then before.Escape else (if parts_words byte then before.Apart else before.Word)
behind before.Apart byte = if byte == backslash then before.Escape else (if parts_words byte then before.Apart else before.Word)

-- a byte, behind an escape character if it is a `#` within a word
abbrev pub put_sign : Before → ℕ → List ℕ
put_sign before.Word byte = if byte == number_sign then backslash ∷ byte ∷ [] else byte ∷ []
put_sign before.Escape byte = byte ∷ []
put_sign before.Apart byte = byte ∷ []

-- a line with an escape character before each `#` within a word, behind what stands before it
unfoldable pub with_signs : Before → List ℕ → List ℕ
with_signs stands [] = []
with_signs stands (byte ∷ bytes) = put_sign stands byte ++ with_signs (behind stands byte) bytes
