-- What a plain character is outside symbols and strings.
use Rattle.std.specs.Prelude.{ℕ, Bool, true, false, if◌then◌else◌, ◌==◌}
use Rattle.coll_lex.specs.Characters.{semicolon, comma, quotation_mark}
use Rattle.coll_lex.specs.Blanks.{is_blank}

-- the kinds of characters that are no `<`: all but a letter end a word
pub data Kind : Type 0 where
  Blank : Kind
  Semicolon : Kind
  Comma : Kind
  CommentCharacter : Kind
  QuotationMark : Kind
  Letter : Kind

-- the kind of a character; a comment character that is a blank or a separator too is that, and one that is `"` begins a
-- comment
abbrev pub kind_of : (comment : ℕ) → ℕ → Kind
kind_of comment c = if is_blank c then Blank
    else (if c == semicolon then Semicolon
    else (if c == comma then Comma
    else (if c == comment then CommentCharacter else (if c == quotation_mark then QuotationMark else Letter))))

-- whether a character of this kind ends a word; a symbol does too
abbrev pub ends_word : Kind → Bool
ends_word Blank = true
ends_word Semicolon = true
ends_word Comma = true
ends_word CommentCharacter = true
ends_word QuotationMark = true
ends_word Letter = false
