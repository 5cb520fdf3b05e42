-- The lines `comment_char` and `escape_char`, which choose a text's two characters (POSIX.1-2017, 7.3).
use Rattle.std.specs.Prelude.{ℕ, Bool, if◌then◌else◌, ◌==◌, ◌&&◌, nat_eq, List, [], ◌∷◌, length}
use Rattle.std.specs.Prelude.{drop, codes, Option, Some, None, Result, Ok, Err}
use Rattle.std.specs.List.{list_any, starts_with}
use Rattle.coll_lex.specs.Blanks.{past_blanks, begins_apart}
use Rattle.coll_lex.specs.declared.tokens.Chars.{Chars}
use Rattle.coll_lex.specs.declared.faults.LexFault.{LexFault}
use Rattle.coll_lex.specs.declared.faults.LexFault.TheVariants.{BadCharDirective}

-- what follows a word, where the line begins with it and a blank or the line's end comes after it
unfoldable pub operand_of : (word line : List ℕ) → Option (List ℕ)
operand_of word line = if starts_with nat_eq line word && begins_apart (drop (length word) line) then Some (drop (length word) line)
    else None

-- a character that may be made the comment or the escape character
abbrev pub is_allowed : ℕ → Bool
is_allowed c = list_any (λ allowed. allowed == c) (codes "!#$%&'()*+/=?@[\\]^{|}~`")

-- the allowed character that stands here with a blank or the line's end after it
unfoldable pub named_character : List ℕ → Option ℕ
named_character [] = None
named_character (c ∷ rest) = if is_allowed c && begins_apart rest then Some c else None

-- the characters with another comment character, which may not be the escape character
abbrev pub with_comment : Chars → Option ℕ → Result Chars LexFault
with_comment special None = Err BadCharDirective
with_comment special (Some c) = if c == special.escape then Err BadCharDirective else Ok (record special { comment = c })

-- the characters with another escape character, which may not be the comment character
abbrev pub with_escape : Chars → Option ℕ → Result Chars LexFault
with_escape special None = Err BadCharDirective
with_escape special (Some c) = if c == special.comment then Err BadCharDirective else Ok (record special { escape = c })

-- what a directive asks for, by what follows `comment_char` or `escape_char` at the line's prefix
abbrev pub asked : Chars → (comment escape : Option (List ℕ)) → Option (Result Chars LexFault)
asked special (Some operand) escape = Some (with_comment special (named_character (past_blanks operand)))
asked special None (Some operand) = Some (with_escape special (named_character (past_blanks operand)))
asked special None None = None

-- the characters after this line if it is a directive, or its fault; none where it is no directive
unfoldable pub directive : Chars → List ℕ → Option (Result Chars LexFault)
directive special line =
    asked special (operand_of (codes "comment_char") (past_blanks line)) (operand_of (codes "escape_char") (past_blanks line))
