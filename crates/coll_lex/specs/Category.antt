-- The line that begins the category LC_COLLATE (POSIX.1-2017, 7.3.2).
use Rattle.std.specs.Prelude.{ℕ, Bool, true, ◌==◌, ◌&&◌, nat_eq, List, [], ◌∷◌, length, drop, codes}
use Rattle.std.specs.List.{starts_with}
use Rattle.coll_lex.specs.Blanks.{past_blanks}

-- nothing stands there, or a comment begins
abbrev pub is_over : (comment : ℕ) → List ℕ → Bool
is_over comment [] = true
is_over comment (b ∷ bs) = b == comment

-- blanks skipped, the line's first word is LC_COLLATE, with only blanks or a comment after it
unfoldable pub begins_category : (comment : ℕ) → List ℕ → Bool
begins_category comment line =
    starts_with nat_eq (past_blanks line) (codes "LC_COLLATE") && is_over comment
    (past_blanks (drop (length (codes "LC_COLLATE")) (past_blanks line)))
