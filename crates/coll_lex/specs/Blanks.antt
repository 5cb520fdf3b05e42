-- Blanks, which are skipped between the words of a line.
use Rattle.std.specs.Prelude.{ℕ, Bool, true, if◌then◌else◌, ◌==◌, ◌||◌, List, [], ◌∷◌}
use Rattle.coll_lex.specs.Characters.{space, tab}

-- a blank: a space or a tab
abbrev pub is_blank : ℕ → Bool
is_blank c = (c == space) || (c == tab)

-- the line without the blanks that it begins with
unfoldable pub past_blanks : List ℕ → List ℕ
past_blanks [] = []
past_blanks (b ∷ bs) = if is_blank b then past_blanks bs else b ∷ bs

-- nothing stands there, or a blank comes first
abbrev pub begins_apart : List ℕ → Bool
begins_apart [] = true
begins_apart (b ∷ bs) = is_blank b
