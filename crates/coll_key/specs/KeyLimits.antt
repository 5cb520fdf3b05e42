-- The limit of texts, as a number. The constant of the code is proved to be this (`limits_are_stated`).
use Rattle.std.specs.Prelude.{ℕ, nat_lt, Bool, List, length}

-- the most characters of a text
abbrev pub most_text_characters : ℕ
most_text_characters = 65_536

-- a text is too long to have a key
abbrev pub is_too_long : List ℕ → Bool
is_too_long text = nat_lt most_text_characters (length text)
