-- The lines that tell what a statement did to a file of words (the project's own).
use Rattle.std.specs.Prelude.{ℕ, Bool, nat_lt, not, ◌==◌, ◌||◌, if◌then◌else◌, List, [], ◌∷◌, ◌++◌, length, take}
use Rattle.std.specs.Prelude.{codes, decimal, encode_utf8}
use Rattle.std.specs.List.{flat_map}
use Rattle.coll_lex.specs.Characters.{space, quotation_mark, slash, less_than, greater_than}
use Rattle.coll_syntax.specs.declared.statements.Statement.{Statement}
use Rattle.coll_texts.specs.Pieces.{words_line}
use Rattle.coll_texts.specs.PrintedParts.{char_bytes}
use Rattle.coll_bench.specs.Replies.{history_line}
use Rattle.coll_word_lists.specs.Neighbours.{NumberedWord, WordPair, only_in}

-- a character that stands for itself in a string, where the escape character is `/` or `\`: no control character, and none with a meaning
abbrev pub is_plain : ℕ → Bool
is_plain c =
    not (nat_lt c space || (c == 127) || (c == quotation_mark) || (c == slash) || (c == less_than) || (c == greater_than) || (c == 92))

-- a character of a string: itself, or by its code point
abbrev pub quoted_char : ℕ → List ℕ
quoted_char c = if is_plain c then encode_utf8 c else char_bytes c

-- how many of the new pairs are told
abbrev pub most_told : ℕ
most_told = 5

-- the line that counts the pairs of neighbours that are neighbours no longer
abbrev pub parted_line : ℕ → List ℕ
parted_line count = words_line (codes "parted" ∷ decimal count ∷ [])

-- the line of two words that are neighbours now and weren't
abbrev pub joined_line : WordPair → List ℕ
joined_line pair =
    codes "joined \"" ++ (flat_map quoted_char pair.0.text ++ (codes "\" \"" ++ (flat_map quoted_char pair.1.text ++ codes "\"\n")))

-- what is told of a statement with its number, by the lists of the words before and after it
unfoldable pub statement_told : ℕ → Statement → (old new : List NumberedWord) → List ℕ
statement_told number statement old new =
    history_line number statement
    ++ (parted_line (length (only_in old new)) ++ flat_map joined_line (take most_told (only_in new old)))

-- the last line: how many statements were put, and how many words there are
abbrev pub review_line : (statements words : ℕ) → List ℕ
review_line statements words = words_line (codes "review" ∷ decimal statements ∷ decimal words ∷ [])
