-- A line of a text as a terminal shows it, of which a part is marked (the project's own).
use Rattle.std.specs.Prelude.{ℕ, ◌+◌, ◌-◌, ◌%◌, ◌==◌, ◌||◌, ◌&&◌, nat_le, min, max, Bool, if◌then◌else◌, List, [], ◌∷◌, ◌++◌, length, take, drop, replicate}
use Rattle.std.specs.Prelude.{chars, decimal, encode_utf8_all}
use Rattle.std.specs.Str.Lossy.{utf8_lossy}
use Rattle.coll_lex.specs.Characters.{space, tab}

-- most columns of a line that is shown
abbrev pub most_columns : ℕ
most_columns = 200

-- how many columns are shown before a mark, where the line is too long to be shown whole
abbrev pub columns_before : ℕ
columns_before = 20

-- how far the columns are apart to which a tab goes
abbrev pub tab_columns : ℕ
tab_columns = 8

-- what a mark is made of
abbrev pub mark_column : ℕ
mark_column = 94

-- what stands for bytes that are no UTF-8, and for a character that a terminal obeys
abbrev pub replacement : ℕ
replacement = 65533

-- a character is one of these two, or between them
abbrev pub is_between : (first last c : ℕ) → Bool
is_between first last c = nat_le first c && nat_le c last

-- a terminal obeys this character, or shows nothing for it: control characters; what joins letters, marks or turns a direction; the
-- separators of lines and paragraphs; and a byte order mark
abbrev pub is_obeyed : ℕ → Bool
is_obeyed c =
    is_between 0 31 c || (is_between 127 159 c || ((c == 1564) || (is_between 8203 8207 c || (is_between 8232 8238 c
    || (is_between 8288 8303 c || (c == 65279))))))

-- a character as it is shown
abbrev pub visible : ℕ → ℕ
visible c = if is_obeyed c then replacement else c

-- the columns of a character before which so many stand: a tab goes to the next one that is a multiple of eight
abbrev pub columns_at : (before : ℕ) → ℕ → List ℕ
columns_at before c = if c == tab then replicate (tab_columns - before % tab_columns) space else visible c ∷ []

-- the columns of characters, behind those that stand before them
abbrev pub columns_behind : (columns : List ℕ) → List ℕ → List ℕ
columns_behind columns [] = columns
columns_behind columns (c ∷ cs) = columns_behind (columns ++ columns_at (length columns) c) cs

-- the columns of bytes, behind those that stand before them
abbrev pub with_bytes : (columns : List ℕ) → List ℕ → List ℕ
with_bytes columns bytes = columns_behind columns (chars (utf8_lossy bytes))

-- the first column that is shown of so many, where a mark begins behind so many
abbrev pub first_shown : (start count : ℕ) → ℕ
first_shown start count = if nat_le count most_columns then 0 else min (start - columns_before) (count - most_columns)

-- how many columns a mark has that begins and ends behind so many, of which the first are not shown: one at least
abbrev pub marked_columns : (first start end : ℕ) → ℕ
marked_columns first start end = max 1 (min (end - start) (most_columns - (start - first)))

-- A line in three parts, of which the second is marked.

-- the columns before the mark; those, and the marked ones; and all
abbrev pub start_columns : (before : List ℕ) → List ℕ
start_columns before = with_bytes [] before

abbrev pub end_columns : (before marked : List ℕ) → List ℕ
end_columns before marked = with_bytes (start_columns before) marked

abbrev pub all_columns : (before marked after : List ℕ) → List ℕ
all_columns before marked after = with_bytes (end_columns before marked) after

-- the first column that is shown
abbrev pub first_of : (before marked after : List ℕ) → ℕ
first_of before marked after = first_shown (length (start_columns before)) (length (all_columns before marked after))

-- what is shown of the line
unfoldable pub shown_line : (before marked after : List ℕ) → List ℕ
shown_line before marked after =
    encode_utf8_all (take most_columns (drop (first_of before marked after) (all_columns before marked after)))

-- what stands below it: blanks, and the mark
unfoldable pub mark_line : (before marked after : List ℕ) → List ℕ
mark_line before marked after =
    replicate (length (start_columns before) - first_of before marked after) space
    ++ replicate (marked_columns (first_of before marked after) (length (start_columns before)) (length (end_columns before marked))) mark_column

-- the blanks below the number of a line, and below the three blanks around it
abbrev pub margin_below : (number : ℕ) → List ℕ
margin_below number = replicate (length (decimal number) + 3) space
