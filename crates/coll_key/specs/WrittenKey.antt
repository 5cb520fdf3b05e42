-- The written form of a sort key (the project's own), for people to read.
use Rattle.std.specs.Prelude.{ℕ, ◌&&◌, ◌||◌, ◌/◌, ◌%◌, ◌==◌, not, Bool, true, false, if◌then◌else◌, List, [], ◌∷◌, ◌++◌, codes, decimal}
use Rattle.std.specs.List.{flat_map}
use Rattle.coll_lex.specs.Characters.{space}
use Rattle.coll_syntax.specs.declared.rules.Rule.{Rule}
use Rattle.coll_ranks.specs.WeightNumbers.{rank_step}

-- a word with a space before it
abbrev pub behind_space : List ℕ → List ℕ
behind_space word = space ∷ word

-- a word with a space behind it
abbrev pub before_space : List ℕ → List ℕ
before_space word = word ++ space ∷ []

-- words with one space between them
abbrev pub joined_by_spaces : List (List ℕ) → List ℕ
joined_by_spaces [] = []
joined_by_spaces (word ∷ words) = word ++ flat_map behind_space words

-- the word that ends a level
abbrev pub level_end : List ℕ
level_end = codes "|"

-- what is written behind a rank: nothing, or a plus sign and what was added to its number
abbrev pub added_word : ℕ → List ℕ
added_word added = if added == 0 then [] else codes "+" ++ decimal added

-- the word of a number: its rank, and what was added
abbrev pub number_word : ℕ → List ℕ
number_word n = decimal (n / rank_step) ++ added_word (n % rank_step)

-- the word of a position
abbrev pub position_word : ℕ → List ℕ
position_word n = codes "@" ++ decimal n

-- the word of a number at a place where positions stand, or at another
abbrev pub word_of : (at_position : Bool) → ℕ → List ℕ
word_of true n = position_word n
word_of false n = number_word n

-- the words of numbers, from a place where a position stands, or from another; with `position` every other one is a position
abbrev pub words_of : (position at_position : Bool) → List ℕ → List (List ℕ)
words_of position at_position [] = []
words_of position at_position (n ∷ list) = word_of at_position n ∷ words_of position (position && not at_position) list

-- the words of the numbers of a level, and its end
abbrev pub level_words : (position : Bool) → List ℕ → List (List ℕ)
level_words false [] = level_end ∷ []
level_words false (n ∷ list) = number_word n ∷ level_words false list
level_words true [] = level_end ∷ []
level_words true (p ∷ []) = position_word p ∷ level_end ∷ []
level_words true (p ∷ n ∷ list) = position_word p ∷ number_word n ∷ level_words true list

-- the numbers of a key before its first 0
abbrev pub first_level : List ℕ → List ℕ
first_level [] = []
first_level (n ∷ key) = if n == 0 then [] else n ∷ first_level key

-- what stands behind the first 0 of a key
abbrev pub later_levels : List ℕ → List ℕ
later_levels [] = []
later_levels (n ∷ key) = if n == 0 then key else later_levels key

-- the words of a key, level by level
abbrev pub key_words : List Rule → List ℕ → List (List ℕ)
key_words [] key = []
key_words (rule ∷ rules) key = level_words rule.position (first_level key) ++ key_words rules (later_levels key)

-- the written form of a key
unfoldable pub written_key : List Rule → List ℕ → List ℕ
written_key rules key = joined_by_spaces (key_words rules key)

-- a list has an even count of members
abbrev pub is_even : List ℕ → Bool
is_even [] = true
is_even (n ∷ []) = false
is_even (n ∷ m ∷ list) = is_even list

-- a level with `position` has an even count of numbers: each stands behind its position
abbrev pub is_paired : (position : Bool) → List ℕ → Bool
is_paired true list = is_even list
is_paired false list = true

-- a key has a level: numbers with a 0 behind them
abbrev pub has_level : List ℕ → Bool
has_level [] = false
has_level (n ∷ key) = (n == 0) || has_level key

-- a list of numbers has the form of a key: one list for each level, each followed by 0, and nothing behind the last; with
-- `position` its numbers stand in pairs
abbrev pub has_key_form : List Rule → List ℕ → Bool
has_key_form [] [] = true
has_key_form [] (n ∷ key) = false
has_key_form (rule ∷ rules) key = has_level key && (is_paired rule.position (first_level key) && has_key_form rules (later_levels key))
