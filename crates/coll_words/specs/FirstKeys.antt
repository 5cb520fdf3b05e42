-- What words are sorted by first (the project's own): the first level of their keys, where that is looked at from the front and its
-- numbers stand without positions; else the whole keys.
use Rattle.std.specs.Prelude.{ℕ, Bool, false, if◌then◌else◌, not, ◌||◌, List, [], ◌∷◌}
use Rattle.coll_syntax.specs.declared.rules.Rule.{Rule}
use Rattle.coll_nodes.specs.Table.{Collation}
use Rattle.coll_key.specs.SortKey.{key_of}
use Rattle.coll_key.specs.TextOrder.{level_lists}
use Rattle.coll_word_lists.specs.KeyedWords.{KeyedWord, AreKeyedBy}
use Rattle.coll_word_lists.specs.PackedKeys.{packed_key}

-- the first level is looked at from the front, and its numbers stand without positions
abbrev pub begins_plainly : List Rule → Bool
begins_plainly [] = false
begins_plainly (rule ∷ rules) = not (rule.backward || rule.position)

-- the first of some lists
abbrev pub first_list : List (List ℕ) → List ℕ
first_list [] = []
first_list (list ∷ lists) = list

-- what a text is sorted by first
abbrev pub first_key : Collation → List ℕ → List ℕ
first_key table text = if begins_plainly table.rules then first_list (level_lists table text) else key_of table text

-- the same, packed
abbrev pub packed_first_key : Collation → List ℕ → List ℕ
packed_first_key table text = packed_key (first_key table text)

-- words have as keys what they are sorted by first
abbrev pub AreFirstKeyed : Collation → List KeyedWord → Type 0
AreFirstKeyed table words = AreKeyedBy (packed_first_key table) words
