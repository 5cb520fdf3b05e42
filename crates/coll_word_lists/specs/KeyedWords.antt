-- Words with their sort keys (the project's own).
use Rattle.std.specs.Prelude.{◌≡◌, ℕ, Bool, List, All, map}
use Rattle.std.specs.List.Sorted.{IsPermutation, IsSortedBy, IsStableBy}
use Rattle.std.specs.Ordering.{is_lt}
use Rattle.coll_nodes.specs.Table.{Collation}
use Rattle.coll_key.specs.SortKey.{key_of}
use Rattle.coll_key.specs.TextOrder.{list_order}
use Rattle.coll_word_lists.specs.PackedKeys.{packed_key}

-- a word, and its sort key, packed
pub record KeyedWord : Type 0 where
  pub text : List ℕ
  pub key : List ℕ

-- the key is the word's by this table
abbrev pub IsKeyed : Collation → KeyedWord → Type 0
IsKeyed table word = word.key ≡ packed_key (key_of table word.text)

-- the keys are those of the words by this table
abbrev pub AreKeyed : Collation → List KeyedWord → Type 0
AreKeyed table words = All (IsKeyed table) words

-- words without their keys
abbrev pub texts_of : List KeyedWord → List (List ℕ)
texts_of words = map (λ word. word.text) words

-- the keys are those that this gives for the texts
abbrev pub AreKeyedBy : (List ℕ → List ℕ) → List KeyedWord → Type 0
AreKeyedBy key words = All (λ word. word.key ≡ key word.text) words

-- the key of a word is less
abbrev pub has_less_key : KeyedWord → KeyedWord → Bool
has_less_key word other = is_lt (list_order word.key other.key)

-- words, sorted by their keys: the same words, none of which has a lesser key than the one before it, and those whose keys are
-- equal stand in the order in which they came
pub record AreSortedByKeys (words sorted : List KeyedWord) : Type 0 where
  pub same : IsPermutation words sorted
  pub ordered : IsSortedBy has_less_key sorted
  pub stable : IsStableBy has_less_key words sorted
