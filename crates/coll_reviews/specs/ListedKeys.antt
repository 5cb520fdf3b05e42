-- Words of a list, with keys beside them.
use Rattle.std.specs.Prelude.{◌≡◌, List, All}
use Rattle.coll_nodes.specs.Table.{Collation}
use Rattle.coll_key.specs.SortKey.{key_of}
use Rattle.coll_reviews.specs.ListedWords.{numbered_of}
use Rattle.coll_word_lists.specs.PackedKeys.{packed_key}
use Rattle.coll_reviews.specs.declared.listed_keys.KeyedListed.{KeyedListed}
use Rattle.coll_reviews.specs.declared.listed_words.ListedWord.{ListedWord}

-- the word of the list
abbrev pub word_of : KeyedListed → ListedWord
word_of keyed = keyed.listed

-- the key is that of the word by this table
abbrev pub HasKey : Collation → KeyedListed → Type 0
HasKey table keyed = keyed.key.key ≡ packed_key (key_of table (numbered_of keyed.listed).text)

abbrev pub HaveKeys : Collation → List KeyedListed → Type 0
HaveKeys table keyed = All (HasKey table) keyed
