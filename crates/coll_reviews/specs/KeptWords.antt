-- The words of a review, as the code keeps them: with their keys at first, and then without.
use Rattle.std.specs.Prelude.{List, All}
use Rattle.coll_nodes.specs.Table.{Collation}
use Rattle.coll_word_lists.specs.KeyedWords.{IsKeyed}
use Rattle.coll_word_lists.specs.Neighbours.{NumberedWord}
use Rattle.coll_reviews.specs.declared.numbered_words.KeptWord.{KeptWord}
use Rattle.coll_reviews.specs.declared.numbered_words.KeyedLine.{KeyedLine}

-- a word with its line, without its key
abbrev pub keyed_line : KeyedLine → NumberedWord
keyed_line keyed = record { line = keyed.line; text = keyed.word.text }

abbrev pub kept_line : KeptWord → NumberedWord
kept_line kept = record { line = kept.line; text = kept.text }

-- the keys are those of the words by this table
abbrev pub AreLinesByKeys : Collation → List KeyedLine → Type 0
AreLinesByKeys table list = All (λ (keyed : KeyedLine). IsKeyed table keyed.word) list
