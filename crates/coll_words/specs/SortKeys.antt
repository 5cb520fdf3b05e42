-- What gives words their keys.
use Rattle.coll_nodes.specs.TableLayout.{TableValue, collation}
use Rattle.coll_ranks.specs.Ranks.{AreRanksOf}
use Rattle.coll_words.specs.LetterKeys.{AreLetterKeys}
use Rattle.coll_words.specs.declared.sort_keys.SortKeys.{SortKeys}
use Rattle.coll_words.specs.declared.sort_keys.SortKeys.TheVariants.{ByRanks, ByLetters}

-- it gives keys by a table as that stands
abbrev pub Give : TableValue → SortKeys → Type 0
Give table (ByRanks ranks) = AreRanksOf ranks (collation table)
Give table (ByLetters letters) = AreLetterKeys table letters
