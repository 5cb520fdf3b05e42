-- What the keys of words are made by.
use Rattle.coll_nodes.specs.NodeNumbers.{AreNumbersOf}
use Rattle.coll_nodes.specs.TableLayout.{TableValue, collation}
use Rattle.coll_ranks.specs.Ranks.{AreRanksOf}
use Rattle.coll_edit_replies.specs.declared.word_keys.WordKeys.{WordKeys}
use Rattle.coll_edit_replies.specs.declared.word_keys.WordKeys.TheVariants.{ByNumbers, ByRanks}

-- it serves a table as that stands
abbrev pub Serves : WordKeys → TableValue → Type 0
Serves (ByNumbers numbers) table = AreNumbersOf numbers.now table.layout
Serves (ByRanks ranks) table = AreRanksOf ranks (collation table)
