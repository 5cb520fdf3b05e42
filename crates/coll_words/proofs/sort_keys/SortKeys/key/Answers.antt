-- Either way gives the key of the text.
use Rattle.std.proofs.Common.{subst}
use Rattle.coll_words.specs.SortKeys.{Give}
use Rattle.coll_words.proofs.sort_keys.SortKeys.key.Goals as goal

pub key-requires : goal.key-requires
key-requires c = subst (Give c.args.table.now) c.in-ByRanks.is c.requires

pub key-requires-in-ByLetters : goal.key-requires-in-ByLetters
key-requires-in-ByLetters c = subst (Give c.args.table.now) c.in-ByLetters.is c.requires

pub returns-in-ByRanks : goal.returns-in-ByRanks
returns-in-ByRanks c = c.key.ensures.ok

pub returns-in-ByLetters : goal.returns-in-ByLetters
returns-in-ByLetters c = c.key-in-ByLetters.ensures
