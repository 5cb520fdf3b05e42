-- What tells ranks and orders.
use Rattle.coll_nodes.specs.NodeNumbers.{AreNumbersOf}
use Rattle.coll_nodes.specs.TableLayout.{TableValue, collation}
use Rattle.coll_ranks.specs.Ranks.{AreRanksOf}
use Rattle.coll_explanations.specs.declared.rank_looks.RankLooks.{RankLooks}
use Rattle.coll_explanations.specs.declared.rank_looks.RankLooks.TheVariants.{ByNumbers, ByRanks}

-- it serves a table as that stands
abbrev pub Serves : RankLooks → TableValue → Type 0
Serves (ByNumbers numbers) table = AreNumbersOf numbers.now table.layout
Serves (ByRanks ranks) table = AreRanksOf ranks (collation table)
