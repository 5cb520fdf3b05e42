-- There are as many lists as ends.
use Rattle.std.proofs.Common.{◌∙◌}
use Rattle.coll_ranks.proofs.RankListLemmas.{count_lists}
use Rattle.coll_ranks.proofs.rank_lists.RankLists.len.Goals as goal

pub returns : goal.returns
returns c = rw (← c.self.view_is) (c.len.ensures ∙ (c.self.inside.ends.ok.0 ∙ count_lists 0 c.self.inside.ranks.items c.self.inside.ends.items))
