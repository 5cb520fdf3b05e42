-- The ranks of a weight are a list behind the others.
use Rattle.std.proofs.Common.{◌∙◌, ap, ◌++◌, ◌∷◌, []}
use Rattle.coll_ranks.proofs.RankListLemmas.{put_behind, put_ends}
use Rattle.coll_ranks.proofs.rank_lists.RankLists.push.Goals as goal

pub invariant_of-self-in-Ok : goal.invariant_of-self-in-Ok
invariant_of-self-in-Ok c =
    put_ends c.self.inside.ranks.items c.self.inside.ends.items _ _ _ c.len.result c.self.invariant c.in-Ok.ensures.ok (c.len.ensures ∙ c.push_weight.new.ranks.ok.0)
    (c.push_reserved.ensures.items ∙ ap (λ ends. ends ++ c.len.result ∷ []) c.in_ok-reserve.ensures.items)

pub returns-in-Ok-clause-ok : goal.returns-in-Ok-clause-ok
returns-in-Ok-clause-ok c =
    rw (← c.self.view_is) (put_behind c.self.inside.ranks.items c.self.inside.ends.items _ _ _ c.len.result c.self.invariant c.in-Ok.ensures.ok (c.len.ensures ∙ c.push_weight.new.ranks.ok.0)
    (c.push_reserved.ensures.items ∙ ap (λ ends. ends ++ c.len.result ∷ []) c.in_ok-reserve.ensures.items))
