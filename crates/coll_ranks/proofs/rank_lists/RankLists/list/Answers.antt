-- A list stands between two ends.
use Rattle.std.proofs.Common.{◌∙◌, ◌≤◌, ◌-◌, length, take, drop, sym, ap, subst}
use Rattle.coll_ranks.proofs.RankListLemmas.{stands_between, no_list}
use Rattle.coll_ranks.proofs.rank_lists.RankLists.list.Goals as goal

pub piece-requires : goal.piece-requires
piece-requires c =
    let h = c.in-Some.ensures.lookup in
    let between = stands_between c.self.inside.ranks.items c.self.inside.ends.items c.deref.result.now c.deref-in-Some-2.result.now c.args.place c.start.result c.in-Some.end.now c.self.invariant
    c.deref.ensures.value c.deref-in-Some-2.ensures.value h.3.0 (h.3.1 0) c.start.ensures in
    record { order = between.order; within = subst (λ n. c.in-Some.end.now ≤ n) (ap length (sym c.deref-in-Some.ensures.value)) between.within }

pub returns-in-Some : goal.returns-in-Some
returns-in-Some c =
    let same = ap (λ ranks. take (c.in-Some.end.now - c.start.result) (drop c.start.result ranks)) c.deref-in-Some.ensures.value in
    let h = c.in-Some.ensures.lookup in
    rw (← c.self.view_is) (c.piece.ensures
    ∙ (same ∙ (stands_between c.self.inside.ranks.items c.self.inside.ends.items _ _ c.args.place _ _ c.self.invariant c.deref.ensures.value c.deref-in-Some-2.ensures.value h.3.0 (h.3.1 0)
    c.start.ensures).piece))

pub returns-in-None : goal.returns-in-None
returns-in-None c =
    let behind = subst (λ ends. length ends ≤ c.args.place) c.deref.ensures.value c.in-None.ensures.lookup.3 in
    rw (← c.self.view_is) (sym (no_list 0 c.self.inside.ranks.items c.self.inside.ends.items c.args.place behind))
