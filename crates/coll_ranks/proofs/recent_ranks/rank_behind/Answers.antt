-- The entry behind so many others has the next rank.
use Rattle.std.proofs.Common.{sym, ◌∙◌}
use Rattle.coll_ranks.proofs.RecentLemmas.{met_rank}
use Rattle.coll_ranks.proofs.recent_ranks.rank_behind.Goals as goal

pub returns-then-is_same : goal.returns-then-is_same
returns-then-is_same c =
    let h = c.in_ok-entry.ensures.lookup in
    met_rank c.args.entries.now c.args.before c.in_ok-entry.field-0.now c.args.id.now _ c.checked_add.result h.3.0 (h.3.1 _) (sym c.is_same.ensures ∙ c.if-is_same.true) c.checked_add.ensures
