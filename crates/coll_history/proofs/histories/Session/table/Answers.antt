-- The table that is kept is the replay of what remains.
use Rattle.std.proofs.Common.{sym, ap, ◌∙◌}
use Rattle.coll_history.specs.Histories.{table_now, SessionValue}
use Rattle.coll_history.specs.Kept.{uncounted}
use Rattle.coll_history.proofs.HistoryLemmas.{replayed}
use Rattle.coll_history.proofs.HistorySteps.{collation_uncounted}
use Rattle.coll_history.proofs.histories.Session.table.Goals as goal

pub returns-clause-table : goal.returns-clause-table
returns-clause-table c =
    sym (collation_uncounted c.self.inside.table)
    ∙ sym (replayed (uncounted c.self.inside.table) c.self.inside.remaining.items c.self.invariant.leads)
    ∙ ap (λ (v : SessionValue). table_now v.history) c.self.view_is
