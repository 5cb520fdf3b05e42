-- The places of names, the ranks of characters and that of UNDEFINED are the ranks of the table.
use Rattle.std.proofs.Common.{sym, ap, subst, ◌∙◌}
use Rattle.coll_syntax.specs.declared.identifiers.Id.TheVariants.{Undefined}
use Rattle.coll_nodes.specs.Table.{Collation}
use Rattle.coll_nodes.specs.TableLayout.{collation}
use Rattle.coll_elements.specs.Rank.{known_rank}
use Rattle.coll_ranks.specs.Ranking.{AreIdRanksOf}
use Rattle.coll_ranks.specs.Ranks.{RanksById}
use Rattle.coll_ranks.proofs.RankingLemmas.{ranks_of_table}
use Rattle.coll_ranks.proofs.ranking.ids_and_weights.Goals as goal

pub returns-clause-ids : goal.returns-clause-ids
returns-clause-ids c =
    subst (λ (ids : RanksById). AreIdRanksOf ids (collation c.args.table.now)) (sym c.new.ensures)
    (ranks_of_table (collation c.args.table.now) _ c.in_ok-names.ensures c.in_ok-characters.ensures.characters
    (c.known_rank-undefined.ensures ∙ ap (λ (t : Collation). known_rank t Undefined) c.new-ranks.ensures))
