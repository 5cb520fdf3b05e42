-- What the walk gives are the ranks of the table, and its weights: those of UNDEFINED, and then those of all entries.
use Rattle.std.proofs.Common.{length, sym, ap, subst, ◌∙◌}
use Rattle.coll_syntax.specs.Identifier.{same_id}
use Rattle.coll_syntax.specs.declared.identifiers.Id.TheVariants.{Undefined}
use Rattle.coll_nodes.specs.Table.{Collation, entries_of, ids_of}
use Rattle.coll_nodes.specs.TableLayout.{collation}
use Rattle.coll_nodes.specs.Walks.{entries_visited}
use Rattle.coll_nodes.specs.WellFormed.{AreDistinct}
use Rattle.coll_texts.proofs.VisitedEntries.{visited_all}
use Rattle.coll_elements.specs.Rank.{known_rank}
use Rattle.coll_ranks.specs.Ranks.{compiled_row_by}
use Rattle.coll_ranks.specs.WeightNumbers.{undefined_weights}
use Rattle.coll_ranks.proofs.RankingLemmas.{few_visited, characters_of_table, weights_of_table}
use Rattle.coll_ranks.proofs.ranking.ranked_and_compiled.Goals as goal

pub put_walk-requires-clause-few : goal.put_walk-requires-clause-few
put_walk-requires-clause-few c = few_visited _ _ c.lemma_well_formed.ensures.well_formed c.walk.ensures

pub put_walk-requires-clause-whole : goal.put_walk-requires-clause-whole
put_walk-requires-clause-whole c =
    ap entries_visited c.walk.ensures ∙ (visited_all (collation c.args.table.now).sections ∙ ap entries_of (sym (c.in_ok-recent.ensures ∙ c.requires)))

pub put_walk-requires-clause-distinct : goal.put_walk-requires-clause-distinct
put_walk-requires-clause-distinct c =
    subst (λ (t : Collation). AreDistinct same_id (ids_of (entries_of t))) (sym (c.in_ok-recent.ensures ∙ c.requires)) c.lemma_well_formed.ensures.well_formed.built.distinct_entries

pub returns-clause-characters : goal.returns-clause-characters
returns-clause-characters c =
    characters_of_table (collation c.args.table.now) c.in_ok-characters.characters c.walk.result c.lemma_well_formed.ensures.well_formed c.walk.ensures c.in_ok-characters.ensures.ranks

pub returns-clause-lists : goal.returns-clause-lists
returns-clause-lists c =
    let same = ap (λ (t : Collation). compiled_row_by (known_rank t) (length (collation c.args.table.now).rules) Undefined (undefined_weights (collation c.args.table.now)))
    (sym c.in_ok-recent.ensures) in
    weights_of_table (collation c.args.table.now) c.in_ok-recent.recent c.walk.result _ _ _ (c.in_ok-recent.ensures ∙ c.requires) c.walk.ensures c.in_ok-weights.ensures.levels
    (c.in_ok-weights.ensures.lists ∙ same) c.in_ok-characters.ensures.rows.lists_are
