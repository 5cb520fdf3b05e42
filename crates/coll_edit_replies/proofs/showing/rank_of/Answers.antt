-- Each entry that is passed is another one.
use Rattle.std.proofs.Common.{◌≡◌, ◌+◌, ◌≤◌, length, ap, ◌∙◌, subst, arith}
use Rattle.coll_nodes.specs.Table.{entries_of}
use Rattle.coll_nodes.specs.TableLayout.{collation}
use Rattle.coll_nodes.specs.Walks.{entries_visited}
use Rattle.coll_texts.proofs.VisitedEntries.{visited_all}
use Rattle.coll_edit_replies.proofs.ShowingLemmas.{counted_none}
use Rattle.coll_edit_replies.proofs.showing.rank_of.Goals as goal

pub walk-init : goal.walk-init
walk-init c =
    let table = collation c.args.table.now in
    let all : entries_visited c.walk-left.result ≡ entries_of table = ap entries_visited c.walk-left.ensures ∙ visited_all table.sections in
    record {
      counted = counted_none (entries_of table) (entries_visited c.walk-left.result) c.args.id.now all;
      few = subst (λ n. n ≤ 262_144) (let same : length (entries_of table) ≡ 0 + length (entries_visited c.walk-left.result) = omega (arith, ap length all) in same)
          c.lemma_well_formed.ensures.well_formed.built.few_entries;
    }
