-- The entries, and what stands behind them.
use Rattle.std.proofs.Common.{List, ℕ, ◌++◌, codes, ap, rules}
use Rattle.coll_nodes.specs.TableLayout.{collation}
use Rattle.coll_nodes.specs.Walks.{entries_visited}
use Rattle.coll_texts.proofs.PrintedParts.{stops_first, writes_rest}
use Rattle.coll_key.specs.CompiledListing.{listed_undefined}
use Rattle.coll_key.specs.ListingParts.{entries_part, ranked_lines}
use Rattle.coll_key.proofs.ListedLines.{fit_visited, lines_are_listed}
use Rattle.coll_ranks.proofs.RankingLemmas.{few_visited}
use Rattle.coll_key.proofs.listing.write_entries.Goals as goal

pub write_walk-requires-clause-fit : goal.write_walk-requires-clause-fit
write_walk-requires-clause-fit g c = fit_visited (collation c.args.table.now) c.args.ranks.now.compiled.levels c.walk.result c.lemma_well_formed.ensures.well_formed c.requires.levels c.walk.ensures

pub write_walk-requires-clause-few : goal.write_walk-requires-clause-few
write_walk-requires-clause-few g c = few_visited (collation c.args.table.now) c.walk.result c.lemma_well_formed.ensures.well_formed c.walk.ensures

pub returns-in_err-write_walk : goal.returns-in_err-write_walk
returns-in_err-write_walk g c =
    let taken = g.W.Sink.taken in
    let table = collation c.args.table.now in
    let rest = listed_undefined table ++ codes "end\n" in
    record {
      sent = stops_first (taken c.args.out.now) (taken c.write_walk.new.out) (entries_part table) (ranked_lines c.args.ranks.now 1 (entries_visited c.walk.result)) rest c.from_residual.result
          (ap (λ (lines : List ℕ). lines ++ rest) (lines_are_listed c.args.ranks.now table c.requires c.lemma_well_formed.ensures.well_formed c.walk.result c.walk.ensures)) c.from_residual.ensures.0
          c.in_err-write_walk.ensures.sent;
      errors = search rules;
    }

pub returns : goal.returns
returns g c =
    let taken = g.W.Sink.taken in
    let table = collation c.args.table.now in
    let rest = listed_undefined table ++ codes "end\n" in
    record {
      sent = writes_rest (taken c.args.out.now) (taken c.write_walk.new.out) (taken c.write_end.new.out) (entries_part table) (ranked_lines c.args.ranks.now 1 (entries_visited c.walk.result)) rest
          c.write_end.result
          (ap (λ (lines : List ℕ). lines ++ rest) (lines_are_listed c.args.ranks.now table c.requires c.lemma_well_formed.ensures.well_formed c.walk.result c.walk.ensures))
          c.in_ok-write_walk.ensures.sent
          c.write_end.ensures.sent;
      errors = search rules;
    }
