-- Each item that is an entry is one line, with the next rank.
use Rattle.std.proofs.Common.{◌≤◌, ◌+◌, length, refl, sym, subst, ◌∙◌, rules}
use Rattle.coll_devices.proofs.WritingLemmas.{Sends-stopped}
use Rattle.coll_nodes.specs.WalkItems.{visited_by}
use Rattle.coll_nodes.specs.Walks.{entry_visited, entries_visited}
use Rattle.coll_key.specs.ListingParts.{visited_line, ranked_lines}
use Rattle.coll_key.proofs.ListedLines.{fits_later, lines_next}
use Rattle.coll_key.proofs.ListingLemmas.{left_prefix, left_more}
use Rattle.coll_ranks.proofs.RankingLemmas.{counted_visited}
use Rattle.coll_key.proofs.listing.write_walk.Goals as goal

pub returns-in_err-rank : goal.returns-in_err-rank
returns-in_err-rank g c =
    let taken = g.W.Sink.taken in
    let item = visited_by c.in-Some.item in
    let lines = ranked_lines c.args.ranks.now in
    let next = c.walk.rank + length (entry_visited item) in
    record {
      sent = Sends-stopped (taken c.args.out.now) (taken c.write_visited.new.out) (lines 1 (entries_visited c.args.walk)) c.from_residual.result c.from_residual.ensures.0
          (left_prefix (lines 1 (entries_visited c.args.walk)) (lines c.walk.rank (entries_visited c.walk.left)) (visited_line c.args.ranks.now c.walk.rank item)
          (lines next (entries_visited c.next.new.self)) (taken c.args.out.now) (taken c.walk.out) (taken c.write_visited.new.out)
          (lines_next c.args.ranks.now c.walk.rank next c.walk.left c.next.new.self item c.in-Some.ensures.steps refl) c.walk.invariant.sent c.in_err-rank.ensures.writes.sent);
      errors = search rules;
    }

pub walk-preserved : goal.walk-preserved
walk-preserved g c =
    let taken = g.W.Sink.taken in
    let item = visited_by c.in-Some.item in
    let lines = ranked_lines c.args.ranks.now in
    record {
      sent = left_more (lines 1 (entries_visited c.args.walk)) (lines c.walk.rank (entries_visited c.walk.left)) (visited_line c.args.ranks.now c.walk.rank item)
          (lines c.in_ok-rank.rank (entries_visited c.next.new.self)) (taken c.args.out.now) (taken c.walk.out) (taken c.write_visited.new.out)
          (lines_next c.args.ranks.now c.walk.rank c.in_ok-rank.rank c.walk.left c.next.new.self item c.in-Some.ensures.steps c.in_ok-rank.ensures.next) c.walk.invariant.sent
          c.in_ok-rank.ensures.writes.sent;
      count = c.in_ok-rank.ensures.writes.errors ∙ c.walk.invariant.count;
      fit = fits_later c.args.ranks.now.compiled.levels c.walk.left c.next.new.self item c.in-Some.ensures.steps c.walk.invariant.fit;
      few = subst (λ n. n ≤ 1_000_000)
          (sym (counted_visited c.walk.left c.next.new.self item c.walk.rank c.in_ok-rank.rank (c.walk.rank + length (entries_visited c.walk.left)) c.in-Some.ensures.steps c.in_ok-rank.ensures.next
          refl)) c.walk.invariant.few;
    }
