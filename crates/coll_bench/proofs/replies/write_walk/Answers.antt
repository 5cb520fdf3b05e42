-- What was written so far and the lines of what is still to be met are the whole listing.
use Rattle.std.proofs.Common.{◌≡◌, ◌≤◌, ◌+◌, ◌++◌, [], ℕ, List, length, refl, sym, ap, ◌∙◌, subst, append_assoc, append-nil, arith, rules}
use Rattle.std.proofs.KnownBytes.{Appends-nil, Appends-trans}
use Rattle.coll_devices.proofs.WritingLemmas.{AppendsPrefix-after, AppendsPrefix-before}
use Rattle.coll_devices.specs.Devices.{AppendsPrefix}
use Rattle.coll_nodes.specs.TableLayout.{collation}
use Rattle.coll_nodes.specs.Walks.{Visited, visited}
use Rattle.coll_nodes.specs.WalkItems.{visited_by}
use Rattle.coll_bench.specs.Replies.{listed_sections}
use Rattle.coll_bench.specs.Listing.{listed_visited, visited_line, rank_after}
use Rattle.coll_bench.proofs.ListingLemmas.{sections_listed, length-visited, visited_more, visited_none, rank-after}
use Rattle.coll_bench.proofs.replies.write_walk.Goals as goal

pub loop-item-init : goal.loop-item-init
loop-item-init g c =
    let sections = (collation c.args.table.now).sections in
    let all : c.into_iter-item-iterator.result ≡ visited sections = c.into_iter-item-iterator.ensures.into_iter_gives ∙ c.walk-item-items.ensures in
    record {
      sent = ([], sym (ap (listed_visited 1) all ∙ sections_listed 1 sections), Appends-nil _);
      count = refl;
      bound = subst (λ (ms : List Visited). 1 + length ms ≤ 263169) (sym all)
          (omega (arith, length-visited sections, c.lemma_well_formed.ensures.well_formed.built.few_entries, c.lemma_well_formed.ensures.well_formed.built.few_sections));
    }

pub write_visited-requires : goal.write_visited-requires
write_visited-requires g c = omega (arith, c.loop-item.invariant.bound)

pub loop-item-preserved : goal.loop-item-preserved
loop-item-preserved g c =
    let taken = g.W.Sink.taken in
    let done = c.loop-item.invariant.sent in
    let first = visited_by c.in-Some.item in
    let line = visited_line c.loop-item.rank first in
    let later = listed_visited c.in-Ok.next c.next.new.self in
    let whole = done.1 ∙ ap (λ (l : List ℕ). done.0 ++ l) (visited_more c.loop-item.rank c.in-Ok.next first c.loop-item.item-iterator c.next.new.self c.in-Some.ensures.steps c.in-Ok.ensures.rank) in
    record {
      sent = (
        done.0 ++ line,
        whole ∙ sym (append_assoc done.0 line later),
        Appends-trans (taken c.args.out.now) (taken c.loop-item.out) (taken c.write_visited.new.out) done.0 line done.2 c.in-Ok.ensures.sent,
      );
      count = c.in-Ok.ensures.errors ∙ c.loop-item.invariant.count;
      bound = omega (arith, c.loop-item.invariant.bound, ap (λ (ms : List Visited). length ms) c.in-Some.ensures.steps, c.in-Ok.ensures.rank, rank-after c.loop-item.rank first);
    }

pub returns-in-Err : goal.returns-in-Err
returns-in-Err g c =
    record {
      sent = let taken = g.W.Sink.taken in
          let done = c.loop-item.invariant.sent in
          let first = visited_by c.in-Some.item in
          let line = visited_line c.loop-item.rank first in
          let later = listed_visited (rank_after c.loop-item.rank first) c.next.new.self in
          let whole = done.1 ∙ ap (λ (l : List ℕ). done.0 ++ l)
          (visited_more c.loop-item.rank (rank_after c.loop-item.rank first) first c.loop-item.item-iterator c.next.new.self c.in-Some.ensures.steps refl) in
          subst (AppendsPrefix (taken c.args.out.now) (taken c.write_visited.new.out)) (sym whole)
          (AppendsPrefix-after (taken c.args.out.now) (taken c.loop-item.out) (taken c.write_visited.new.out) done.0 (line ++ later) done.2
          (AppendsPrefix-before (taken c.loop-item.out) (taken c.write_visited.new.out) line later c.in-Err.ensures.sent));
      errors = search rules;
    }

pub returns : goal.returns
returns g c =
    record {
      sent = let taken = g.W.Sink.taken in
          let done = c.loop-item.invariant.sent in
          let whole : listed_sections 1 (collation c.args.table.now).sections ≡ done.0 =
          done.1 ∙ ap (λ (l : List ℕ). done.0 ++ l) (visited_none c.loop-item.rank c.loop-item.item-iterator c.in-None.ensures.steps.0) ∙ append-nil done.0 in
          rw whole done.2;
      errors = search rules;
    }
