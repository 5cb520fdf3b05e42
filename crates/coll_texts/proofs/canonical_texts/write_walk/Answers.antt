-- Each item is one line.
use Rattle.std.proofs.Common.{◌∙◌, rules}
use Rattle.coll_texts.specs.PrintedParts.{visited_bytes}
use Rattle.coll_nodes.specs.WalkItems.{visited_by}
use Rattle.coll_texts.proofs.PrintedParts.{written_prefix, written_more}
use Rattle.coll_texts.proofs.canonical_texts.write_walk.Goals as goal

pub returns-in-Err : goal.returns-in-Err
returns-in-Err g c =
    let taken = g.W.Sink.taken in
    record {
      sent = written_prefix visited_bytes c.args.walk c.walk.left c.next.new.self (visited_by c.in-Some.item) (taken c.args.out.now) (taken c.walk.out) (taken c.write_visited.new.out)
          c.in-Some.ensures.steps c.walk.invariant.sent c.in-Err.ensures.sent;
      errors = search rules;
    }

pub walk-preserved : goal.walk-preserved
walk-preserved g c =
    let taken = g.W.Sink.taken in
    record {
      sent = written_more visited_bytes c.args.walk c.walk.left c.next.new.self (visited_by c.in-Some.item) (taken c.args.out.now) (taken c.walk.out) (taken c.write_visited.new.out)
          c.in-Some.ensures.steps c.walk.invariant.sent c.in_default-write_visited.ensures.sent;
      count = c.in_default-write_visited.ensures.errors ∙ c.walk.invariant.count;
    }
