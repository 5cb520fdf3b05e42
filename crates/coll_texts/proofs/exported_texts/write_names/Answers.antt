-- Each item is its lines.
use Rattle.std.proofs.Common.{◌∙◌, rules}
use Rattle.coll_texts.specs.ExportedParts.{noted_bytes}
use Rattle.coll_nodes.specs.WalkItems.{visited_by}
use Rattle.coll_texts.proofs.PrintedParts.{written_prefix, written_more}
use Rattle.coll_texts.proofs.exported_texts.write_names.Goals as goal

pub returns-in-Err : goal.returns-in-Err
returns-in-Err g c =
    let taken = g.W.Sink.taken in
    record {
      sent = written_prefix noted_bytes c.args.names c.names.left c.next.new.self (visited_by c.in-Some.item) (taken c.args.out.now) (taken c.names.out) (taken c.write_noted.new.out)
          c.in-Some.ensures.steps c.names.invariant.sent c.in-Err.ensures.sent;
      errors = search rules;
    }

pub names-preserved : goal.names-preserved
names-preserved g c =
    let taken = g.W.Sink.taken in
    record {
      sent = written_more noted_bytes c.args.names c.names.left c.next.new.self (visited_by c.in-Some.item) (taken c.args.out.now) (taken c.names.out)
          (taken c.write_noted.new.out)
          c.in-Some.ensures.steps c.names.invariant.sent c.in_default-write_noted.ensures.sent;
      count = c.in_default-write_noted.ensures.errors ∙ c.names.invariant.count;
    }
