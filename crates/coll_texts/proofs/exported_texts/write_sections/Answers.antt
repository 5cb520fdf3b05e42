-- Each item is its lines.
use Rattle.std.proofs.Common.{◌∙◌, rules}
use Rattle.coll_texts.specs.ExportedParts.{walked_bytes}
use Rattle.coll_nodes.specs.WalkItems.{visited_by}
use Rattle.coll_texts.proofs.PrintedParts.{written_prefix, written_more}
use Rattle.coll_texts.proofs.exported_texts.write_sections.Goals as goal

pub returns-in-Err : goal.returns-in-Err
returns-in-Err g c =
    let taken = g.W.Sink.taken in
    record {
      sent = written_prefix (walked_bytes c.args.rules.now) c.args.walk c.sections.left c.next.new.self (visited_by c.in-Some.item) (taken c.args.out.now) (taken c.sections.out)
          (taken c.write_walked.new.out)
          c.in-Some.ensures.steps c.sections.invariant.sent c.in-Err.ensures.sent;
      errors = search rules;
    }

pub sections-preserved : goal.sections-preserved
sections-preserved g c =
    let taken = g.W.Sink.taken in
    record {
      sent = written_more (walked_bytes c.args.rules.now) c.args.walk c.sections.left c.next.new.self (visited_by c.in-Some.item) (taken c.args.out.now) (taken c.sections.out)
          (taken c.write_walked.new.out)
          c.in-Some.ensures.steps c.sections.invariant.sent c.in_default-write_walked.ensures.sent;
      count = c.in_default-write_walked.ensures.errors ∙ c.sections.invariant.count;
    }
