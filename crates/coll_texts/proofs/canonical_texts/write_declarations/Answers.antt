-- Each item is one line.
use Rattle.std.proofs.Common.{◌∙◌, rules}
use Rattle.coll_texts.specs.PrintedParts.{declaration_bytes}
use Rattle.coll_nodes.specs.WalkItems.{declared_by}
use Rattle.coll_texts.proofs.PrintedParts.{written_prefix, written_more}
use Rattle.coll_texts.proofs.canonical_texts.write_declarations.Goals as goal

pub returns-in-Err : goal.returns-in-Err
returns-in-Err g c =
    let taken = g.W.Sink.taken in
    record {
      sent = written_prefix declaration_bytes c.args.declared c.declared.left c.next.new.self (declared_by c.in-Some.item) (taken c.args.out.now) (taken c.declared.out)
          (taken c.write_declaration.new.out)
          c.in-Some.ensures.steps c.declared.invariant.sent c.in-Err.ensures.sent;
      errors = search rules;
    }

pub declared-preserved : goal.declared-preserved
declared-preserved g c =
    let taken = g.W.Sink.taken in
    record {
      sent = written_more declaration_bytes c.args.declared c.declared.left c.next.new.self (declared_by c.in-Some.item) (taken c.args.out.now) (taken c.declared.out)
          (taken c.write_declaration.new.out)
          c.in-Some.ensures.steps c.declared.invariant.sent c.in_default-write_declaration.ensures.sent;
      count = c.in_default-write_declaration.ensures.errors ∙ c.declared.invariant.count;
    }
