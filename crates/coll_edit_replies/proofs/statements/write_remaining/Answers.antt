-- Each statement is one part.
use Rattle.std.proofs.Common.{◌+◌, drop, ◌∙◌, arith, rules}
use Rattle.coll_texts.specs.StatementText.{statement_bytes}
use Rattle.coll_texts.proofs.PrintedParts.{written_prefix, written_more}
use Rattle.coll_edit_replies.proofs.StatementLemmas.{begins_next}
use Rattle.coll_edit_replies.proofs.statements.write_remaining.Goals as goal

pub returns-in-Err : goal.returns-in-Err
returns-in-Err g c =
    record {
      sent = let taken = g.W.Sink.taken in
          let statements = c.args.session.now.history.remaining in
          let n = c.loop-number.number in
          written_prefix statement_bytes statements (drop n statements) (drop (n + 1) statements) c.in-Some.statement.now
          (taken c.args.out.now) (taken c.loop-number.out) (taken c.write_statement.new.out)
          (begins_next statements n c.in-Some.statement.now c.in-Some.ensures) c.loop-number.invariant.sent c.in-Err.ensures.sent;
      errors = search rules;
    }

pub loop-number-preserved : goal.loop-number-preserved
loop-number-preserved g c =
    let taken = g.W.Sink.taken in
    let statements = c.args.session.now.history.remaining in
    let n = c.loop-number.number in
    record {
      sent = written_more statement_bytes statements (drop n statements) (drop (n + 1) statements) c.in-Some.statement.now
          (taken c.args.out.now) (taken c.loop-number.out) (taken c.write_statement.new.out)
          (begins_next statements n c.in-Some.statement.now c.in-Some.ensures) c.loop-number.invariant.sent c.in_default-write_statement.ensures.sent;
      errors = c.in_default-write_statement.ensures.errors ∙ c.loop-number.invariant.errors;
      within = omega (arith, c.loop-number-test.true);
      count = c.loop-number.invariant.count;
    }
