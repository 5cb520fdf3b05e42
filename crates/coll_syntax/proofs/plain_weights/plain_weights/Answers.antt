use Rattle.std.proofs.Common.{rules}
use Rattle.coll_syntax.proofs.PlainLineLemmas.{reads_all, reads_more}
use Rattle.coll_syntax.proofs.plain_weights.plain_weights.Goals as goal

pub returns-then-is_over-clause-read : goal.returns-then-is_over-clause-read
returns-then-is_over-clause-read c =
    let put = rw c.in-Some.is at c.in_ok-behind.ensures in
    let next = put.1 in
    let all = reads_all c.args.own c.args.lexer.now.special c.args.text.now c.operands.weights.items c.operands.rest.now c.in-Some.behind.now next.0 put.0 c.operands.invariant.reads next.1 next.2
    c.if-is_over.ensures in
    rw (c.new.ensures, c.shrink_to_fit.ensures.items, put.2) all.0

pub operands-preserved : goal.operands-preserved
operands-preserved c =
    let put = rw c.in-Some.is at c.in_ok-behind.ensures in
    let next = put.1 in
    let apart = rw c.in-Some-Semicolon-default.field-0-0-is at c.in-Some-Semicolon-default.ensures in
    record {
      reads = rw put.2
          (reads_more c.args.own c.args.lexer.now.special c.args.text.now c.operands.weights.items c.operands.rest.now c.in-Some.behind.now c.in-Some-Semicolon-default.later.now next.0 put.0
          c.operands.invariant.reads next.1 next.2 apart);
      text = search rules;
    }
