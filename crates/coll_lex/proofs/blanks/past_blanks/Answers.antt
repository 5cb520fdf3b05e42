use Rattle.std.proofs.Common.{sym, ◌∙◌}
use Rattle.std.proofs.lemmas.List.{take_rest}
use Rattle.coll_lex.proofs.DirectiveLemmas.{past_blanks_blank, past_blanks_other, past_blanks_all}
use Rattle.coll_lex.proofs.blanks.past_blanks.Goals as goal

pub returns-then-not-is_blank : goal.returns-then-not-is_blank
returns-then-not-is_blank c =
    past_blanks_other c.args.line.now c.loop-start.start c.loop-start-test.true (sym (rw c.from.ensures at c.if-not-is_blank.ensures)) c.loop-start.invariant

pub loop-start-preserved : goal.loop-start-preserved
loop-start-preserved c =
    past_blanks_blank c.args.line.now c.loop-start.start c.loop-start-test.true (sym (rw c.from.ensures at c.if-not-is_blank.ensures)) c.loop-start.invariant

pub returns : goal.returns
returns c =
    let line = c.args.line.now in
    take_rest line _ ∙ past_blanks_all line c.loop-start.start c.loop-start-test.false c.loop-start.invariant
