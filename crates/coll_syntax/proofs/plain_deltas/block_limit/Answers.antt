-- What the lines say that open and end a block.
use Rattle.std.proofs.Common.{sym, ◌∙◌}
use Rattle.coll_lex.specs.PlainTexts.{plain_reading}
use Rattle.coll_syntax.proofs.PlainLineLemmas.{block_ended, block_started}
use Rattle.coll_syntax.proofs.plain_deltas.block_limit.Goals as goal

pub returns-then-eq-clause-read : goal.returns-then-eq-clause-read
returns-then-eq-clause-read c =
    let read = rw c.past_blank.ensures.reads at c.block_start.ensures.read in
    rw (block_started c.args.word.now (plain_reading c.args.lexer.now.special c.args.behind.now).tokens (sym c.eq.ensures ∙ c.if-eq.true)) read

pub returns-then-is_over-clause-read : goal.returns-then-is_over-clause-read
returns-then-is_over-clause-read c =
    block_ended c.args.word.now (plain_reading c.args.lexer.now.special c.args.behind.now).tokens (sym c.eq-2.ensures ∙ c.if-eq-2.true) c.if-is_over.ensures.none
