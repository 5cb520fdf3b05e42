-- The prefix without the last member, and of it the end.
use Rattle.std.proofs.Common.{arith}
use Rattle.coll_history.proofs.PairedStatements.{stands_before}
use Rattle.coll_history.proofs.withdrawing.before_last.Goals as goal

pub returns-clause-parts : goal.returns-clause-parts
returns-clause-parts c =
    stands_before c.args.kept.now c.split_at.result.0.now c.split_at.result.1.now c.split_at-2.result.0.now c.split_at-2.result.1.now _ _ c.split_at.ensures.front c.split_at.ensures.back
    (omega (arith, c.split_at.ensures.back_len, c.requires)) c.split_at-2.ensures.front c.split_at-2.ensures.back
