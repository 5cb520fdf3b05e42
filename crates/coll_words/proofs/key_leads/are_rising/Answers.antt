-- All numbers rise, and so none is less than the first.
use Rattle.std.proofs.Common.{arith}
use Rattle.coll_words.proofs.KeyLeadLemmas.{rising_from}
use Rattle.coll_words.proofs.key_leads.are_rising.Goals as goal

pub returns : goal.returns
returns c = λ first.
    rising_from c.args.numbers.now (λ k within. c.numbers.invariant.rising k (omega (arith, within, c.numbers-test.false)) within) (c.is_of_rank.ensures.yes first)
