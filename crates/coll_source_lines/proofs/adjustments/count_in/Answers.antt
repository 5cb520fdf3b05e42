-- One more of a kind that was counted, or the first.
use Rattle.std.proofs.Common.{sym}
use Rattle.coll_source_lines.proofs.TallyLemmas.{counted_again, counted_first}
use Rattle.coll_source_lines.proofs.adjustments.count_in.Goals as goal

pub returns-in-Some-clause-counted : goal.returns-in-Some-clause-counted
returns-in-Some-clause-counted c =
    let found = rw c.as_slice.ensures.value at c.in-Some.ensures.first in
    rw c.next_tally.ensures (counted_again c.args.tallies.now.items c.args.changed c.args.place c.in-Some.at c.index-tally.result.now (sym found) c.index-tally.ensures)

pub returns-in_ok-push-in-None-clause-counted : goal.returns-in_ok-push-in-None-clause-counted
returns-in_ok-push-in-None-clause-counted c =
    let none = rw c.as_slice.ensures.value at c.in-None.ensures.first in
    rw (c.in_ok-push-in-None.ensures.items, c.next_tally-in-None.ensures) (counted_first c.args.tallies.now.items c.args.changed c.args.place (sym none))
