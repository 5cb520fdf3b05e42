-- What is sorted has the same strings.
use Rattle.coll_elements.proofs.SortedStrings.{sorted_ascending, sorted_strings}
use Rattle.coll_elements.proofs.placed_elements.sorted_strings.Goals as goal

pub returns-clause-ascending : goal.returns-clause-ascending
returns-clause-ascending c = sorted_ascending c.args.named.now _ _ c.in_ok-strings.ensures c.sort_unstable.ensures.permutation c.sort_unstable.ensures.sorted

pub returns-clause-strings : goal.returns-clause-strings
returns-clause-strings c = sorted_strings c.args.named.now _ _ c.in_ok-strings.ensures c.sort_unstable.ensures.permutation c.sort_unstable.ensures.sorted
