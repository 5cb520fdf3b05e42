-- The levels that are left decide the order, and those known to be alike are.
use Rattle.std.proofs.Common.{◌≡◌, drop, chars}
use Rattle.coll_nodes.specs.TableLayout.{collation}
use Rattle.coll_elements.specs.Elements.{elements_of}
use Rattle.coll_ranks.specs.WeightNumbers.{numbers_at}
use Rattle.coll_key.proofs.OrderLemmas.{order_from}
use Rattle.coll_letters.specs.AlikeLevels.{AreAlike}
use Rattle.coll_letters.proofs.letter_weights.LetterWeights.order.Given as goal

abbrev pub invariant-loop-level : goal.invariant-loop-level
invariant-loop-level l =
    let table = collation l.table in
    let elements = elements_of table (chars l.text) in
    let others = elements_of table (chars l.other) in
    record {
      levels : order_from (numbers_at table) elements others 0 table.rules ≡ order_from (numbers_at table) elements others l.level (drop l.level table.rules);
      alike : AreAlike table l.alike (chars l.text) (chars l.other);
    }
