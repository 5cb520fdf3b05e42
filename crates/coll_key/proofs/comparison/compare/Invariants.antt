use Rattle.std.proofs.Common.{◌≡◌, drop, chars}
use Rattle.coll_nodes.specs.TableLayout.{collation}
use Rattle.coll_key.specs.LevelList.{level_lists_from}
use Rattle.coll_ranks.specs.Ranks.{elements_by_ranks, compiled_numbers}
use Rattle.coll_key.specs.TextOrder.{first_difference}
use Rattle.coll_key.proofs.comparison.compare.Given as goal

abbrev pub invariant-loop-level : goal.invariant-loop-level
invariant-loop-level l =
    let rules = (collation l.table).rules in
    let elements = elements_by_ranks l.ranks (chars l.text) in
    let others = elements_by_ranks l.ranks (chars l.other) in
    first_difference (level_lists_from rules 0 (compiled_numbers l.ranks.compiled) elements) (level_lists_from rules 0 (compiled_numbers l.ranks.compiled) others)
    ≡ first_difference (level_lists_from (drop l.level rules) l.level (compiled_numbers l.ranks.compiled) elements)
    (level_lists_from (drop l.level rules) l.level (compiled_numbers l.ranks.compiled) others)
