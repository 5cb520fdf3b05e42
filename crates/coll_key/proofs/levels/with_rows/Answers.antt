-- Each row is put behind the key, and where no row is left, all stand there.
use Rattle.std.proofs.Common.{◌≡◌, ◌∙◌, ◌+◌, ◌*◌, ◌++◌, ◌∷◌, [], ℕ, List, map, refl, ap, arith}
use Rattle.coll_ranks.specs.LevelWeights.{level_ranks, row_numbers}
use Rattle.coll_ranks.specs.Ranks.{added_to}
use Rattle.coll_key.specs.LevelList.{position_of}
use Rattle.coll_key.proofs.PushingSteps.{begins_alone, gap_more, element_ends, one_fewer, shorter_left, fewer_left, level_goes_on, level_ends}
use Rattle.coll_key.proofs.levels.with_rows.Goals as goal

pub rows-preserved-in-Ignored : goal.rows-preserved-in-Ignored
rows-preserved-in-Ignored c =
    let b = c.args.backward in
    let f = row_numbers c.args.weights.now c.args.level in
    let at = c.at_level-at_level.result in
    let numbers : [] ≡ f c.in-Some.row = ap (map (added_to (at.times * c.in-Some.row.code))) c.in-Ignored.ensures ∙ c.at_level-at_level.ensures c.in-Some.row in
    record {
      room = omega (arith, c.rows.invariant.room, one_fewer b c.rows.left.now c.in-Some.later.now c.in-Some.row c.in-Some.ensures);
      few = fewer_left b c.rows.left.now c.in-Some.later.now c.in-Some.row c.in-Some.ensures c.rows.gaps (c.rows.gaps + 1) 65_536 (omega arith) c.rows.invariant.few;
      same = level_goes_on b c.rows.left.now c.in-Some.later.now c.in-Some.row c.in-Some.ensures c.rows.gaps (c.rows.gaps + 1) c.args.position f [] _ c.rows.with.items c.rows.with.items numbers
          (gap_more c.args.position b c.rows.gaps c.rows.with.items) c.rows.invariant.same;
    }

pub rows-preserved-in-Single : goal.rows-preserved-in-Single
rows-preserved-in-Single c =
    let b = c.args.backward in
    let f = row_numbers c.args.weights.now c.args.level in
    let at = c.at_level-at_level.result in
    let g = added_to c.added.result in
    let put = c.with_number-with.ensures in
    let pushed : (list : List ℕ) → c.rows.with.items ++ position_of c.args.position c.rows.gaps ++ added_to c.added.result c.in-Single.rank ∷ list ≡ c.with_number-with.result.items ++ list =
    rw (← c.number_of-number.ensures) put.numbers in
    let numbers = ap (map g) c.in-Single.ensures ∙ ap (λ n. map (added_to n) (level_ranks at c.in-Some.row)) c.added.ensures ∙ c.at_level-at_level.ensures c.in-Some.row in
    record {
      room = omega (arith, c.rows.invariant.room, put.len, put.capacity, one_fewer b c.rows.left.now c.in-Some.later.now c.in-Some.row c.in-Some.ensures);
      few = fewer_left b c.rows.left.now c.in-Some.later.now c.in-Some.row c.in-Some.ensures c.rows.gaps 0 65_536 (omega arith) c.rows.invariant.few;
      same = level_goes_on b c.rows.left.now c.in-Some.later.now c.in-Some.row c.in-Some.ensures c.rows.gaps 0 c.args.position f (map g (c.in-Single.rank ∷ [])) _ c.rows.with.items
          c.with_number-with.result.items numbers (element_ends c.args.position b c.rows.gaps g (c.in-Single.rank ∷ []) [] c.rows.with.items c.with_number-with.result.items c.in-Single.rank
          (begins_alone b c.in-Single.rank) pushed refl) c.rows.invariant.same;
    }

pub with_long_element-requires-clause-few_later : goal.with_long_element-requires-clause-few_later
with_long_element-requires-clause-few_later c = omega (arith, c.rows.invariant.few, one_fewer c.args.backward c.rows.left.now c.in-Some.later.now c.in-Some.row c.in-Some.ensures)

pub rows-smaller : goal.rows-smaller
rows-smaller c = shorter_left c.args.backward c.rows.left.now c.in-Some.later.now c.in-Some.row c.in-Some.ensures

pub rows-preserved : goal.rows-preserved
rows-preserved c =
    let b = c.args.backward in
    let f = row_numbers c.args.weights.now c.args.level in
    let at = c.at_level-at_level.result in
    let put = c.in_ok-long-in-Several.ensures in
    let numbers = ap (map (added_to c.added-added.result)) c.in-Several.ensures ∙ ap (λ n. map (added_to n) (level_ranks at c.in-Some.row)) c.added-added.ensures
    ∙ c.at_level-at_level.ensures c.in-Some.row in
    record {
      room = put.room;
      few = fewer_left b c.rows.left.now c.in-Some.later.now c.in-Some.row c.in-Some.ensures c.rows.gaps c.in_ok-long-in-Several.long.1 65_536 put.few c.rows.invariant.few;
      same = level_goes_on b c.rows.left.now c.in-Some.later.now c.in-Some.row c.in-Some.ensures c.rows.gaps c.in_ok-long-in-Several.long.1 c.args.position f _ _ c.rows.with.items
          c.in_ok-long-in-Several.long.0.items numbers put.numbers c.rows.invariant.same;
    }

pub returns-clause-list : goal.returns-clause-list
returns-clause-list c = level_ends c.args.position c.args.backward c.rows.gaps (row_numbers c.args.weights.now c.args.level) c.args.rows.now c.rows.left.now c.args.key.items c.rows.with.items
    c.rows.invariant.same c.in_default.ensures
