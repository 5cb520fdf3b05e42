-- A row is taken where no rank is left of the one behind it, and may be a gap.
use Rattle.std.proofs.Common.{◌≡◌, ◌∙◌, ◌+◌, ℕ, [], length, map, reverse, ap, sym, arith}
use Rattle.std.proofs.lemmas.List.{length-reverse}
use Rattle.coll_ranks.specs.LevelWeights.{level_ranks, ranks_in}
use Rattle.coll_ranks.specs.Ranks.{added_to}
use Rattle.coll_key.proofs.DirectionLemmas.{map-reverse}
use Rattle.coll_key.proofs.ForwardLemmas.{element_shorter, element_taken, gap_count_small}
use Rattle.coll_letters.specs.BackNumbers.{numbers_back}
use Rattle.coll_letters.proofs.LevelNumberLemmas.{gap_count_reversed}
use Rattle.coll_letters.proofs.back_numbers.number_before.Goals as goal

pub rows-preserved : goal.rows-preserved
rows-preserved c =
    let at = c.args.at_level in
    let row = c.in_ok-row.row in
    let left = c.rows.left in
    let rows = c.in_ok-row.rows.now in
    let ranks = ranks_in c.ranks-ranks.result in
    let g = added_to c.added.result in
    let none : reverse (ranks_in left.ranks) ≡ [] = ap reverse c.in_default.ensures in
    let weighs : map g (reverse ranks) ≡ numbers_back at row =
    map-reverse g ranks ∙ ap reverse (ap (map g) c.ranks-ranks.ensures ∙ ap (λ (n : ℕ). map (added_to n) (level_ranks at row)) c.added.ensures) in
    let fewer : length left.rows.now ≡ length rows + 1 = omega (arith, ap length c.in_ok-row.ensures, length-reverse left.rows.now, length-reverse rows) in
    let taken = element_taken (numbers_back at) (added_to left.added) g (reverse (ranks_in left.ranks)) (reverse ranks) (reverse left.rows.now) (reverse rows) row none c.in_ok-row.ensures weighs in
    let shorter = element_shorter (numbers_back at) (added_to left.added) g (reverse (ranks_in left.ranks)) (reverse ranks) (reverse left.rows.now) (reverse rows) row none c.in_ok-row.ensures weighs in
    record {
      few = omega (arith, c.rows.invariant.few, fewer, gap_count_small ranks, c.count_of_gaps-gaps.ensures);
      same = λ p. c.rows.invariant.same p ∙ taken p c.rows.gaps c.count_of_gaps-gaps.result (c.count_of_gaps-gaps.ensures ∙ sym (gap_count_reversed ranks));
      shorter = omega (arith, shorter, c.rows.invariant.shorter);
      shorter_rows = omega (arith, fewer, c.rows.invariant.shorter_rows);
    }
