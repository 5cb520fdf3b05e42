-- One level more is one weight less.
use Rattle.std.proofs.Common.{◌≡◌, ◌-◌, ◌+◌, suc, ◌∙◌, arith}
use Rattle.coll_ranks.proofs.WalkedRanks.{row_more}
use Rattle.coll_ranks.proofs.weight_cells.WeightCells.push_row.Goals as goal

pub loop-level-preserved : goal.loop-level-preserved
loop-level-preserved c =
    let one : c.args.levels - c.loop-level.level ≡ suc (c.args.levels - (c.loop-level.level + 1)) = omega arith in
    record {
      row = row_more _ _ _ _ _ _ _ _ _ _ c.loop-level.invariant.same one (c.in_ok-left.ensures.row (c.args.levels - (c.loop-level.level + 1))) c.loop-level.invariant.row;
      same = c.push_next.ensures.same ∙ c.loop-level.invariant.same;
    }
