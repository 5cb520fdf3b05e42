-- One move more.
use Rattle.std.proofs.Common.{◌≡◌, ◌+◌, suc, sym, ap, ◌∙◌, arith}
use Rattle.std.proofs.Math.ListN.{drop_of_length-le}
use Rattle.coll_lookups.specs.EntryNumbers.{behind_moves}
use Rattle.coll_lookups.proofs.FollowedNumbers.{behind_next}
use Rattle.coll_lookups.proofs.entry_numbers.number_behind.Goals as goal

pub moves-preserved : goal.moves-preserved
moves-preserved c =
    let one : c.moves.kept-index + 1 ≡ suc c.moves.kept-index = omega arith in
    rw (one, c.place_taken-told.ensures, c.place_left.ensures) (behind_next c.args.moves.now c.moves.kept-index _ c.moves.told c.moves-test.true ∙ c.moves.invariant)

pub returns : goal.returns
unfolding behind_moves
returns c = sym (ap (λ ms. behind_moves ms c.moves.told) (drop_of_length-le c.args.moves.now c.moves-test.false)) ∙ c.moves.invariant
