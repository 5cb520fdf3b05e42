-- One move more is kept, and its node has the place that it takes.
use Rattle.std.proofs.Common.{◌<◌, [], ◌∷◌, length, length-append, arith}
use Rattle.coll_lookups.proofs.FollowedNumbers.{move_kept}
use Rattle.coll_lookups.proofs.entry_numbers.EntryNumbers.follow.Goals as goal

pub returns-clause-followed : goal.returns-clause-followed
returns-clause-followed c = λ _ other.
    let p = c.self.inside in
    let within : c.args.node.key < length p.slots.items = omega (arith, c.if-place-len.false, c.number-place.ensures, c.len.ensures) in
    let all = length-append p.moves.items (record { from = c.args.from; to = c.args.to } ∷ []) in
    rw (← c.self.view_is, c.number-place.ensures, c.push.ensures.items)
    (move_kept p.before p.moves.items p.slots.items c.args.from c.args.to _ c.args.node other c.requires c.self.invariant within (omega (arith, all, (c.in-Some.ensures).1, c.len-2.ensures.value)))
