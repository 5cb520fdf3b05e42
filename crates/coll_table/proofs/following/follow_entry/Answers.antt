-- The number of each follows the move.
use Rattle.std.proofs.Common.{◌-◌, ◌^◌, Option, sym, subst, refl}
use Rattle.coll_order.specs.declared.places.Place.{Place}
use Rattle.coll_lookups.specs.EntryNumbers.{number_at}
use Rattle.coll_table.proofs.FollowedLists.{goes_numbered}
use Rattle.coll_table.specs.Following.{TakesTo}
use Rattle.coll_table.proofs.following.follow_entry.Goals as goal

pub returns-in-None : goal.returns-in-None
returns-in-None c = λ done old rest new most small goes numbered.
    goes_numbered c.args.numbers.now c.follow.new.self c.args.had c.args.has c.args.node c.place_left-from.result (2 ^ 32 - 1) old rest new most small goes c.place_left-from.ensures
    (subst (λ has. TakesTo has (number_at c.args.numbers.now) c.place_left-from.result (2 ^ 32 - 1)) (sym c.in-None.is) refl) (c.follow.ensures.followed done) numbered

pub returns-in-Some : goal.returns-in-Some
returns-in-Some c = λ done old rest new most small goes numbered.
    let takes = c.follow_to.ensures done in
    goes_numbered c.args.numbers.now c.follow_to.new.numbers c.args.had c.args.has c.args.node c.place_left-from.result takes.0 old rest new most small goes
    c.place_left-from.ensures
    (subst (λ (has : Option Place). TakesTo has (number_at c.args.numbers.now) c.place_left-from.result takes.0) (sym c.in-Some.is) takes.1) takes.2 numbered
