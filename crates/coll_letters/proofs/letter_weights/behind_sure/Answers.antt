-- What both surely begin with is the same elements in both.
use Rattle.std.proofs.Common.{◌≤◌, ℕ, List, chars, drop, length, refl, subst, sym}
use Rattle.coll_nodes.specs.TableLayout.{collation}
use Rattle.coll_letters.specs.LetterWeights.{OrdersAlike}
use Rattle.coll_letters.proofs.SureFronts.{left_behind, sure_front_alike}
use Rattle.coll_letters.proofs.letter_weights.behind_sure.Goals as goal

pub returns-clause-same : goal.returns-clause-same
returns-clause-same c = λ level.
    let table = collation c.args._table.now in
    let text = chars c.args.text.now in
    let other = chars c.args.other.now in
    subst (λ (l : List ℕ). OrdersAlike table level text other (chars l) (chars c.in-Some-split_at_checked.others.now)) (sym c.in-Some.ensures.back)
    (subst (λ (l : List ℕ). OrdersAlike table level text other (chars (drop c.sure_front-front.result c.args.text.now)) (chars l)) (sym c.in-Some-split_at_checked.ensures.back)
    (sure_front_alike table c.args.marks.now c.requires level c.sure_front-front.result c.args.text.now c.args.other.now c.utf8.text c.utf8.other c.sure_front-front.ensures))

pub returns-clause-shorter : goal.returns-clause-shorter
returns-clause-shorter c =
    subst (λ (l : List ℕ). length (chars l) ≤ length (chars c.args.text.now)) (sym c.in-Some.ensures.back)
    (left_behind c.args.marks.now c.sure_front-front.result c.sure_front-front.result c.args.text.now c.args.other.now c.utf8.text c.utf8.other c.sure_front-front.ensures).0.shorter

pub returns-clause-shorter_other : goal.returns-clause-shorter_other
returns-clause-shorter_other c =
    subst (λ (l : List ℕ). length (chars l) ≤ length (chars c.args.other.now)) (sym c.in-Some-split_at_checked.ensures.back)
    (left_behind c.args.marks.now c.sure_front-front.result c.sure_front-front.result c.args.text.now c.args.other.now c.utf8.text c.utf8.other c.sure_front-front.ensures).1.shorter

pub returns-in_default-clause-same : goal.returns-in_default-clause-same
returns-in_default-clause-same c = λ level position gaps. (gaps, refl)

pub returns-in_default-split_at_checked-clause-same : goal.returns-in_default-split_at_checked-clause-same
returns-in_default-split_at_checked-clause-same c = λ level position gaps. (gaps, refl)
