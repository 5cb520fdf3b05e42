-- One place more is passed.
use Rattle.std.proofs.Common.{◌≡◌, ◌<◌, ◌≤◌, ◌+◌, suc, ℕ, arith, length, rules, subst, sym}
use Rattle.std.specs.Prelude.{slice_index_or}
use Rattle.coll_letters.specs.ElementMarks.{IsLeftAt, IsSureAt}
use Rattle.coll_letters.proofs.SureFronts.{sure_next, sure_of_more}
use Rattle.coll_letters.proofs.element_marks.ElementMarks.sure_front.Goals as goal
use Rattle.coll_letters.proofs.element_marks.ElementMarks.sure_front.Goals.{then-left-eq0, else-left-eq0}

pub loop-place-init : goal.loop-place-init
loop-place-init c = record { passed = λ k within. absurd (omega (arith, within)); front = λ k within. absurd (omega (arith, within)) }

pub loop-place-preserved : goal.loop-place-preserved
loop-place-preserved c =
    let marks = c.args.self.now in
    let text = c.args.text.now in
    let other = c.args.other.now in
    let place = c.loop-place.place in
    let left = c.loop-place.left in
    let at = c.left_at.result in
    let next = c.max-left.result in
    let within : place < length text = search rules in
    let other_within : place < length other = search rules in
    let low : slice_index_or text place 0 < 128 = search rules in
    let same : slice_index_or text place 0 ≡ slice_index_or other place 0 = search rules in
    let here : IsLeftAt marks text other place at = search rules in
    let few : at ≤ next = search rules in
    let longer : left ≤ suc next = search rules in
    let passed : (k : ℕ) → k < place + 1 → IsSureAt marks text other (place + 1 + next) k =
    sure_next marks text other place left at next within other_within low same here few longer c.loop-place.invariant.passed in
    record {
      passed = passed;
      front = elim c.if-left-eq0.branch [
        | then-left-eq0 w ↦ subst (λ (f : ℕ). (k : ℕ) → k < f → IsSureAt marks text other f k) (sym w.front-is)
            (λ k before. sure_of_more marks text other (place + 1 + next) (place + 1) k (omega (arith, w.if-left-eq0.true)) (passed k before))
        | else-left-eq0 w ↦ subst (λ (f : ℕ). (k : ℕ) → k < f → IsSureAt marks text other f k) (sym w.front-is) c.loop-place.invariant.front
      ];
    }
