-- The prefix at hand is an element's string, or the longest is shorter.
use Rattle.std.proofs.Common.{◌≡◌, ◌-◌, ◌<◌, suc, arith, chars, length, subst, ◌∙◌}
use Rattle.coll_nodes.specs.TableLayout.{collation}
use Rattle.coll_letters.specs.StringRows.{IsKnownString}
use Rattle.coll_letters.specs.declared.first_pieces.FoundString.{FoundString}
use Rattle.coll_letters.proofs.FirstPieceLemmas.{SameFrom, asked_for, begins_with_found, begins_with_letter, bounded, longest_found, none_left, not_asked, same_from_most, same_from_shorter}
use Rattle.coll_letters.proofs.PieceRowLemmas.{letter_piece, string_piece}
use Rattle.coll_letters.proofs.letter_weights.LetterWeights.first_known.Goals as goal
use Rattle.coll_letters.proofs.letter_weights.LetterWeights.first_known.Goals.{in-Some+in_ok-known+in-NoElement, in_default}

pub sizes-init : goal.sizes-init
sizes-init c =
    let table = collation c.args.table.now in
    let text = chars c.args.text.now in
    same_from_most table text c.most_at-size.result
    (bounded table c.args.self.now.marks c.requires.marks text c.in_ok-first.first (chars c.in_ok-first.rest.now) c.most_at-size.result c.in_ok-first.ensures c.most_at-size.ensures)

pub sizes-preserved : goal.sizes-preserved
sizes-preserved c =
    let table = collation c.args.table.now in
    let text = chars c.args.text.now in
    let size = c.sizes.size - 1 in
    let next : c.sizes.size ≡ suc size = omega (arith, c.sizes-test.true) in
    same_from_shorter table text size (subst (SameFrom table text) next c.sizes.invariant)
    (elim c.match-split_characters.branch [
      | in-Some+in_ok-known+in-NoElement w ↦ asked_for table text size (chars w.in-Some.string.now) (chars w.in-Some.behind.now) w.in-Some.ensures.whole (w.in-Some.ensures.size ∙ next)
          (subst (IsKnownString table c.args.self.now.made.weights (chars w.in-Some.string.now)) w.in-NoElement.is w.in_ok-known.ensures)
      | in_default w ↦ not_asked table text size (subst (λ n. length text < n) next w.in_default.ensures)
    ])

pub returns-in-Element : goal.returns-in-Element
returns-in-Element c =
    let table = collation c.args.table.now in
    let text = chars c.args.text.now in
    let string = chars c.in-Some.string.now in
    let behind = chars c.in-Some.behind.now in
    let weights = c.args.self.now.made.weights in
    let size = c.sizes.size - 1 in
    let next : c.sizes.size ≡ suc size = omega (arith, c.sizes-test.true) in
    let known = subst (IsKnownString table weights string) c.in-Element.is c.in_ok-known.ensures in
    let found : FoundString = record { entry = record { ref_ptr = c.args.table.ref_ptr; now = known.entry }; string = c.in-Some.string; rest = c.in-Some.behind } in
    string_piece table weights text string _
    (begins_with_found table c.lemma_well_formed.ensures.well_formed text found (record {
      whole = c.in-Some.ensures.whole;
      placed = known.placed;
      longest = longest_found table text size string behind known.entry (subst (SameFrom table text) next c.sizes.invariant) c.in-Some.ensures.whole (c.in-Some.ensures.size ∙ next) known.placed;
    }))
    known

pub returns : goal.returns
returns c =
    let table = collation c.args.table.now in
    let text = chars c.args.text.now in
    let well = c.lemma_well_formed.ensures.well_formed in
    letter_piece table c.args.self.now.made.weights text c.in_ok-first.first _
    (begins_with_letter table well text c.in_ok-first.first (chars c.in_ok-first.rest.now) c.in_ok-first.ensures (none_left table text well c.sizes.size (omega (arith, c.sizes-test.false)) c.sizes.invariant))
    c.in_ok-row.ensures
