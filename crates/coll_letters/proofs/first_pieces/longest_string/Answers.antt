-- The prefix at hand is an element's string, or the longest is shorter.
use Rattle.std.proofs.Common.{◌≡◌, ◌-◌, ◌<◌, suc, arith, ap, chars, length, subst, sym, ◌∙◌}
use Rattle.std.specs.Option.{option_copied}
use Rattle.coll_nodes.specs.TableLayout.{collation}
use Rattle.coll_letters.proofs.FirstPieceLemmas.{SameFrom, asked_for, longest_found, none_left, not_asked, same_from_most, same_from_shorter}
use Rattle.coll_letters.proofs.first_pieces.longest_string.Goals as goal
use Rattle.coll_letters.proofs.first_pieces.longest_string.Goals.{in-Some+in_default-element_entry, in_default}

pub sizes-init : goal.sizes-init
sizes-init c = same_from_most (collation c.args.table.now) (chars c.args.text.now) c.args.most c.requires

pub sizes-preserved : goal.sizes-preserved
sizes-preserved c =
    let table = collation c.args.table.now in
    let text = chars c.args.text.now in
    let size = c.sizes.size - 1 in
    let next : c.sizes.size ≡ suc size = omega (arith, c.sizes-test.true) in
    same_from_shorter table text size (subst (SameFrom table text) next c.sizes.invariant)
    (elim c.match-split_characters.branch [
      | in-Some+in_default-element_entry w ↦ asked_for table text size (chars w.in-Some.string.now) (chars w.in-Some.rest.now) w.in-Some.ensures.whole (w.in-Some.ensures.size ∙ next)
          (sym w.element_entry.ensures ∙ ap option_copied w.in_default-element_entry.is)
      | in_default w ↦ not_asked table text size (subst (λ n. length text < n) next w.in_default.ensures)
    ])

pub returns-in-Some-element_entry : goal.returns-in-Some-element_entry
returns-in-Some-element_entry c =
    let table = collation c.args.table.now in
    let text = chars c.args.text.now in
    let size = c.sizes.size - 1 in
    let next : c.sizes.size ≡ suc size = omega (arith, c.sizes-test.true) in
    let placed = sym c.element_entry.ensures ∙ ap option_copied c.in-Some-element_entry.is in
    record {
      whole = c.in-Some.ensures.whole;
      placed = placed;
      longest = longest_found table text size (chars c.in-Some.string.now) (chars c.in-Some.rest.now) c.in-Some-element_entry.entry.now (subst (SameFrom table text) next c.sizes.invariant)
          c.in-Some.ensures.whole (c.in-Some.ensures.size ∙ next) placed;
    }

pub returns : goal.returns
returns c =
    none_left (collation c.args.table.now) (chars c.args.text.now) c.lemma_well_formed.ensures.well_formed c.sizes.size (omega (arith, c.sizes-test.false)) c.sizes.invariant
