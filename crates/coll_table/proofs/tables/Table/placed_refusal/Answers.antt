-- The lines decide, then the number of entries, then the identifiers in the weights.
use Rattle.std.proofs.Common.{◌≡◌, ◌<◌, ◌≤◌, ◌-◌, nat_le, true, length, sym, ap, ◌∙◌, refl, arith}
use Rattle.std.proofs.lemmas.Bool.{leb-false}
use Rattle.std.proofs.lemmas.Bool.Decides.{nat_tests}
use Rattle.coll_table.specs.Delta.{all_moved, unless_refused}
use Rattle.coll_nodes.specs.Limits.{most_entries}
use Rattle.coll_nodes.specs.Table.{entries_of}
use Rattle.coll_nodes.specs.TableLayout.{collation}
use Rattle.coll_table.specs.Judging.{entries_added}
use Rattle.coll_table.proofs.DeltaJudged.{entries_refused, weights_decide}
use Rattle.coll_table.proofs.DeltaLines.{may_name_own}
use Rattle.coll_table.proofs.tables.Table.placed_refusal.Goals as goal

pub all_given_refusal-requires : goal.all_given_refusal-requires
all_given_refusal-requires c =
    may_name_own (collation c.args.self.now) c.args.target.now c.args.lines.now c.lines_refusal.new.ids (sym c.in_ok-refusal.ensures.refusal ∙ c.in_default.is)
    (c.in_ok-refusal.ensures.ids c.in_default.is)

pub returns-then-not-has_room : goal.returns-then-not-has_room
returns-then-not-has_room c =
    let table = collation c.args.self.now in
    let many : most_entries - length (entries_of table) < entries_added table c.args.lines.now = leb-false _ _ (sym c.has_room.ensures ∙ c.if-not-has_room.true) in
    entries_refused table c.args.target.now c.args.lines.now c.requires.placed c.lemma_well_formed.ensures.well_formed (sym c.in_ok-refusal.ensures.refusal ∙ c.in_default.is)
    (entries_added table c.args.lines.now) refl many

pub returns : goal.returns
returns c =
    let table = collation c.args.self.now in
    let room : entries_added table c.args.lines.now ≤ most_entries - length (entries_of table) =
    let test : nat_le (entries_added table c.args.lines.now) (most_entries - length (entries_of table)) ≡ true = sym c.has_room.ensures ∙ c.if-not-has_room.false in
    grind (arith, nat_tests) in
    weights_decide table c.args.target.now c.args.lines.now c.requires.placed c.lemma_well_formed.ensures.well_formed (sym c.in_ok-refusal.ensures.refusal ∙ c.in_default.is)
    (entries_added table c.args.lines.now) refl c.lines_refusal.new.ids (c.in_ok-refusal.ensures.ids c.in_default.is) room
    ∙ ap (λ r. unless_refused r (all_moved table c.args.target.now c.args.lines.now)) (sym c.all_given_refusal.ensures)
