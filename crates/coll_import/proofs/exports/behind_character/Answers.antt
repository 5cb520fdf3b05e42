-- The first character ends the loop, and what is left then stands behind it.
use Rattle.std.proofs.Common.{sym, ◌∙◌}
use Rattle.coll_nodes.specs.WalkItems.{visited_by}
use Rattle.coll_import.proofs.ExportLemmas.{at_character, before_character}
use Rattle.coll_import.proofs.exports.behind_character.Goals as goal

pub returns-then-visits_character : goal.returns-then-visits_character
returns-then-visits_character c =
    sym (sym c.skipped.invariant ∙ at_character c.skipped.left c.next.new.self (visited_by c.in-Some.item) c.in-Some.ensures.steps (sym c.visits_character.ensures ∙ c.if-visits_character.true))

pub skipped-preserved : goal.skipped-preserved
skipped-preserved c =
    before_character c.skipped.left c.next.new.self (visited_by c.in-Some.item) c.in-Some.ensures.steps (sym c.visits_character.ensures ∙ c.if-visits_character.false) ∙ c.skipped.invariant
