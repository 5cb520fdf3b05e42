-- No character was visited yet, so what stands behind the first is left.
use Rattle.std.proofs.Common.{◌≡◌}
use Rattle.coll_import.specs.Exports.{behind_character}
use Rattle.coll_import.proofs.exports.behind_character.Given as goal

abbrev pub invariant-skipped : goal.invariant-skipped
invariant-skipped l = behind_character l.left ≡ behind_character l.initial.left
