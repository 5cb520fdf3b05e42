-- Each kind is among all kinds, at its place.
use Rattle.std.proofs.Common.{refl}
use Rattle.coll_source_lines.specs.Adjustments.{all_kinds}
use Rattle.coll_source_lines.proofs.KindLemmas.{each_kind}
use Rattle.coll_source_lines.proofs.adjustments.all_adjustments.Goals as goal

pub returns-clause-listed : goal.returns-clause-listed
unfolding all_kinds
returns-clause-listed c = refl

pub returns-clause-each : goal.returns-clause-each
returns-clause-each c = each_kind
