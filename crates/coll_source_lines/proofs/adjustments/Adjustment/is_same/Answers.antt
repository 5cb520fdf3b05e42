-- A kind is told apart by its place.
use Rattle.std.proofs.Common.{◌∙◌, sym, rules}
use denote.Enum.Bare.{same_true}
use Rattle.coll_source_lines.specs.contracts.adjustments.Adjustment.{the_type}
use Rattle.coll_source_lines.proofs.KindLemmas.{same_variant}
use Rattle.coll_source_lines.proofs.adjustments.Adjustment.is_same.Goals as goal

pub returns-clause-value : goal.returns-clause-value
returns-clause-value c = c.eq.ensures ∙ same_variant c.args.self c.args.other

pub returns-clause-same : goal.returns-clause-same
returns-clause-same c is = same_true the_type (search rules) _ _ (sym c.eq.ensures ∙ is)
