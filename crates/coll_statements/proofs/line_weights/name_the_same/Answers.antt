-- A weight that names one identifier alone names what another does that names it alone.
use Rattle.std.proofs.Common.{ap, sym, ◌∙◌}
use Rattle.coll_syntax.specs.declared.weights.Weight.TheVariants.{Names}
use Rattle.coll_statements.proofs.NamedAlone.{named_again}
use Rattle.coll_statements.proofs.line_weights.name_the_same.Goals as goal

pub returns-in-len1 : goal.returns-in-len1
returns-in-len1 c = λ same. named_again c.args.weight.now c.args.other.now c.get.result.now c.only-item.result (c.in-Names.is ∙ ap Names (sym c.get.ensures)) c.in-len1.len_at_least c.in-len1.len_below
    c.only-item.is (sym c.names_only.ensures ∙ same)
