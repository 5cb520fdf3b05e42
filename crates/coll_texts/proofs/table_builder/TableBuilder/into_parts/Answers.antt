-- The parts of the table read are those of its body.
use Rattle.std.proofs.Common.{◌≡◌, ap, ◌∙◌, refl}
use Rattle.coll_nodes.specs.TableLayout.{collation}
use Rattle.coll_texts.specs.Building.{table_with}
use Rattle.coll_texts.specs.BuilderStates.{table_of}
use Rattle.coll_texts.proofs.table_builder.TableBuilder.into_parts.Goals as goal

pub returns : goal.returns
unfolding collation
returns c =
    let read : table_with c.in-Some.rules c.self.inside.builder ≡ table_of c.args.self = rw (← c.self.view_is) rw c.in-Some.is refl
    in ap (table_with c.in-Some.rules) c.into_body.ensures ∙ read
