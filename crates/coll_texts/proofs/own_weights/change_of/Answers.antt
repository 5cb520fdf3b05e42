-- The node that is found is that of the entry.
use Rattle.std.proofs.Common.{ap, sym, subst, ◌∙◌}
use Rattle.coll_syntax.specs.Identifier.{same_id}
use Rattle.coll_nodes.specs.Linking.{IsFoundBy}
use Rattle.coll_nodes.specs.OwnNames.{own_weights}
use Rattle.coll_nodes.specs.SoundBodies.{has_key, ids_in}
use Rattle.coll_nodes.specs.TableLayout.{declared_at}
use Rattle.coll_texts.proofs.OwnChanges.{change_found}
use Rattle.coll_texts.proofs.own_weights.change_of.Goals as goal

pub returns : goal.returns
returns c =
    let layout = c.args.body.now.layout in
    change_found layout (record { node = c.in-Some.node; weights = c.in_ok-weights.weights }) c.args.entry.now c.lemma_layout.ensures.sound.ids c.requires
    (ap (λ id. has_key same_id ids_in layout id c.in-Some.node) (sym c.id.ensures) ∙ subst (IsFoundBy same_id ids_in layout c.id.result.now) c.in-Some.is c.entry_node.ensures)
    (c.in_ok-weights.ensures ∙ ap (own_weights (declared_at layout)) c.weights.ensures)
