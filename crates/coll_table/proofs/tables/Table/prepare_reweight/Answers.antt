-- An identifier that is placed has a node.
use Rattle.std.proofs.Common.{◌≡◌, false, subst}
use Rattle.coll_order.specs.declared.places.NodeId.{NodeId}
use Rattle.coll_syntax.specs.Identifier.{same_id}
use Rattle.coll_nodes.specs.SoundBodies.{IsShaped, has_key, ids_in}
use Rattle.coll_nodes.specs.TableLayout.{TableValue}
use Rattle.coll_table.proofs.KeyReads.{placed_has_node}
use Rattle.coll_table.proofs.tables.Table.prepare_reweight.Goals as goal

pub unreachable-requires : goal.unreachable-requires
unreachable-requires c =
    placed_has_node c.args.self.now (subst (λ (t : TableValue). IsShaped t.layout) c.self.view_is c.lemma_layout.ensures.shaped) c.args.line.now.id c.requires.placed
    (subst (λ (t : TableValue). (node : NodeId) → has_key same_id ids_in t.layout c.args.line.now.id node ≡ false) c.self.view_is c.in_default.ensures)
