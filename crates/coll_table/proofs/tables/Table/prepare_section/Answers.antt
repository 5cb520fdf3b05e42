-- Sections that have these names have nodes.
use Rattle.std.proofs.Common.{◌≡◌, false, subst}
use Rattle.coll_order.specs.declared.places.NodeId.{NodeId}
use Rattle.coll_syntax.specs.Identifier.{same_name}
use Rattle.coll_nodes.specs.SoundBodies.{IsShaped, has_key, section_names_in}
use Rattle.coll_nodes.specs.TableLayout.{TableValue}
use Rattle.coll_table.proofs.KeyReads.{named_has_node}
use Rattle.coll_table.proofs.tables.Table.prepare_section.Goals as goal

pub unreachable-requires : goal.unreachable-requires
unreachable-requires c =
    named_has_node c.args.self.now (subst (λ (t : TableValue). IsShaped t.layout) c.self.view_is c.lemma_layout.ensures.shaped) c.args.moved.now c.requires.moved
    (subst (λ (t : TableValue). (node : NodeId) → has_key same_name section_names_in t.layout c.args.moved.now node ≡ false) c.self.view_is c.in_default.ensures)

pub unreachable-requires-in_default-section_node : goal.unreachable-requires-in_default-section_node
unreachable-requires-in_default-section_node c =
    named_has_node c.args.self.now (subst (λ (t : TableValue). IsShaped t.layout) c.self.view_is c.lemma_layout.ensures.shaped) c.args.after.now c.requires.after
    (subst (λ (t : TableValue). (node : NodeId) → has_key same_name section_names_in t.layout c.args.after.now node ≡ false) c.self.view_is c.in_default-section_node.ensures)
