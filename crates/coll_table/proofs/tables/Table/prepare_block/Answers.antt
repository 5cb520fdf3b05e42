-- The target is placed, so that it has a node, and keeps it.
use Rattle.std.proofs.Common.{◌≡◌, true, false, subst}
use Rattle.coll_order.specs.declared.places.NodeId.{NodeId}
use Rattle.coll_syntax.specs.Identifier.{same_id}
use Rattle.coll_table.specs.Record.{added_nodes}
use Rattle.coll_nodes.specs.SoundBodies.{IsShaped, has_key, ids_in}
use Rattle.coll_nodes.specs.TableLayout.{TableValue, collation}
use Rattle.coll_table.proofs.KeyReads.{placed_has_node}
use Rattle.coll_table.proofs.PreparedLemmas.{key_kept}
use Rattle.coll_table.proofs.tables.Table.prepare_block.Goals as goal

pub unreachable-requires : goal.unreachable-requires
unreachable-requires c =
    placed_has_node c.args.self.now (subst (λ (t : TableValue). IsShaped t.layout) c.self.view_is c.lemma_layout.ensures.shaped) c.args.target.now c.requires.placed
    (subst (λ (t : TableValue). (node : NodeId) → has_key same_id ids_in t.layout c.args.target.now node ≡ false) c.self.view_is c.in_default.ensures)

pub returns-in-Ok-clause-prepared : goal.returns-in-Ok-clause-prepared
returns-in-Ok-clause-prepared c =
    let has : has_key same_id ids_in c.args.self.now.layout c.args.target.now c.in-Some.node ≡ true =
    subst (λ (t : TableValue). has_key same_id ids_in t.layout c.args.target.now c.in-Some.node ≡ true) c.self.view_is c.in-Some.ensures in (
      c.in-Some.node,
      key_kept c.args.self.now c.prepare_lines.new.self (added_nodes c.prepare_lines.new.items.items) c.in-Ok.ensures.added (collation c.args.self.now) c.args.target.now c.in-Some.node has,
      c.in-Ok.ensures.prepared,
    )
