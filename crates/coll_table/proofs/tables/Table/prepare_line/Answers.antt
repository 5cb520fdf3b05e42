-- The item of a line, whose entry has a node, or gets one.
use Rattle.std.proofs.Common.{◌≡◌, false, subst}
use Rattle.coll_order.specs.declared.places.NodeId.{NodeId}
use Rattle.coll_order.specs.declared.places.Place.TheVariants.{After}
use Rattle.coll_syntax.specs.Identifier.{same_id}
use Rattle.coll_nodes.specs.SoundBodies.{IsShaped, has_key, ids_in}
use Rattle.coll_nodes.specs.TableLayout.{TableValue}
use Rattle.coll_table.proofs.GrowthLemmas.{none_added}
use Rattle.coll_table.proofs.PreparedLemmas.{prepared_here, prepared_new}
use Rattle.coll_table.proofs.tables.Table.prepare_line.Goals as goal

pub returns-in-Some-clause-prepared : goal.returns-in-Some-clause-prepared
returns-in-Some-clause-prepared c =
    prepared_here c.args.self.now c.args.before c.in-Some.node (After c.args.before) c.args.line.now c.in_ok-weights.weights
    (subst (λ (t : TableValue). IsShaped t.layout) c.self.view_is c.lemma_layout.ensures.shaped)
    (subst (λ (t : TableValue). has_key same_id ids_in t.layout c.args.line.now.id c.in-Some.node ≡ _) c.self.view_is c.in-Some.ensures) c.in_ok-weights.ensures

pub returns-in-Some-clause-added : goal.returns-in-Some-clause-added
returns-in-Some-clause-added c = none_added c.args.self.now

pub returns-in_ok-node-in-None-clause-prepared : goal.returns-in_ok-node-in-None-clause-prepared
returns-in_ok-node-in-None-clause-prepared c =
    prepared_new c.args.self.now c.make_entry.new.self c.args.before c.in_ok-node-in-None.node c.args.line.now c.in_ok-weights.weights
    (subst (λ (t : TableValue). IsShaped t.layout) c.self.view_is c.lemma_layout.ensures.shaped)
    (subst (λ (t : TableValue). (node : NodeId) → has_key same_id ids_in t.layout c.args.line.now.id node ≡ false) c.self.view_is c.in-None.ensures)
    c.in_ok-weights.ensures c.in_ok-node-in-None.ensures.added c.in_ok-node-in-None.ensures.made
