-- A step of a walk through declarations.
use Rattle.std.proofs.Common.{sym, ap, ◌∙◌}
use Rattle.coll_nodes.proofs.WalkLemmas.{at_declaration, declaration_is, on_declared, visited_declared, goes_on}
use Rattle.coll_nodes.specs.WalkItems.{declared_by}
use Rattle.coll_nodes.specs.WalkStates.{declared_left}
use Rattle.coll_nodes.proofs.walks.DeclaredIterator.next.Goals as goal

pub declaration_of-requires : goal.declaration_of-requires
declaration_of-requires c =
    let layout = c.self.inside.nodes.now.layout in
    declaration_is layout c.in_ok-node.node (at_declaration layout c.self.inside.next c.in_ok-node.node c.in_ok-node.was c.self.invariant)

pub invariant_of-self : goal.invariant_of-self
invariant_of-self c =
    let layout = c.self.inside.nodes.now.layout in
    on_declared layout c.in_ok-node.node (at_declaration layout c.self.inside.next c.in_ok-node.node c.in_ok-node.was c.self.invariant) c.next-self-inside.result c.next-self-inside.ensures

pub returns-clause-steps : goal.returns-clause-steps
returns-clause-steps c =
    let layout = c.self.inside.nodes.now.layout in
    let on = at_declaration layout c.self.inside.next c.in_ok-node.node c.in_ok-node.was c.self.invariant in
    sym c.self.view_is ∙ (ap (declared_left layout) c.in_ok-node.was
    ∙ visited_declared layout c.in_ok-node.node on c.next-self-inside.result c.next-self-inside.ensures (declared_by c.declaration_of.result) c.declaration_of.ensures)

pub returns-clause-goes : goal.returns-clause-goes
returns-clause-goes c =
    let layout = c.self.inside.nodes.now.layout in
    let on = at_declaration layout c.self.inside.next c.in_ok-node.node c.in_ok-node.was c.self.invariant in
    goes_on _ _ _ (declared_by c.declaration_of.result)
    (sym c.self.view_is ∙ (ap (declared_left layout) c.in_ok-node.was ∙ visited_declared layout c.in_ok-node.node on c.next-self-inside.result c.next-self-inside.ensures
    (declared_by c.declaration_of.result) c.declaration_of.ensures))
