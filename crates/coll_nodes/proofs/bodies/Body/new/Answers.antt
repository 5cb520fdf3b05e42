-- A body of nothing is sound.
use Rattle.std.proofs.Common.{◌≡◌, [], ◌∷◌, ◌∙◌}
use Rattle.coll_nodes.proofs.BodySteps.{nothing_sound}
use Rattle.coll_nodes.proofs.bodies.Body.new.Goals as goal

laid : (c : goal.After-new-2) → c.new_ring-2.new.self.layout ≡ record { rings = [] ∷ [] ∷ []; nodes = [] }
laid c = rw (c.in_ok-sections.ensures.ok, c.in_ok-declarations.ensures.ok, c.new-nodes.ensures)

pub invariant_of-result : goal.invariant_of-result
invariant_of-result c =
    let first : c.in_ok-declarations.declarations.index ≡ 0 = c.in_ok-declarations.ensures.ring ∙ rw (c.new-nodes.ensures) in
    let second : c.in_ok-sections.sections.index ≡ 1 = c.in_ok-sections.ensures.ring ∙ rw (c.in_ok-declarations.ensures.ok, c.new-nodes.ensures) in
    rw (laid c, c.in_ok-keys.ensures, c.new-2.ensures) (nothing_sound c.in_ok-declarations.declarations c.in_ok-sections.sections first second)
