-- A body with a node made is sound.
use Rattle.coll_nodes.proofs.MadeBodies.{reserved_sound, made_sound_if}
use Rattle.coll_nodes.proofs.bodies.Body.make.Goals as goal

pub invariant_of-self : goal.invariant_of-self
invariant_of-self c =
    let p = c.self.inside in
    reserved_sound p.declarations p.sections p.counts p.nodes.layout p.keys c.reserve.new.self c.self.invariant c.reserve.ensures.leads c.reserve.ensures.keeps

pub invariant_of-self-2 : goal.invariant_of-self-2
invariant_of-self-2 c =
    let p = c.self.inside in
    made_sound_if c.make.result p.nodes c.make.new.self c.args.node p.declarations p.sections p.counts c.reserve.new.self
    (reserved_sound p.declarations p.sections p.counts p.nodes.layout p.keys c.reserve.new.self c.self.invariant c.reserve.ensures.leads c.reserve.ensures.keeps)
    c.make.ensures.made c.make.ensures.apart c.make.ensures.rings c.make.ensures.err c.in_ok-reserve.ensures.keys c.requires.may
