-- A body with a section made is sound.
use Rattle.coll_nodes.proofs.MadeBodies.{reserved_sound, section_sound_if}
use Rattle.coll_nodes.proofs.bodies.Body.make_section.Goals as goal

pub invariant_of-self : goal.invariant_of-self
invariant_of-self c =
    let p = c.self.inside in
    reserved_sound p.declarations p.sections p.counts p.nodes.layout p.keys c.reserve_section.new.self c.self.invariant c.reserve_section.ensures.leads c.reserve_section.ensures.keeps

pub invariant_of-self-2 : goal.invariant_of-self-2
invariant_of-self-2 c =
    let p = c.self.inside in
    section_sound_if c.make_section.result p.nodes c.make_section.new.self c.args.name p.declarations p.sections p.counts c.reserve_section.new.self
    (reserved_sound p.declarations p.sections p.counts p.nodes.layout p.keys c.reserve_section.new.self c.self.invariant c.reserve_section.ensures.leads c.reserve_section.ensures.keeps)
    c.make_section.ensures.made c.make_section.ensures.err c.in_ok-reserve_section.ensures.keys
