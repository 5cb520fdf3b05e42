-- A step of a walk: to an entry, or to a section.
use Rattle.std.proofs.Common.{None, sym, ap, ◌∙◌, chars}
use Rattle.coll_nodes.proofs.WalkLemmas.{at_entry, at_section, entry_is, on_entry, visited_entry, section_is, ring_is, on_section, visited_section, goes_on}
use Rattle.coll_nodes.specs.Walks.{VisitedSection, VisitedEntry}
use Rattle.coll_nodes.specs.WalkStates.{visited_left}
use Rattle.coll_nodes.proofs.walks.WalkIterator.next.Goals as goal

pub entry_of-requires : goal.entry_of-requires
entry_of-requires c =
    let p = c.self.inside in let layout = p.nodes.now.layout in
    entry_is layout p.ring c.in-Some.node p.section (at_entry layout p.ring p.entry p.section c.in-Some.node c.in-Some.is c.self.invariant)

pub invariant_of-self : goal.invariant_of-self
invariant_of-self c =
    let p = c.self.inside in let layout = p.nodes.now.layout in
    on_entry layout p.ring c.in-Some.node p.section (at_entry layout p.ring p.entry p.section c.in-Some.node c.in-Some.is c.self.invariant) c.next-self-inside.result c.next-self-inside.ensures

pub returns-in-Some-clause-steps : goal.returns-in-Some-clause-steps
returns-in-Some-clause-steps c =
    let p = c.self.inside in let layout = p.nodes.now.layout in
    let on = at_entry layout p.ring p.entry p.section c.in-Some.node c.in-Some.is c.self.invariant in
    sym c.self.view_is ∙ (ap (λ entry. visited_left layout p.ring entry p.section) c.in-Some.is
    ∙ visited_entry layout p.ring c.in-Some.node p.section on c.next-self-inside.result c.next-self-inside.ensures c.entry_of.result.now c.entry_of.ensures)

pub returns-in-Some-clause-goes : goal.returns-in-Some-clause-goes
returns-in-Some-clause-goes c =
    let p = c.self.inside in let layout = p.nodes.now.layout in
    let on = at_entry layout p.ring p.entry p.section c.in-Some.node c.in-Some.is c.self.invariant in
    goes_on _ _ _ (VisitedEntry c.entry_of.result.now) (sym c.self.view_is ∙ (ap (λ entry. visited_left layout p.ring entry p.section) c.in-Some.is
    ∙ visited_entry layout p.ring c.in-Some.node p.section on c.next-self-inside.result c.next-self-inside.ensures c.entry_of.result.now c.entry_of.ensures))

pub section_of-requires : goal.section_of-requires
section_of-requires c =
    let p = c.self.inside in let layout = p.nodes.now.layout in
    let is = section_is layout p.ring c.in_ok-node.node (at_section layout p.ring p.entry p.section c.in_ok-node.node c.in_default.is c.in_ok-node.was c.self.invariant) in
    (is.0, is.1.0, is.1.1)

pub first-self-inside-requires : goal.first-self-inside-requires
first-self-inside-requires c =
    let p = c.self.inside in let layout = p.nodes.now.layout in
    ring_is layout p.ring c.in_ok-node.node (at_section layout p.ring p.entry p.section c.in_ok-node.node c.in_default.is c.in_ok-node.was c.self.invariant) _ c.section_of.result.1
    c.section_of.ensures

pub invariant_of-self-2 : goal.invariant_of-self-2
invariant_of-self-2 c =
    let p = c.self.inside in let layout = p.nodes.now.layout in
    on_section layout p.ring c.in_ok-node.node (at_section layout p.ring p.entry p.section c.in_ok-node.node c.in_default.is c.in_ok-node.was c.self.invariant) _ c.section_of.result.1
    c.section_of.ensures c.next-self-inside-2.result c.next-self-inside-2.ensures c.first-self-inside.result c.first-self-inside.ensures

pub returns-clause-steps : goal.returns-clause-steps
returns-clause-steps c =
    let p = c.self.inside in let layout = p.nodes.now.layout in
    let on = at_section layout p.ring p.entry p.section c.in_ok-node.node c.in_default.is c.in_ok-node.was c.self.invariant in
    sym c.self.view_is ∙ (ap (λ entry. visited_left layout p.ring entry p.section) c.in_default.is ∙ (ap (visited_left layout p.ring None) c.in_ok-node.was
    ∙ visited_section layout p.ring c.in_ok-node.node on (chars c.section_of.result.0.now) c.section_of.result.1 c.section_of.ensures c.next-self-inside-2.result c.next-self-inside-2.ensures
    c.first-self-inside.result c.first-self-inside.ensures))

pub returns-clause-goes : goal.returns-clause-goes
returns-clause-goes c =
    let p = c.self.inside in let layout = p.nodes.now.layout in
    let on = at_section layout p.ring p.entry p.section c.in_ok-node.node c.in_default.is c.in_ok-node.was c.self.invariant in
    goes_on _ _ _ (VisitedSection (chars c.section_of.result.0.now))
    (sym c.self.view_is ∙ (ap (λ entry. visited_left layout p.ring entry p.section) c.in_default.is ∙ (ap (visited_left layout p.ring None) c.in_ok-node.was
    ∙ visited_section layout p.ring c.in_ok-node.node on (chars c.section_of.result.0.now) c.section_of.result.1 c.section_of.ensures c.next-self-inside-2.result c.next-self-inside-2.ensures
    c.first-self-inside.result c.first-self-inside.ensures)))
