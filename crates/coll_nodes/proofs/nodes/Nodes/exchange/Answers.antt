-- The content of a node has other weights.
use Rattle.std.proofs.Common.{◌≡◌, Some, None, IsSome, set, sym, ap, ◌∙◌}
use Rattle.std.specs.Option.{option_copied_mut}
use Rattle.std.proofs.lemmas.List.{get_or-set_same, get_or-set_other}
use Rattle.coll_nodes.specs.Bodies.{slot_of}
use Rattle.coll_nodes.specs.Moving.{exchanged}
use Rattle.coll_nodes.proofs.AlikeLayouts.{reweighed}
use Rattle.coll_nodes.proofs.ChangedTags.{layout_weighed}
use Rattle.coll_nodes.proofs.NodeLemmas.{made_tagged, content_at, some_not_none}
use Rattle.coll_nodes.proofs.NodeTags.{within}
use Rattle.coll_nodes.proofs.nodes.Nodes.exchange.Goals as goal

pub tag-tag-requires : goal.tag-tag-requires
tag-tag-requires c =
    let there = rw (← c.self.view_is) at c.requires.made in
    record { there = made_tagged c.self.inside.rings.layout c.self.inside.contents.slots c.args.node c.self.invariant there }

pub unreachable-requires : goal.unreachable-requires
unreachable-requires c =
    let there : IsSome (slot_of c.self.inside.contents.slots c.tag-tag.result) = c.self.invariant.lead c.args.node.key c.tag-tag.result c.tag-tag.ensures in
    some_not_none (slot_of c.self.inside.contents.slots c.tag-tag.result) there (sym c.get_mut.ensures.value ∙ ap option_copied_mut c.in_default.is)

pub returns-clause-nodes : goal.returns-clause-nodes
returns-clause-nodes c =
    let p = c.self.inside in
    let slots = p.contents.slots in
    let tag = c.tag-tag.result in
    let now : Some c.in-Some.content.now ≡ slot_of slots tag = sym (ap option_copied_mut c.in-Some.is) ∙ c.get_mut.ensures.value in
    let there = c.self.invariant.lead c.args.node.key tag c.tag-tag.ensures in
    let changed : Some c.exchange.new.self ≡ reweighed (Some c.args.weights.now) (slot_of slots tag) = ap Some c.exchange.ensures.content ∙ ap (reweighed (Some c.args.weights.now)) now in
    rw (← c.self.view_is) (layout_weighed p.rings.layout slots c.args.node tag c.self.invariant c.tag-tag.ensures (set slots tag (Some c.exchange.new.self))
    (λ other differ. get_or-set_other slots tag other (Some c.exchange.new.self) None differ) (Some c.args.weights.now)
    (get_or-set_same slots tag (Some c.exchange.new.self) None (within slots tag there) ∙ changed))

pub returns-clause-weights : goal.returns-clause-weights
returns-clause-weights c =
    let p = c.self.inside in
    let slots = p.contents.slots in
    let tag = c.tag-tag.result in
    let now : Some c.in-Some.content.now ≡ slot_of slots tag = sym (ap option_copied_mut c.in-Some.is) ∙ c.get_mut.ensures.value in
    rw (← c.self.view_is) (c.exchange.ensures.weights ∙ ap (exchanged (Some c.args.weights.now)) (now ∙ sym (content_at p.rings.layout slots c.args.node tag c.self.invariant c.tag-tag.ensures)))
