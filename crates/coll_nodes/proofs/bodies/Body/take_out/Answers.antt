-- A body with a node taken out is sound.
use Rattle.std.proofs.Common.{◌≡◌, Some, sym, ap, ◌∙◌}
use Rattle.coll_nodes.specs.TableLayout.{TableLayout, content_of}
use Rattle.coll_nodes.proofs.TakenBodies.{taken_sound, counts_taken, one_there, may_be_loose}
use Rattle.coll_nodes.proofs.bodies.Body.take_out.Goals as goal

pub without-self-inside-requires : goal.without-self-inside-requires
without-self-inside-requires c =
    let layout = c.self.inside.nodes.layout in
    let linked = rw (← c.self.view_is) at c.requires.linked in
    let suits = rw (← c.self.view_is) at c.requires.suits in
    let known : content_of layout c.args.node ≡ Some c.content-content.result.now =
    ap (λ (l : TableLayout). content_of l c.args.node) (sym c.unlink-place.ensures.layout) ∙ c.content-content.ensures in
    record {
      one = one_there c.content-content.result.now c.self.inside.counts _
          (c.self.invariant.counted ∙ counts_taken layout c.args.node c.content-content.result.now c.unlink-place.result known c.unlink-place.ensures.place
          c.lemma_layout.ensures.once c.self.invariant.shaped linked (may_be_loose layout c.args.node c.content-content.result.now known suits));
    }

pub invariant_of-self : goal.invariant_of-self
invariant_of-self c =
    let p = c.self.inside in
    let layout = p.nodes.layout in
    let linked = rw (← c.self.view_is) at c.requires.linked in
    let suits = rw (← c.self.view_is) at c.requires.suits in
    let known : content_of layout c.args.node ≡ Some c.content-content.result.now =
    ap (λ (l : TableLayout). content_of l c.args.node) (sym c.unlink-place.ensures.layout) ∙ c.content-content.ensures in
    rw (c.unlink-place.ensures.layout)
    (taken_sound layout c.args.node c.content-content.result.now c.unlink-place.result p.declarations p.sections p.keys c.set.new.self p.counts c.without-self-inside.result
    c.self.invariant c.lemma_layout.ensures.once known c.unlink-place.ensures.place linked (may_be_loose layout c.args.node c.content-content.result.now known suits)
    c.set.ensures.set c.set.ensures.keeps c.without-self-inside.ensures)
