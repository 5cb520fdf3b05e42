-- The entry of a line that is accepted may be put behind all others.
use Rattle.std.proofs.Common.{◌≡◌, false, None, ap, sym, subst, ◌∙◌}
use Rattle.coll_nodes.specs.Causes.{refused_if}
use Rattle.coll_nodes.specs.Table.{is_placed_in}
use Rattle.coll_nodes.specs.declared.entries.Entry.{Entry}
use Rattle.coll_texts.specs.declared.load_faults.LoadCause.TheVariants.{PlacedTwice}
use Rattle.coll_texts.specs.BuilderStates.{own_order, order_cause, levels_of}
use Rattle.coll_nodes.specs.Entries.{entry_of}
use Rattle.coll_syntax.specs.declared.statements.OrderLine.{OrderLine}
use Rattle.coll_texts.specs.SoundStates.{MayBePut}
use Rattle.coll_texts.proofs.SoundLines.{proper_own, may_be_put}
use Rattle.coll_texts.proofs.table_builder.TableBuilder.place_behind.Goals as goal

pub put-requires : goal.put-requires
put-requires c =
    let d = c.args.self.now in
    λ absent.
    let accepted = c.in_default.ensures.free ∙ ap (λ b. refused_if b PlacedTwice None) (subst (λ (entry : Entry). is_placed_in d.sections entry.id ≡ false) c.in_ok-entry.ensures absent) in
    subst (MayBePut d) (sym c.in_ok-entry.ensures)
    (subst (λ (line : OrderLine). MayBePut d (entry_of (levels_of d.rules) d.declared line)) (sym c.in_ok-line.ensures.own) (may_be_put d (own_order d.declared c.args.line) c.lemma_sound.ensures
    (proper_own d c.args.line c.lemma_sound.ensures c.requires) (subst (λ (line : OrderLine). order_cause d line ≡ None) c.in_ok-line.ensures.own accepted)))
