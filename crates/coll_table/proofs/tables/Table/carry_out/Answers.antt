-- The table that results is well formed.
use Rattle.std.proofs.Common.{◌≡◌, subst, sym, ap, ◌∙◌}
use Rattle.coll_nodes.specs.TableLayout.{TableLayout, TableValue, collation, declared_at, sections_at}
use Rattle.coll_table.specs.Turning.{turned_on}
use Rattle.coll_nodes.specs.WellFormed.{IsWellFormed}
use Rattle.coll_table.proofs.tables.Table.carry_out.Goals as goal

pub invariant_of-self : goal.invariant_of-self
unfolding collation
invariant_of-self c =
    let layout : c.do_items.new.body.layout ≡ turned_on c.self.inside.body.layout c.args.items.items = c.do_items.ensures.layout ∙ ap (turned_on c.self.inside.body.layout) c.deref_mut.ensures.value in
    subst (λ (l : TableLayout). IsWellFormed (record { rules = c.self.inside.rules; declared = declared_at l; sections = sections_at l })) (sym layout)
    (subst (λ (t : TableValue). IsWellFormed (collation (record t { layout = turned_on t.layout c.args.items.items }))) (sym c.self.view_is) c.requires.well_formed)
