-- The weights of the element's entry, or those of UNDEFINED.
use Rattle.std.proofs.Common.{◌≡◌, ◌∙◌, get_or, is_some, Some, sym, ap, arith}
use Rattle.std.specs.Prelude.{option_copied, unwrap_or}
use Rattle.coll_syntax.specs.declared.weights.Weight.TheVariants.{Ignore}
use Rattle.coll_nodes.specs.Placement.{entry_at}
use Rattle.coll_nodes.specs.Table.{entries_of}
use Rattle.coll_nodes.specs.TableLayout.{collation}
use Rattle.coll_nodes.proofs.EntryLemmas.{entry_there}
use Rattle.coll_explanations.proofs.SourceLemmas.{placed_sources}
use Rattle.coll_explanations.proofs.weighing.Weighing.ids.Goals as goal

pub ids_of_undefined-requires-clause-absent : goal.ids_of_undefined-requires-clause-absent
ids_of_undefined-requires-clause-absent c =
    let entries = entries_of (collation c.self.inside.table.now) in
    rw (← c.self.view_is) (entry_there entries c.args.element.now ∙ (ap is_some (sym c.entry.ensures) ∙ ap (λ e. is_some (option_copied e)) c.in-None.is))

pub returns-in-Some : goal.returns-in-Some
returns-in-Some c =
    let table = collation c.self.inside.table.now in
    let entry = c.in-Some.entry.now in
    let is : entry_at (entries_of table) c.args.element.now ≡ Some entry = sym c.entry.ensures ∙ ap option_copied c.in-Some.is in
    let weight : unwrap_or (option_copied c.get.result) Ignore ≡ get_or entry.weights c.args.level Ignore =
    c.get.ensures.lookup.4 (omega arith) Ignore ∙ ap (λ ws. get_or ws c.args.level Ignore) c.weights.ensures in
    rw (← c.self.view_is) (c.ids_of.ensures table c.args.element.now ∙ placed_sources table c.args.level c.args.element.now _ entry is weight)
