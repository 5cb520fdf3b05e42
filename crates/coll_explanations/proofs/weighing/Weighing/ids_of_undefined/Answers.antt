-- The weights of UNDEFINED's entry, or itself.
use Rattle.std.proofs.Common.{◌≡◌, ◌∙◌, ◌∷◌, [], ℕ, get_or, map, None, Some, sym, ap, ap₂, arith}
use Rattle.std.specs.Prelude.{option_copied, unwrap_or}
use Rattle.coll_syntax.specs.declared.identifiers.Id.{Id}
use Rattle.coll_syntax.specs.declared.identifiers.Id.TheVariants.{Undefined}
use Rattle.coll_syntax.specs.declared.weights.Weight.TheVariants.{Ignore}
use Rattle.coll_nodes.specs.Placement.{entry_at}
use Rattle.coll_nodes.specs.Table.{entries_of}
use Rattle.coll_nodes.specs.TableLayout.{collation}
use Rattle.coll_explanations.specs.Sources.{source, weight_sources}
use Rattle.coll_explanations.proofs.SourceLemmas.{undefined_sources, unplaced_sources}
use Rattle.coll_explanations.proofs.weighing.Weighing.ids_of_undefined.Goals as goal

pub returns-in-Some : goal.returns-in-Some
returns-in-Some c =
    let table = collation c.self.inside.table.now in
    let element = c.args.element.now in
    let entry = c.in-Some.entry.now in
    let absent = rw (← c.self.view_is) at c.requires.absent in
    let is : entry_at (entries_of table) Undefined ≡ Some entry = ap (entry_at (entries_of table)) (sym c.self.invariant.2) ∙ (sym c.entry.ensures ∙ ap option_copied c.in-Some.is) in
    let weight : unwrap_or (option_copied c.get.result) Ignore ≡ get_or entry.weights c.args.level Ignore =
    c.get.ensures.lookup.4 (omega arith) Ignore ∙ ap (λ ws. get_or ws c.args.level Ignore) c.weights.ensures in
    let own = ap₂ (λ (n : ℕ) (u : Id). weight_sources table element (source table n element u) (unwrap_or (option_copied c.get.result) Ignore)) c.code_point-added.ensures c.self.invariant.2 in
    rw (← c.self.view_is) (c.ids_of.ensures table element ∙ own ∙ undefined_sources table c.args.level element _ absent entry is weight)

pub returns-in-None : goal.returns-in-None
returns-in-None c =
    let table = collation c.self.inside.table.now in
    let element = c.args.element.now in
    let absent = rw (← c.self.view_is) at c.requires.absent in
    let within = rw (← c.self.view_is) at c.requires.level in
    let is : entry_at (entries_of table) Undefined ≡ None = ap (entry_at (entries_of table)) (sym c.self.invariant.2) ∙ (sym c.entry.ensures ∙ ap option_copied c.in-None.is) in
    let one = ap (map (source table c.code_point-added.result element)) (c.from_ref.ensures.value ∙ ap (λ u. u ∷ []) c.self.invariant.2) in
    let added = ap (λ (n : ℕ). source table n element Undefined ∷ []) c.code_point-added.ensures in
    rw (← c.self.view_is) (one ∙ added ∙ unplaced_sources table c.args.level element absent is within)
