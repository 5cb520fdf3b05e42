-- The elements that have a rank are those placed.
use Rattle.std.proofs.Common.{◌≡◌, List, ◌++◌, All, IfOk, sym, subst, ap₂, ◌∙◌}
use Rattle.std.specs.List.{flat_map}
use Rattle.coll_lookups.specs.NamePlaces.{place_named}
use Rattle.coll_nodes.specs.TableLayout.{collation}
use Rattle.coll_nodes.specs.declared.declarations.Declaration.{Declaration}
use Rattle.coll_elements.specs.TableElements.{HasString, ranked_declared}
use Rattle.coll_elements.specs.RankedElements.{RankedElement}
use Rattle.coll_elements.proofs.TableElementLemmas.{have_strings, elements_ranked}
use Rattle.coll_elements.proofs.table_elements.named_elements.Goals as goal

pub put_all-requires-clause-some : goal.put_all-requires-clause-some
put_all-requires-clause-some c = subst (All HasString) (sym c.declared.ensures) (have_strings _ c.lemma_well_formed.ensures.well_formed.built.texts)

pub returns-clause-elements : goal.returns-clause-elements
returns-clause-elements c =
    let all = elements_ranked (collation c.args.table.now) c.args.places.now (collation c.args.table.now).declared c.requires in
    let same = ap₂ (λ (es : List RankedElement) (ds : List Declaration). es ++ flat_map (ranked_declared (place_named c.args.places.now)) ds) c.new.ensures c.declared.ensures in
    subst (λ (es : List RankedElement). IfOk c.put_all.result (λ all. all ≡ es)) (same ∙ all) c.put_all.ensures.all
