-- The identifiers of what the text is split into are its elements.
use Rattle.std.proofs.Common.{◌≡◌, ◌≤◌, ◌∙◌, List, chars, length, map, sym, ap, subst}
use Rattle.std.specs.Prelude.{IfOk}
use Rattle.coll_syntax.specs.declared.identifiers.Id.{Id}
use Rattle.coll_nodes.specs.TableLayout.{collation}
use Rattle.coll_elements.specs.Elements.{elements_of}
use Rattle.coll_explanations.specs.ToldSteps.{id_of}
use Rattle.coll_explanations.proofs.SourceLemmas.{few_ids, ids_are, if_ok_follows}
use Rattle.coll_explanations.proofs.explaining.element_ids.Goals as goal

pub returns-clause-ids : goal.returns-clause-ids
returns-clause-ids c =
    let table = collation c.args.table.now in
    let elements = elements_of table (chars c.args.text.now) in
    let are = ap (map id_of) c.deref.ensures.value ∙ ids_are table elements c.in_ok-elements.elements.items c.in_ok-elements.ensures in
    subst (λ (list : List Id). IfOk c.ids_of.result (λ ids. ids.items ≡ list)) are c.ids_of.ensures

pub returns-clause-few : goal.returns-clause-few
returns-clause-few c =
    let table = collation c.args.table.now in
    let elements = elements_of table (chars c.args.text.now) in
    let are = ap (map id_of) c.deref.ensures.value ∙ ids_are table elements c.in_ok-elements.elements.items c.in_ok-elements.ensures in
    let few : length elements ≤ 65_536 = few_ids table (chars c.args.text.now) c.requires in
    if_ok_follows c.ids_of.result (λ ids is. subst (λ (list : List Id). length list ≤ 65_536) (sym (is ∙ are)) few) c.ids_of.ensures
