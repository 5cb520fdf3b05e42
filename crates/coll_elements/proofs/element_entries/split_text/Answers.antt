-- One element more is known.
use Rattle.std.proofs.Common.{◌++◌, ◌∷◌, [], sym, ap, subst, ◌∙◌, append_assoc, append-nil, chars, rules}
use Rattle.coll_nodes.specs.TableLayout.{collation}
use Rattle.coll_elements.specs.Elements.{elements_of}
use Rattle.coll_elements.specs.ElementEntries.{AreElementsOf}
use Rattle.coll_elements.proofs.ElementEntries.{no_elements, one_more}
use Rattle.coll_elements.proofs.element_entries.split_text.Goals as goal

pub elements-preserved : goal.elements-preserved
elements-preserved c =
    let table = collation c.args.table.now in
    let known = c.elements.invariant.elements in
    let first = c.in-Some.ensures.element in
    let rest = elements_of table (chars c.in-Some.rest.now) in
    record {
      text = search rules;
      elements = (
        known.0 ++ first.0 ∷ [],
        known.1 ∙ (ap (λ ids. known.0 ++ ids) first.1 ∙ sym (append_assoc known.0 (first.0 ∷ []) rest)),
        subst (AreElementsOf table (known.0 ++ first.0 ∷ [])) (sym c.in_ok-push.ensures.items) (one_more table known.0 c.elements.elements.items first.0 c.in-Some.element known.2 first.2),
      );
    }

pub returns : goal.returns
returns c =
    let table = collation c.args.table.now in
    let known = c.elements.invariant.elements in
    let all = known.1 ∙ (ap (λ t. known.0 ++ elements_of table t) c.in_default.ensures.none ∙ (ap (λ ids. known.0 ++ ids) (no_elements table) ∙ append-nil known.0)) in
    subst (λ ids. AreElementsOf table ids c.elements.elements.items) (sym all) known.2
