-- What is declared has strings.
use Rattle.std.proofs.Common.{All, sym, subst}
use Rattle.std.proofs.lemmas.List.Elements.{All-head, All-tail}
use Rattle.coll_nodes.specs.WalkItems.{declared_by}
use Rattle.coll_elements.specs.TableElements.{HasString}
use Rattle.coll_elements.proofs.TableElementLemmas.{have_strings}
use Rattle.coll_letters.proofs.element_marks.ElementMarks.since.Goals as goal

pub declared-init : goal.declared-init
declared-init c = subst (All HasString) (sym c.declared-left.ensures) (have_strings _ c.lemma_well_formed.ensures.well_formed.built.texts)

pub declared-preserved : goal.declared-preserved
declared-preserved c = All-tail HasString (declared_by c.in-Some.item) c.next.new.self (subst (All HasString) c.in-Some.ensures.steps c.declared.invariant)
