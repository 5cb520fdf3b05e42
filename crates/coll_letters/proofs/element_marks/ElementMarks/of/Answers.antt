-- Each declaration is looked at, down to the last.
use Rattle.std.proofs.Common.{All, sym, subst}
use Rattle.std.proofs.lemmas.List.Elements.{All-tail}
use Rattle.coll_nodes.specs.WalkItems.{declared_by}
use Rattle.coll_elements.specs.TableElements.{HasString}
use Rattle.coll_elements.proofs.TableElementLemmas.{have_strings}
use Rattle.coll_letters.specs.ElementMarks.{TellOfAll}
use Rattle.coll_letters.proofs.MarkLemmas.{kept_marks, kept_on, tells_still}
use Rattle.coll_letters.proofs.element_marks.ElementMarks.of.Goals as goal

pub declared-init : goal.declared-init
declared-init c = record {
  some = subst (All HasString) (sym c.declared-left.ensures) (have_strings _ c.lemma_well_formed.ensures.well_formed.built.texts);
  so_far = λ marks kept told. subst (TellOfAll marks) c.declared-left.ensures told;
}

pub declared-preserved : goal.declared-preserved
declared-preserved c = record {
  some = All-tail HasString (declared_by c.in-Some.item) c.next.new.self (subst (All HasString) c.in-Some.ensures.steps c.declared.invariant.some);
  so_far = λ marks kept told. c.declared.invariant.so_far marks (kept_on c.declared.marks c.mark_declared.new.marks marks c.in_ok-mark_declared.ensures.kept kept)
      (subst (TellOfAll marks) (sym c.in-Some.ensures.steps) (tells_still c.mark_declared.new.marks marks kept (declared_by c.in-Some.item) c.in_ok-mark_declared.ensures.told, told));
}

pub returns : goal.returns
returns c = c.declared.invariant.so_far c.declared.marks (kept_marks c.declared.marks) (subst (TellOfAll c.declared.marks) (sym c.in_default.ensures.steps.0) tt)
