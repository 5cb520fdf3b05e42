-- Each declaration that is an element with a rank is put behind the others.
use Rattle.std.proofs.Common.{All, subst}
use Rattle.std.proofs.lemmas.List.Elements.{All-tail}
use Rattle.coll_lookups.specs.NamePlaces.{place_named}
use Rattle.coll_nodes.specs.WalkItems.{declared_by}
use Rattle.coll_elements.specs.TableElements.{HasString}
use Rattle.coll_elements.proofs.TableElementLemmas.{put_more, few_more}
use Rattle.coll_elements.proofs.table_elements.put_all.Goals as goal

pub declared-preserved : goal.declared-preserved
declared-preserved c = record {
  whole = put_more c.declared.all c.in_ok-all.all _ (place_named c.args.places.now) c.declared.left c.next.new.self (declared_by c.in-Some.item) c.in-Some.ensures.steps c.in_ok-all.ensures
      c.declared.invariant.whole;
  some = All-tail HasString (declared_by c.in-Some.item) c.next.new.self (subst (All HasString) c.in-Some.ensures.steps c.declared.invariant.some);
  few = few_more c.declared.all c.in_ok-all.all (place_named c.args.places.now) c.declared.left c.next.new.self (declared_by c.in-Some.item) c.in-Some.ensures.steps c.in_ok-all.ensures
      c.declared.invariant.few;
}
