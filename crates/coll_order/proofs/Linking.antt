-- Putting a node in: what the writes make of the links, and of the rings that they hold.
use Rattle.std.proofs.Common.{◌≡◌, ℕ, suc, true, false, cond, List, [], ◌∷◌, Some, None, length, sym, ap, subst, ◌∙◌, refl}
use Rattle.coll_order.specs.Laid.{IsRun, AreRuns, Holds}
use Rattle.coll_order.specs.Lists.{same_node, same_place, has_node, put_after}
use Rattle.coll_order.specs.Layout.{head_of, is_in, rings_with}
use Rattle.coll_order.specs.Sound.{AreDistinct, StandOnce}
use Rattle.coll_order.specs.Store.{Links, next_at, before_at, is_node, Joins}
use Rattle.coll_order.specs.declared.places.NodeId.{NodeId}
use Rattle.coll_order.specs.declared.places.Place.{Place}
use Rattle.coll_order.specs.declared.places.Place.TheVariants.{After}
use Rattle.coll_order.proofs.Sameness.{by_test, not_both, same_node_is, same_node_itself, other_node, other_node_turned, same_place_is, same_place_itself, other_place}
use Rattle.coll_order.proofs.ListLemmas.{neither, or_first, is_among}
use Rattle.coll_order.proofs.RingLemmas.{length_rings_with, is_in_put_itself, is_in_put}
use Rattle.coll_order.proofs.Runs.{stand_once, apart_is}
use Rattle.coll_order.proofs.Unlinking.{is_node_is, is_other, is_node_of}

-- a loose node stands after a place, and what stood there stands after the node
pub record LinksIn (old new : Links) (node : NodeId) (place : Place) : Type 0 where
  pub was : before_at old node ≡ None
  pub bare : next_at old (After node) ≡ None
  pub elsewhere : same_place place (After node) ≡ false
  pub leads : next_at new place ≡ Some node
  pub own : next_at new (After node) ≡ next_at old place
  pub others : (other : Place) → same_place other (After node) ≡ false → same_place other place ≡ false → next_at new other ≡ next_at old other
  pub here : before_at new node ≡ Some place
  pub after : (other : NodeId) → next_at old place ≡ Some other → before_at new other ≡ Some (After node)
  pub befores : (other : NodeId) → same_node other node ≡ false → is_node (next_at old place) other ≡ false → before_at new other ≡ before_at old other

-- joining a loose node to a place, and to it what stood there, links it
pub links_in : (old between new : Links) (rings : List (List NodeId)) (node : NodeId) (place : Place) → Holds old rings → before_at old node ≡ None → same_place place (After node) ≡ false
    → Joins old between place (Some node) → Joins between new (After node) (next_at old place) → LinksIn old new node place
links_in old between new rings node place holds was elsewhere first second =
    let not_next : (other : NodeId) → next_at old place ≡ Some other → same_node node other ≡ false = λ other next. other_node node other (λ same.
    let known : before_at old other ≡ Some place = holds.back place other next in
    let none : before_at old other ≡ None = ap (before_at old) (sym same) ∙ was in cc) in
    record {
      was = was;
      bare = holds.loose node was;
      elsewhere = elsewhere;
      leads = second.next_others place elsewhere ∙ first.next;
      own = second.next;
      others = λ other apart differ. second.next_others other apart ∙ first.next_others other differ;
      here = second.before_others node (is_other (next_at old place) node (λ next. not_both (same_node_itself node) (not_next node next))) ∙ first.before node refl;
      after = λ other next. second.before other next;
      befores = λ other apart differ. second.before_others other differ ∙ first.before_others other (other_node_turned other node apart);
    }

-- a run in which the place isn't stays
kept_run : (old new : Links) (node : NodeId) (place start : Place) (nodes : List NodeId) → LinksIn old new node place → IsRun old start nodes
    → (place ≡ start → ⊥) → ((y : NodeId) → place ≡ After y → has_node nodes y ≡ false) → has_node nodes node ≡ false → same_place start (After node) ≡ false → IsRun new start nodes
unfolding IsRun
kept_run old new node place start [] step run differ fresh absent apart = step.others start apart (other_place start place (λ same. differ (sym same))) ∙ run
kept_run old new node place start (first ∷ rest) step run differ fresh absent apart =
    let elsewhere = neither (same_node node first) (has_node rest node) absent in
    let not_first : place ≡ After first → ⊥ = λ same. not_both (or_first (same_node first first) (has_node rest first) (same_node_itself first)) (fresh first same) in (
      step.others start apart (other_place start place (λ same. differ (sym same))) ∙ run.0,
      kept_run old new node place (After first) rest step run.1 not_first (λ y same. (neither (same_node y first) (has_node rest y) (fresh y same)).1) elsewhere.1
          (other_node_turned node first elsewhere.0),
    )

-- a run with the node put in is a run
put_run : (old new : Links) (node : NodeId) (place start : Place) (nodes : List NodeId) → LinksIn old new node place → IsRun old start nodes → AreDistinct nodes
    → ((y : NodeId) → start ≡ After y → has_node nodes y ≡ false) → has_node nodes node ≡ false → same_place start (After node) ≡ false → IsRun new start (put_after place node start nodes)
unfolding IsRun
put_run old new node place start [] step run distinct fresh absent apart =
    by_test (λ b. IsRun new start (cond b (node ∷ []) [])) (same_place place start)
    (λ on. let same : place ≡ start = same_place_is place start on in
    (ap (next_at new) (sym same) ∙ step.leads, step.own ∙ (ap (next_at old) same ∙ run)))
    (λ off. step.others start apart (other_place start place (λ same. not_both (subst (λ p. same_place place p ≡ true) (sym same) (same_place_itself place)) off)) ∙ run)
put_run old new node place start (first ∷ rest) step run distinct fresh absent apart =
    let elsewhere = neither (same_node node first) (has_node rest node) absent in
    by_test (λ b. IsRun new start (cond b (node ∷ first ∷ rest) (first ∷ put_after place node (After first) rest))) (same_place place start)
    (λ on. let same : place ≡ start = same_place_is place start on in (
      ap (next_at new) (sym same) ∙ step.leads,
      (
        step.own ∙ (ap (next_at old) same ∙ run.0),
        kept_run old new node place (After first) rest step run.1
            (λ at. not_both (or_first (same_node first first) (has_node rest first) (same_node_itself first)) (fresh first (sym same ∙ at)))
            (λ y at. (neither (same_node y first) (has_node rest y) (fresh y (sym same ∙ at))).1) elsewhere.1 (other_node_turned node first elsewhere.0),
      ),
    ))
    (λ off.
    let differ : same_place start place ≡ false = other_place start place (λ same. not_both (subst (λ p. same_place place p ≡ true) (sym same) (same_place_itself place)) off) in (
      step.others start apart differ ∙ run.0,
      put_run old new node place (After first) rest step run.1 distinct.1 (λ y same. subst (λ n. has_node rest n ≡ false) (cc) distinct.0) elsewhere.1 (other_node_turned node first elsewhere.0),
    ))

-- so are the rings with it
put_runs : (old new : Links) (node : NodeId) (place : Place) (first : ℕ) (rings : List (List NodeId)) → LinksIn old new node place → AreRuns old first rings → StandOnce rings
    → is_in rings node ≡ false
    → AreRuns new first (rings_with place node first rings)
unfolding AreRuns
put_runs old new node place first [] step runs once absent = tt
put_runs old new node place first (nodes ∷ rings) step runs once absent =
    let apart = neither (has_node nodes node) (is_in rings node) absent in
    (put_run old new node place (head_of first) nodes step runs.0 once.0 (λ y same. cc) apart.0 refl, put_runs old new node place (suc first) rings step runs.1 once.2 apart.1)

-- links into which a node is put hold the rings with it
pub linked_holds : (old new : Links) (rings : List (List NodeId)) (node : NodeId) (place : Place) → Holds old rings → LinksIn old new node place → length new.heads ≡ length old.heads
    → is_among place 0 rings ≡ true → ((other : NodeId) → place ≡ After other → (at : Place) × (before_at old other ≡ Some at)) → Holds new (rings_with place node 0 rings)
linked_holds old new rings node place holds step heads among linked = record {
  count = heads ∙ (holds.count ∙ sym (length_rings_with place node 0 rings));
  runs = put_runs old new node place 0 rings step holds.runs (stand_once old holds.back 0 rings holds.runs) (apart_is old rings holds node step.was);
  back = back;
  forth = forth;
  loose = loose;
  covers = covers;
} where
  back : (other : Place) (x : NodeId) → next_at new other ≡ Some x → before_at new x ≡ Some other
  back other x e =
      by_test (λ b. before_at new x ≡ Some other) (same_place other (After node))
      (λ on. let same : other ≡ After node = same_place_is other (After node) on in
      step.after x (sym step.own ∙ (ap (next_at new) (sym same) ∙ e)) ∙ ap Some (sym same))
      (λ apart. by_test (λ b. before_at new x ≡ Some other) (same_place other place)
      (λ on.
      let same : other ≡ place = same_place_is other place on in
      let leads : next_at new other ≡ Some node = ap (next_at new) same ∙ step.leads in
      let found : x ≡ node = cc in
      ap (before_at new) found ∙ (step.here ∙ ap Some (sym same)))
      (λ differ.
      let was : next_at old other ≡ Some x = sym (step.others other apart differ) ∙ e in
      let known : before_at old x ≡ Some other = holds.back other x was in
      let not_node : same_node x node ≡ false = other_node x node (λ same. let none : before_at old x ≡ None = ap (before_at old) same ∙ step.was in cc) in
      let not_next : is_node (next_at old place) x ≡ false = is_other (next_at old place) x (λ next.
      let known_too : before_at old x ≡ Some place = holds.back place x next in
      let twice : other ≡ place = cc in not_both (subst (λ p. same_place other p ≡ true) twice (same_place_itself other)) differ) in
      step.befores x not_node not_next ∙ known))

  forth : (x : NodeId) (other : Place) → before_at new x ≡ Some other → next_at new other ≡ Some x
  forth x other e =
      by_test (λ b. next_at new other ≡ Some x) (same_node x node)
      (λ on.
      let same : x ≡ node = same_node_is x node on in
      let at : before_at new x ≡ Some place = ap (before_at new) same ∙ step.here in
      let here : other ≡ place = cc in
      ap (next_at new) here ∙ (step.leads ∙ ap Some (sym same)))
      (λ apart. by_test (λ b. next_at new other ≡ Some x) (is_node (next_at old place) x)
      (λ on.
      let next : next_at old place ≡ Some x = is_node_is _ x on in
      let at : before_at new x ≡ Some (After node) = step.after x next in
      let same : other ≡ After node = cc in
      ap (next_at new) same ∙ (step.own ∙ next))
      (λ off.
      let known : before_at old x ≡ Some other = sym (step.befores x apart off) ∙ e in
      let led : next_at old other ≡ Some x = holds.forth x other known in
      let not_own : same_place other (After node) ≡ false = other_place other (After node) (λ same.
      let none : next_at old other ≡ None = ap (next_at old) same ∙ step.bare in cc) in
      let not_place : same_place other place ≡ false = other_place other place (λ same. not_both (is_node_of _ x (ap (next_at old) (sym same) ∙ led)) off) in
      step.others other not_own not_place ∙ led))

  loose : (x : NodeId) → before_at new x ≡ None → next_at new (After x) ≡ None
  loose x e =
      let apart : same_node x node ≡ false = other_node x node (λ same. let at : before_at new x ≡ Some place = ap (before_at new) same ∙ step.here in cc) in
      let not_next : is_node (next_at old place) x ≡ false = is_other (next_at old place) x (λ next. let at : before_at new x ≡ Some (After node) = step.after x next in cc) in
      let was : before_at old x ≡ None = sym (step.befores x apart not_next) ∙ e in
      let not_place : same_place (After x) place ≡ false = other_place (After x) place (λ same. let at = linked x (sym same) in let known : before_at old x ≡ Some at.0 = at.1 in cc) in
      step.others (After x) apart not_place ∙ holds.loose x was

  covers : (x : NodeId) (other : Place) → before_at new x ≡ Some other → is_in (rings_with place node 0 rings) x ≡ true
  covers x other e =
      by_test (λ b. is_in (rings_with place node 0 rings) x ≡ true) (same_node x node)
      (λ on. subst (λ n. is_in (rings_with place node 0 rings) n ≡ true) (sym (same_node_is x node on)) (is_in_put_itself place node 0 rings among))
      (λ apart. is_in_put place node x 0 rings apart ∙
      by_test (λ b. is_in rings x ≡ true) (is_node (next_at old place) x)
      (λ on. holds.covers x place (holds.back place x (is_node_is _ x on)))
      (λ off. holds.covers x other (sym (step.befores x apart off) ∙ e)))
