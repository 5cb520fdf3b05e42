-- Taking a node out: what the writes make of the links, and of the rings that they hold.
use Rattle.std.proofs.Common.{◌≡◌, ℕ, suc, true, false, ◌||◌, cond, List, [], ◌∷◌, Option, Some, None, length, sym, ap, subst, ◌∙◌, refl}
use Rattle.coll_order.specs.Laid.{IsRun, AreRuns, Holds}
use Rattle.coll_order.specs.Lists.{same_node, same_place, has_node, without}
use Rattle.coll_order.specs.Layout.{head_of, is_in, rings_without}
use Rattle.coll_order.specs.Sound.{AreDistinct, StandOnce}
use Rattle.coll_order.specs.Store.{Links, next_at, before_at, is_node, Joins, Detaches}
use Rattle.coll_order.specs.declared.places.NodeId.{NodeId}
use Rattle.coll_order.specs.declared.places.Place.{Place}
use Rattle.coll_order.specs.declared.places.Place.TheVariants.{After}
use Rattle.coll_order.proofs.Sameness.{by_test, not_both, same_node_is, same_node_itself, other_node, other_node_turned, same_place_is, same_place_itself, other_place}
use Rattle.coll_order.proofs.ListLemmas.{neither, without_absent, is_in_without}
use Rattle.coll_order.proofs.RingLemmas.{length_rings_without}
use Rattle.coll_order.proofs.Runs.{KnowsBack, stand_once}

-- a node that stood after a place has no neighbour any more, and its neighbours stand side by side
pub record Unlinks (old new : Links) (node : NodeId) (place : Place) : Type 0 where
  pub at : before_at old node ≡ Some place
  pub led : next_at old place ≡ Some node
  pub own : next_at new (After node) ≡ None
  pub joined : next_at new place ≡ next_at old (After node)
  pub others : (other : Place) → same_place other (After node) ≡ false → same_place other place ≡ false → next_at new other ≡ next_at old other
  pub gone : before_at new node ≡ None
  pub after : (other : NodeId) → next_at old (After node) ≡ Some other → before_at new other ≡ Some place
  pub befores : (other : NodeId) → same_node other node ≡ false → is_node (next_at old (After node)) other ≡ false → before_at new other ≡ before_at old other

-- a node, if there is one, is this one or another
pub is_node_is : (found : Option NodeId) (node : NodeId) → is_node found node ≡ true → found ≡ Some node
is_node_is None node on = not_both on refl
is_node_is (Some other) node on = ap Some (same_node_is other node on)

-- a node that isn't the one that was found
pub is_other : (found : Option NodeId) (node : NodeId) → (found ≡ Some node → ⊥) → is_node found node ≡ false
is_other None node differ = refl
is_other (Some other) node differ = other_node other node (λ same. differ (ap Some same))

-- a node that was found is the one
pub is_node_of : (found : Option NodeId) (node : NodeId) → found ≡ Some node → is_node found node ≡ true
is_node_of found node e = subst (λ f. is_node f node ≡ true) (sym e) (same_node_itself node)

-- a run after which a node stands that is in it has the node twice
not_after_itself : (links : Links) (start : Place) (nodes : List NodeId) (node : NodeId) → IsRun links start nodes → AreDistinct nodes → has_node nodes node ≡ true
    → next_at links (After node) ≡ Some node → ⊥
unfolding IsRun
not_after_itself links start [] node run distinct there own = not_both there refl
not_after_itself links start (first ∷ []) node run distinct there own =
    by_test (λ b. same_node node first ≡ b → (b || false) ≡ true → ⊥) (same_node node first)
    (λ on e t. let same : node ≡ first = same_node_is node first on in let none : next_at links (After node) ≡ None = ap (λ n. next_at links (After n)) same ∙ run.1 in cc)
    (λ off e t. not_both t refl) refl there
not_after_itself links start (first ∷ second ∷ rest) node run distinct there own =
    by_test (λ b. same_node node first ≡ b → (b || has_node (second ∷ rest) node) ≡ true → ⊥) (same_node node first)
    (λ on e t.
    let same : node ≡ first = same_node_is node first on in
    let next : next_at links (After node) ≡ Some second = ap (λ n. next_at links (After n)) same ∙ run.1.0 in
    let twice : first ≡ second = cc in
    not_both (subst (λ n. same_node first n ≡ true) twice (same_node_itself first)) (neither (same_node first second) _ distinct.0).0)
    (λ off e t. not_after_itself links (After first) (second ∷ rest) node run.1 distinct.1 t own) refl there

-- nor in rings
not_after_itself_in : (links : Links) (first : ℕ) (rings : List (List NodeId)) (node : NodeId) → AreRuns links first rings → StandOnce rings → is_in rings node ≡ true
    → next_at links (After node) ≡ Some node → ⊥
unfolding AreRuns
not_after_itself_in links first [] node runs once there own = not_both there refl
not_after_itself_in links first (nodes ∷ rings) node runs once there own =
    by_test (λ b. has_node nodes node ≡ b → (b || is_in rings node) ≡ true → ⊥) (has_node nodes node)
    (λ on e t. not_after_itself links (head_of first) nodes node runs.0 once.0 on own)
    (λ off e t. not_after_itself_in links (suc first) rings node runs.1 once.2 t own) refl there

-- no node stands directly after itself
pub not_own_place : (links : Links) (rings : List (List NodeId)) → Holds links rings → (node : NodeId) → next_at links (After node) ≡ Some node → ⊥
not_own_place links rings holds node own =
    let known = holds.back (After node) node own in
    not_after_itself_in links 0 rings node holds.runs (stand_once links holds.back 0 rings holds.runs) (holds.covers node (After node) known) own

-- joining a node's neighbours and taking its own links away unlinks it
pub unlinks : (old between new : Links) (rings : List (List NodeId)) (node : NodeId) (place : Place) → Holds old rings → before_at old node ≡ Some place
    → Joins old between place (next_at old (After node)) → Detaches between new node → Unlinks old new node place
unlinks old between new rings node place holds at first second =
    let led : next_at old place ≡ Some node = holds.forth node place at in
    let elsewhere : same_place place (After node) ≡ false = other_place place (After node) (λ same. not_own_place old rings holds node (ap (next_at old) (sym same) ∙ led)) in
    record {
      at = at;
      led = led;
      own = second.next;
      joined = second.next_others place elsewhere ∙ first.next;
      others = λ other apart differ. second.next_others other apart ∙ first.next_others other differ;
      gone = second.before;
      after = λ other next.
          second.before_others other (other_node other node (λ same. not_own_place old rings holds node (next ∙ ap Some same))) ∙ first.before other next;
      befores = λ other apart differ. second.before_others other apart ∙ first.before_others other differ;
    }

-- a run that hasn't the node stays
kept_run : (old new : Links) (node : NodeId) (place start : Place) (nodes : List NodeId) → Unlinks old new node place → IsRun old start nodes
    → has_node nodes node ≡ false → same_place start (After node) ≡ false → IsRun new start nodes
unfolding IsRun
kept_run old new node place start [] step run absent apart =
    step.others start apart (other_place start place (λ same. let led : next_at old start ≡ Some node = ap (next_at old) same ∙ step.led in cc)) ∙ run
kept_run old new node place start (first ∷ rest) step run absent apart =
    let elsewhere = neither (same_node node first) (has_node rest node) absent in
    let differ : same_place start place ≡ false = other_place start place (λ same.
    let led : next_at old start ≡ Some node = ap (next_at old) same ∙ step.led in
    let found : next_at old start ≡ Some first = run.0 in
    let twice : node ≡ first = cc in not_both (subst (λ n. same_node node n ≡ true) twice (same_node_itself node)) elsewhere.0) in
    (step.others start apart differ ∙ run.0, kept_run old new node place (After first) rest step run.1 elsewhere.1 (other_node_turned node first elsewhere.0))

-- a run without the node is a run
taken_run : (old new : Links) (node : NodeId) (place start : Place) (nodes : List NodeId) → KnowsBack old → Unlinks old new node place → IsRun old start nodes → AreDistinct nodes
    → same_place start (After node) ≡ false → IsRun new start (without node nodes)
unfolding IsRun
taken_run old new node place start [] back step run distinct apart = kept_run old new node place start [] step run refl apart
taken_run old new node place start (first ∷ rest) back step run distinct apart =
    by_test (λ b. IsRun new start (cond b (without node rest) (first ∷ without node rest))) (same_node node first)
    (λ on.
    let same : node ≡ first = same_node_is node first on in
    let absent : has_node rest node ≡ false = subst (λ n. has_node rest n ≡ false) (sym same) distinct.0 in
    let here : place ≡ start = let at = step.at in let from_start : before_at old node ≡ Some start = back start node (run.0 ∙ ap Some (sym same)) in cc in
    let joined : next_at new start ≡ next_at old (After first) = ap (next_at new) (sym here) ∙ (step.joined ∙ ap (λ n. next_at old (After n)) same) in
    subst (λ nodes. IsRun new start nodes) (sym (without_absent node rest absent)) (after_taken rest run.1 absent joined))
    (λ off.
    let differ : same_place start place ≡ false = other_place start place (λ same.
    let led : next_at old start ≡ Some node = ap (next_at old) same ∙ step.led in
    let found : next_at old start ≡ Some first = run.0 in
    let twice : node ≡ first = cc in not_both (subst (λ n. same_node node n ≡ true) twice (same_node_itself node)) off) in
    (step.others start apart differ ∙ run.0, taken_run old new node place (After first) rest back step run.1 distinct.1 (other_node_turned node first off))) where
      after_taken : (rest : List NodeId) → IsRun old (After first) rest → has_node rest node ≡ false → next_at new start ≡ next_at old (After first) → IsRun new start rest
      after_taken [] run absent joined = joined ∙ run
      after_taken (second ∷ rest) run absent joined =
          let elsewhere = neither (same_node node second) (has_node rest node) absent in
          (joined ∙ run.0, kept_run old new node place (After second) rest step run.1 elsewhere.1 (other_node_turned node second elsewhere.0))

-- so are the rings without it
taken_runs : (old new : Links) (node : NodeId) (place : Place) (first : ℕ) (rings : List (List NodeId)) → KnowsBack old → Unlinks old new node place → AreRuns old first rings → StandOnce rings
    → AreRuns new first (rings_without node rings)
unfolding AreRuns
taken_runs old new node place first [] back step runs once = tt
taken_runs old new node place first (nodes ∷ rings) back step runs once =
    (taken_run old new node place (head_of first) nodes back step runs.0 once.0 refl, taken_runs old new node place (suc first) rings back step runs.1 once.2)

-- links from which a node is taken hold the rings without it
pub unlinked_holds : (old new : Links) (rings : List (List NodeId)) (node : NodeId) (place : Place) → Holds old rings → Unlinks old new node place → length new.heads ≡ length old.heads
    → Holds new (rings_without node rings)
unlinked_holds old new rings node place holds step heads = record {
  count = heads ∙ (holds.count ∙ sym (length_rings_without node rings));
  runs = taken_runs old new node place 0 rings holds.back step holds.runs (stand_once old holds.back 0 rings holds.runs);
  back = back;
  forth = forth;
  loose = loose;
  covers = covers;
} where
  none_after : (other : Place) → next_at old (After node) ≡ None → next_at old (After node) ≡ Some node → ⊥
  none_after other p q = cc

  back : (other : Place) (x : NodeId) → next_at new other ≡ Some x → before_at new x ≡ Some other
  back other x e =
      by_test (λ b. before_at new x ≡ Some other) (same_place other (After node))
      (λ on. let same : other ≡ After node = same_place_is other (After node) on in let none : next_at new other ≡ None = ap (next_at new) same ∙ step.own in cc)
      (λ apart. by_test (λ b. before_at new x ≡ Some other) (same_place other place)
      (λ on. let same : other ≡ place = same_place_is other place on in
      step.after x (sym step.joined ∙ (ap (next_at new) (sym same) ∙ e)) ∙ ap Some (sym same))
      (λ differ.
      let was : next_at old other ≡ Some x = sym (step.others other apart differ) ∙ e in
      let known : before_at old x ≡ Some other = holds.back other x was in
      let not_node : same_node x node ≡ false = other_node x node (λ same.
      let at = step.at in let known_too : before_at old node ≡ Some other = ap (before_at old) (sym same) ∙ known in
      let twice : other ≡ place = cc in not_both (subst (λ p. same_place other p ≡ true) twice (same_place_itself other)) differ) in
      let not_next : is_node (next_at old (After node)) x ≡ false = is_other (next_at old (After node)) x (λ next.
      let known_too : before_at old x ≡ Some (After node) = holds.back (After node) x next in
      let twice : other ≡ After node = cc in not_both (subst (λ p. same_place other p ≡ true) twice (same_place_itself other)) apart) in
      step.befores x not_node not_next ∙ known))

  forth : (x : NodeId) (other : Place) → before_at new x ≡ Some other → next_at new other ≡ Some x
  forth x other e =
      by_test (λ b. next_at new other ≡ Some x) (same_node x node)
      (λ on. let same : x ≡ node = same_node_is x node on in let none : before_at new x ≡ None = ap (before_at new) same ∙ step.gone in cc)
      (λ apart. by_test (λ b. next_at new other ≡ Some x) (is_node (next_at old (After node)) x)
      (λ on.
      let next : next_at old (After node) ≡ Some x = is_node_is _ x on in
      let at : before_at new x ≡ Some place = step.after x next in
      let same : other ≡ place = cc in
      ap (next_at new) same ∙ (step.joined ∙ next))
      (λ off.
      let known : before_at old x ≡ Some other = sym (step.befores x apart off) ∙ e in
      let led : next_at old other ≡ Some x = holds.forth x other known in
      let not_own : same_place other (After node) ≡ false = other_place other (After node) (λ same.
      not_both (is_node_of _ x (ap (next_at old) (sym same) ∙ led)) off) in
      let not_place : same_place other place ≡ false = other_place other place (λ same.
      let led_too : next_at old other ≡ Some node = ap (next_at old) same ∙ step.led in
      let twice : x ≡ node = cc in not_both (subst (λ n. same_node x n ≡ true) twice (same_node_itself x)) apart) in
      step.others other not_own not_place ∙ led))

  loose : (x : NodeId) → before_at new x ≡ None → next_at new (After x) ≡ None
  loose x e =
      by_test (λ b. next_at new (After x) ≡ None) (same_node x node)
      (λ on. ap (λ n. next_at new (After n)) (same_node_is x node on) ∙ step.own)
      (λ apart.
      let not_next : is_node (next_at old (After node)) x ≡ false = is_other (next_at old (After node)) x (λ next. let at : before_at new x ≡ Some place = step.after x next in cc) in
      let was : next_at old (After x) ≡ None = holds.loose x (sym (step.befores x apart not_next) ∙ e) in
      let not_place : same_place (After x) place ≡ false = other_place (After x) place (λ same. let led : next_at old (After x) ≡ Some node = ap (next_at old) same ∙ step.led in cc) in
      step.others (After x) apart not_place ∙ was)

  covers : (x : NodeId) (other : Place) → before_at new x ≡ Some other → is_in (rings_without node rings) x ≡ true
  covers x other e =
      by_test (λ b. is_in (rings_without node rings) x ≡ true) (same_node x node)
      (λ on. let same : x ≡ node = same_node_is x node on in let none : before_at new x ≡ None = ap (before_at new) same ∙ step.gone in cc)
      (λ apart. is_in_without node x rings apart ∙
      by_test (λ b. is_in rings x ≡ true) (is_node (next_at old (After node)) x)
      (λ on. holds.covers x (After node) (holds.back (After node) x (is_node_is _ x on)))
      (λ off. holds.covers x other (sym (step.befores x apart off) ∙ e)))
