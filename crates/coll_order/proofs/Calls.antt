-- What each call of a store makes of its links, and so of its layout.
use Rattle.std.proofs.Common.{◌≡◌, ℕ, zero, suc, ◌<◌, ◌+◌, ◌++◌, true, false, Bool, not, get_or, is_some, IsTrue, List, [], ◌∷◌}
use Rattle.std.proofs.Common.{Option, Some, None, IsSome, length, sym, ap, subst, ◌∙◌, refl, arith, length-append}
use Rattle.std.specs.Option.{option_map, option_and_then}
use Rattle.std.proofs.lemmas.List.{get_or_past}
use Rattle.std.specs.FinMap as finmap
use Rattle.coll_order.specs.Changes.{with_ring, with_node, without_node, unlinked, linked}
use Rattle.coll_order.specs.Laid.{tags_from, walks, rings_at, layout_at, IsRun, AreRuns, Holds, IsHeld, KnowsEnds, IsKept}
use Rattle.coll_order.specs.Layout.{Layout, head_of, is_in, nodes_of, place_of, rings_with, rings_without, tag_of, first_of, end_of_ring, IsLinked, IsLoose, IsNode, IsPlace, IsRing}
use Rattle.coll_order.specs.Lists.{has_node, same_node, same_place}
use Rattle.coll_order.specs.Sound.{IsSound}
use Rattle.coll_order.specs.Store.{Links, slot_at, next_at, before_at, tag_at, own_ring, ring_of, last_at, IsStored}
use Rattle.coll_order.specs.Store.{IsStoredIfAny, HasPlace, KeepsNodes, Joins, Detaches, SetsRing, MovesEnd, Inserts, Removes}
use Rattle.coll_order.specs.declared.places.NodeId.{NodeId}
use Rattle.coll_order.specs.declared.places.RingId.{RingId}
use Rattle.coll_order.specs.declared.places.Place.{Place}
use Rattle.coll_order.specs.declared.places.Place.TheVariants.{Head, After}
use Rattle.coll_order.specs.declared.store.Node.{Node}
use Rattle.coll_order.proofs.Ends.{own_ring_is, ended, same_ends, linked_ends, unlinked_ends, pushed_ends}
use Rattle.coll_order.proofs.Sameness.{by_test, not_both, same_node_is, other_node, other_place}
use Rattle.coll_order.proofs.LayoutLemmas.{place_among, loose_unlinked, linked_linked, place_unlinked}
use Rattle.coll_order.proofs.RingLemmas.{in_some, is_in_push}
use Rattle.coll_order.proofs.StoreLemmas.{keeps_both}
use Rattle.coll_order.proofs.Runs.{place_is, within, rings_are, held, apart_is, linked_is, first_leads_in, stand_once}
use Rattle.coll_order.proofs.Tags.{tag_is, same_tags, inserted_tags, removed_tags}
use Rattle.coll_order.proofs.Unlinking.{unlinks, unlinked_holds}
use Rattle.coll_order.proofs.Linking.{links_in, linked_holds}

-- the rings of a layout are others
abbrev rings_set : Layout → List (List NodeId) → Layout
rings_set layout rings = record layout { rings = rings }

-- links that hold other rings, with the same tags, have the layout with those rings
laid : (old new : Links) (rings : List (List NodeId)) → Holds new rings → ((node : NodeId) → tag_at new node ≡ tag_at old node) → layout_at new ≡ rings_set (layout_at old) rings
laid old new rings holds tags = let r = rings_are new rings holds in let t = same_tags old new tags in λ i. record { rings = r i; tags = t i }

-- a slot has a node where something is known of it
slot_of_before : (links : Links) (node : NodeId) (place : Place) → before_at links node ≡ Some place → IsStored links node
slot_of_before links node place before =
    elim (slot_at links node) as (λ slot. option_and_then (λ (n : Node). n.before) slot ≡ Some place → IsSome slot) [ None ↦ λ b. cc | Some n ↦ λ b. refl ] before

-- and where it has a tag
slot_of_tag : (links : Links) (node : NodeId) → IsSome (tag_at links node) → IsStored links node
slot_of_tag links node there =
    elim (slot_at links node) as (λ slot. IsSome (option_map (λ (n : Node). n.tag) slot) → IsSome slot) [ None ↦ λ t. t | Some n ↦ λ t. t ] there

-- a slot with a node has a tag
tag_of_slot : (links : Links) (node : NodeId) → IsStored links node → IsSome (tag_at links node)
tag_of_slot links node there =
    elim (slot_at links node) as (λ slot. IsSome slot → IsSome (option_map (λ (n : Node). n.tag) slot)) [ None ↦ λ t. t | Some n ↦ λ t. t ] there

-- a node that has a tag is stored
pub node_stored : (links : Links) (node : NodeId) → IsNode (layout_at links) node → IsStored links node
node_stored links node there = slot_of_tag links node (subst (λ (t : Option ℕ). IsSome t) (tag_is links node) there)

-- and the other way round
pub stored_node : (links : Links) (node : NodeId) → IsStored links node → IsNode (layout_at links) node
stored_node links node there = subst (λ (t : Option ℕ). IsSome t) (sym (tag_is links node)) (tag_of_slot links node there)

-- a node stays stored
pub stays_stored : (old new : Links) (node : NodeId) → KeepsNodes old new → IsStored old node → IsStored new node
stays_stored old new node keeps there = slot_of_tag new node (subst (λ (t : Option ℕ). IsSome t) (sym (keeps.tags node)) (tag_of_slot old node there))

-- a linked node is stored
pub linked_stored : (links : Links) (node : NodeId) → IsHeld links → IsLinked (layout_at links) node → IsStored links node
linked_stored links node holds there = let at = linked_is links (rings_at links) holds node there in slot_of_before links node at.0 at.1

-- a place where a node may be put has a link
pub place_stored : (links : Links) (place : Place) → IsHeld links → IsPlace (layout_at links) place → HasPlace links place
place_stored links (Head ring) holds there = subst (λ count. ring.index < count) (sym holds.count) there
place_stored links (After node) holds there = linked_stored links node holds there

-- a node that a link leads to is stored
pub next_stored : (links : Links) (place : Place) → IsHeld links → IsStoredIfAny links (next_at links place)
next_stored links place holds =
    elim (next_at links place) as (λ found. next_at links place ≡ found → IsStoredIfAny links found) [
      | None ↦ λ e. tt
      | Some node ↦ λ e. slot_of_before links node place (holds.back place node e)
    ] refl

-- a loose node knows no place
pub loose_before : (links : Links) (node : NodeId) → IsHeld links → IsLoose (layout_at links) node → before_at links node ≡ None
loose_before links node holds loose =
    elim (before_at links node) as (λ known. before_at links node ≡ known → known ≡ None) [
      | None ↦ λ e. refl
      | Some place ↦ λ e. not_both (holds.covers node place e) loose.apart
    ] refl

-- a store's layout is sound
pub sound_layout : (links : Links) → IsHeld links → IsSound (layout_at links)
sound_layout links holds = record {
  once = stand_once links holds.back 0 (rings_at links) holds.runs;
  made = λ node there. stored_node links node (linked_stored links node holds there);
}

-- what a node that was read knows is what stands before it
pub before_read : (links : Links) (node : NodeId) (found : Node) → slot_at links node ≡ Some found → before_at links node ≡ found.before
before_read links node found at = ap (option_and_then (λ (n : Node). n.before)) at

-- links that hold rings and know their ends are kept
kept : (links : Links) (rings : List (List NodeId)) → Holds links rings → KnowsEnds links rings → IsKept links
kept links rings holds ends = record { held = held links rings holds; ends = subst (KnowsEnds links) (sym (rings_are links rings holds)) ends }

-- links of which only the last places change lead where they led
moved_next : (old new : Links) → new.heads ≡ old.heads → new.slots ≡ old.slots → (place : Place) → next_at new place ≡ next_at old place
moved_next old new heads slots (Head ring) = ap (λ h. get_or h ring.index None) heads
moved_next old new heads slots (After node) = ap (λ (s : List (Option Node)). option_and_then (λ (n : Node). n.after) (get_or s node.key None)) slots

-- a linked node's ring is there
pub own_ring_there : (links : Links) (node : NodeId) (found : Node) → IsKept links → IsLinked (layout_at links) node → slot_at links node ≡ Some found → found.ring.index < length links.lasts
own_ring_there links node found is there read =
    let count = is.ends.count in
    let below = own_ring_is links (rings_at links) is.ends node found.ring there (ap (option_map (λ (n : Node). n.ring)) read) in
    omega (arith, count, below)

-- so is the ring of a place
pub ring_there : (links : Links) (place : Place) (ring : RingId) → IsKept links → IsPlace (layout_at links) place → ring_of links place ≡ Some ring → ring.index < length links.lasts
ring_there links (Head other) ring is there at = let count = is.ends.count in let same : other ≡ ring = cc in
    let below : ring.index < length (rings_at links) = subst (λ (r : RingId). r.index < length (rings_at links)) same there in
    omega (arith, count, below)
ring_there links (After node) ring is there at =
    let count = is.ends.count in
    let below = own_ring_is links (rings_at links) is.ends node ring there at in
    omega (arith, count, below)

-- a linked node stands in the ring that is stored with it
pub stands_in_own : (links : Links) (node : NodeId) (found : Node) → IsKept links → IsLinked (layout_at links) node → slot_at links node ≡ Some found
    → has_node (nodes_of (layout_at links) found.ring) node ≡ true
stands_in_own links node found is there read =
    let at = in_some (rings_at links) node there in
    let own : Some (record { index = at.0 }) ≡ Some found.ring = sym (is.ends.stands (record { index = at.0 }) node at.1) ∙ ap (option_map (λ (n : Node). n.ring)) read in
    let same : record { index = at.0 } ≡ found.ring = cc in
    subst (λ (ring : RingId). has_node (nodes_of (layout_at links) ring) node ≡ true) same at.1

-- the place before a node is the one that is stored
pub stored_place : (links : Links) (node : NodeId) (found : Node) (place : Place) → IsHeld links → slot_at links node ≡ Some found → found.before ≡ Some place
    → place_of (layout_at links) node ≡ Some place
stored_place links node found place held read stands = place_is links (rings_at links) held node ∙ (before_read links node found read ∙ stands)

-- the place behind the last node of a ring is the one that is stored
pub last_is : (links : Links) (ring : RingId) → IsKept links → IsRing (layout_at links) ring → last_at links ring ≡ end_of_ring (layout_at links) ring
last_is links ring is there = is.ends.ends ring there

-- a node was taken out of the layout: it stood after the place, and may be put there again
pub record IsUnlinked (old new : Links) (node : NodeId) (place : Place) : Type 0 where
  pub kept : IsKept new
  pub layout : layout_at new ≡ unlinked (layout_at old) node
  pub stood : place_of (layout_at old) node ≡ Some place
  pub loose : IsLoose (layout_at new) node
  pub back : IsPlace (layout_at new) place

-- runs stay where the links lead where they led
same_run : (old new : Links) → ((place : Place) → next_at new place ≡ next_at old place) → (start : Place) (nodes : List NodeId) → IsRun old start nodes → IsRun new start nodes
unfolding IsRun
same_run old new next start [] run = next start ∙ run
same_run old new next start (first ∷ rest) run = (next start ∙ run.0, same_run old new next (After first) rest run.1)

-- so do the runs of rings, and a head that leads nowhere is a ring more
same_runs : (old new : Links) → ((place : Place) → next_at new place ≡ next_at old place) → (first : ℕ) (rings : List (List NodeId)) → AreRuns old first rings → AreRuns new first rings
unfolding AreRuns
same_runs old new next first [] runs = tt
same_runs old new next first (nodes ∷ rings) runs = (same_run old new next (head_of first) nodes runs.0, same_runs old new next (suc first) rings runs.1)

-- links that lead where they led hold the same rings
same_holds : (old new : Links) (rings : List (List NodeId)) → Holds old rings → length new.heads ≡ length old.heads → ((place : Place) → next_at new place ≡ next_at old place)
    → ((node : NodeId) → before_at new node ≡ before_at old node) → Holds new rings
same_holds old new rings holds heads next before = record {
  count = heads ∙ holds.count;
  runs = same_runs old new next 0 rings holds.runs;
  back = λ place node e. before node ∙ holds.back place node (sym (next place) ∙ e);
  forth = λ node place e. next place ∙ holds.forth node place (sym (before node) ∙ e);
  loose = λ node e. next (After node) ∙ holds.loose node (sym (before node) ∙ e);
  covers = λ node place e. holds.covers node place (sym (before node) ∙ e);
}

-- links of which only the last places change hold the same rings
moved_holds : (old new : Links) (rings : List (List NodeId)) → Holds old rings → new.heads ≡ old.heads → new.slots ≡ old.slots → Holds new rings
moved_holds old new rings holds heads slots = same_holds old new rings holds (ap length heads) (moved_next old new heads slots)
    (λ node. ap (λ (s : List (Option Node)). option_and_then (λ (n : Node). n.before) (get_or s node.key None)) slots)

-- and each node has the same ring
moved_ring : (old new : Links) → new.slots ≡ old.slots → (node : NodeId) → own_ring new node ≡ own_ring old node
moved_ring old new slots node = ap (λ (s : List (Option Node)). option_map (λ (n : Node). n.ring) (get_or s node.key None)) slots

-- unlinking takes the node out of the layout
pub unlink_done : (old between apart new : Links) (node : NodeId) (found : Node) (place : Place) → IsKept old → slot_at old node ≡ Some found → found.before ≡ Some place
    → Joins old between place found.after
    → Detaches between apart node → MovesEnd apart new found.ring (After node) place → IsUnlinked old new node place
unlink_done old between apart new node found place is read stands joined second moved =
    let holds = is.held in
    let rings = rings_at old in
    let at : before_at old node ≡ Some place = before_read old node found read ∙ stands in
    let first : Joins old between place (next_at old (After node)) =
    subst (λ (after : Option NodeId). Joins old between place after) (sym (ap (option_and_then (λ (n : Node). n.after)) read)) joined in
    let step = unlinks old between apart rings node place holds at first second in
    let keeps = keeps_both old between apart first.keeps second.keeps in
    let out = unlinked_holds old apart rings node place holds step keeps.heads in
    let then = moved_holds apart new (rings_without node rings) out moved.heads moved.slots in
    let tags : (other : NodeId) → tag_at new other ≡ tag_at old other = λ other. ap (λ (s : List (Option Node)). option_map (λ (n : Node). n.tag) (get_or s other.key None)) moved.slots
    ∙ keeps.tags other in
    let same = laid old new (rings_without node rings) then tags in
    let stood : place_of (layout_at old) node ≡ Some place = place_is old rings holds node ∙ at in
    let once = stand_once old holds.back 0 rings holds.runs in
    let known = same_ends old apart rings is.ends (λ other there. keeps.rings other) keeps.lasts in
    let own : own_ring apart node ≡ Some found.ring = keeps.rings node ∙ ap (option_map (λ (n : Node). n.ring)) read in
    let ends = unlinked_ends apart new rings node place known once stood (moved_ring apart new moved.slots) moved.count (ended apart new rings known found.ring (After node) place own moved) in
    record {
      kept = kept new (rings_without node rings) then ends;
      layout = same;
      stood = stood;
      loose = subst (λ layout. IsLoose layout node) (sym same) (loose_unlinked (layout_at old) node (sound_layout old holds) (holds.covers node place at));
      back = subst (λ layout. IsPlace layout place) (sym same) (place_unlinked (layout_at old) node place stood);
    }

-- a node was put into the layout
pub record IsLinkedIn (old new : Links) (node : NodeId) (place : Place) : Type 0 where
  pub kept : IsKept new
  pub layout : layout_at new ≡ linked (layout_at old) node place
  pub there : IsLinked (layout_at new) node

-- linking puts the node into the layout
pub link_done : (old between joined marked new : Links) (node : NodeId) (place : Place) (ring : RingId) (found : Option NodeId) → IsKept old → IsLoose (layout_at old) node
    → IsPlace (layout_at old) place
    → ring_of old place ≡ Some ring → found ≡ next_at old place → Joins old between place (Some node) → Joins between joined (After node) found → SetsRing joined marked node ring
    → MovesEnd marked new ring place (After node) → IsLinkedIn old new node place
link_done old between joined marked new node place ring found is loose there at read first last marks moved =
    let holds = is.held in
    let rings = rings_at old in
    let second : Joins between joined (After node) (next_at old place) = subst (λ (after : Option NodeId). Joins between joined (After node) after) read last in
    let was = loose_before old node holds loose in
    let elsewhere : same_place place (After node) ≡ false = other_place place (After node) (λ same. not_both (subst (λ p. IsPlace (layout_at old) p) same there) loose.apart) in
    let step = links_in old between joined rings node place holds was elsewhere first second in
    let keeps = keeps_both old between joined first.keeps second.keeps in
    let in_rings = linked_holds old joined rings node place holds step keeps.heads (place_among (layout_at old) place there)
    (λ other same. linked_is old rings holds other (subst (λ p. IsPlace (layout_at old) p) same there)) in
    let marked_holds = same_holds joined marked (rings_with place node 0 rings) in_rings (ap length marks.heads) marks.next marks.before in
    let then = moved_holds marked new (rings_with place node 0 rings) marked_holds moved.heads moved.slots in
    let tags : (other : NodeId) → tag_at new other ≡ tag_at old other = λ other.
    ap (λ (s : List (Option Node)). option_map (λ (n : Node). n.tag) (get_or s other.key None)) moved.slots ∙ (marks.tags other ∙ keeps.tags other) in
    let same = laid old new (rings_with place node 0 rings) then tags in
    let once = stand_once old holds.back 0 rings holds.runs in
    let differ : (other : NodeId) → is_in rings other ≡ true → same_node other node ≡ false = λ other in_them. other_node other node (λ e. not_both in_them (ap (is_in rings) e ∙ loose.apart)) in
    let known = same_ends old marked rings is.ends (λ other in_them. marks.others other (differ other in_them) ∙ keeps.rings other) (marks.lasts ∙ keeps.lasts) in
    let of_place : ring_of marked place ≡ Some ring = marked_ring_of place elsewhere ∙ at in
    let ends = linked_ends marked new rings node place ring known once loose.apart of_place (moved_ring marked new moved.slots node ∙ marks.is)
    (λ other off. moved_ring marked new moved.slots other) moved.count (ended marked new rings known ring place (After node) of_place moved) in
    record {
      kept = kept new (rings_with place node 0 rings) then ends;
      layout = same;
      there = subst (λ layout. IsLinked layout node) (sym same) (linked_linked (layout_at old) node place there);
    } where
      marked_ring_of : (place : Place) → same_place place (After node) ≡ false → ring_of marked place ≡ ring_of old place
      marked_ring_of (Head other) off = refl
      marked_ring_of (After other) off = marks.others other off ∙ (last.keeps.rings other ∙ first.keeps.rings other)

-- a slot that is written decides what its node knows
slot_next : (old new : Links) (node : NodeId) → next_at old (After node) ≡ None → next_at new (After node) ≡ None
    → ((other : NodeId) → same_node other node ≡ false → slot_at new other ≡ slot_at old other)
    → new.heads ≡ old.heads → (place : Place) → next_at new place ≡ next_at old place
slot_next old new node was now others heads (Head ring) = ap (λ h. get_or h ring.index None) heads
slot_next old new node was now others heads (After other) =
    by_test (λ b. next_at new (After other) ≡ next_at old (After other)) (same_node other node)
    (λ on. let same : other ≡ node = same_node_is other node on in
    ap (λ n. next_at new (After n)) same ∙ (now ∙ sym (ap (λ n. next_at old (After n)) same ∙ was)))
    (λ off. ap (option_and_then (λ (n : Node). n.after)) (others other off))

-- so for the place before it
slot_before : (old new : Links) (node : NodeId) → before_at old node ≡ None → before_at new node ≡ None → ((other : NodeId) → same_node other node ≡ false → slot_at new other ≡ slot_at old other)
    → (other : NodeId) → before_at new other ≡ before_at old other
slot_before old new node was now others other =
    by_test (λ b. before_at new other ≡ before_at old other) (same_node other node)
    (λ on. let same : other ≡ node = same_node_is other node on in ap (before_at new) same ∙ (now ∙ sym (ap (before_at old) same ∙ was)))
    (λ off. ap (option_and_then (λ (n : Node). n.before)) (others other off))

-- the ends stay known where a slot is written of a node that stands nowhere
slot_ends : (old new : Links) (rings : List (List NodeId)) (node : NodeId) → KnowsEnds old rings → is_in rings node ≡ false
    → ((other : NodeId) → same_node other node ≡ false → slot_at new other ≡ slot_at old other)
    → new.lasts ≡ old.lasts → KnowsEnds new rings
slot_ends old new rings node known absent others lasts = same_ends old new rings known
    (λ other there. ap (option_map (λ (n : Node). n.ring)) (others other (other_node other node (λ same. not_both there (ap (is_in rings) same ∙ absent))))) lasts

-- a new loose node adds its tag to the layout, and stands nowhere
pub insert_done : (old new : Links) (node : NodeId) (value : Node) → IsKept old → Inserts old new node value → value.before ≡ None → value.after ≡ None
    → IsKept new × (layout_at new ≡ with_node (layout_at old) node value.tag) × IsLoose (layout_at new) node × (tag_of (layout_at old) node ≡ None)
insert_done old new node value is step bare last =
    let holds = is.held in
    let was_next : next_at old (After node) ≡ None = ap (option_and_then (λ (n : Node). n.after)) step.was in
    let now_next : next_at new (After node) ≡ None = ap (option_and_then (λ (n : Node). n.after)) step.is ∙ last in
    let was_before : before_at old node ≡ None = ap (option_and_then (λ (n : Node). n.before)) step.was in
    let now_before : before_at new node ≡ None = ap (option_and_then (λ (n : Node). n.before)) step.is ∙ bare in
    let then = same_holds old new (rings_at old) holds (ap length step.heads) (slot_next old new node was_next now_next step.others step.heads)
    (slot_before old new node was_before now_before step.others) in
    let rings = rings_are new (rings_at old) then in
    let tags = inserted_tags old new node value step in
    let ends = slot_ends old new (rings_at old) node is.ends (apart_is old (rings_at old) holds node was_before) step.others step.lasts in
    let now_kept = kept new (rings_at old) then ends in
    let stored : IsStored new node = subst (λ (s : Option Node). IsSome s) (sym step.is) refl in (
      now_kept,
      (λ i. record { rings = rings i; tags = tags i }),
      record { made = stored_node new node stored; apart = apart_is new (rings_at new) now_kept.held node now_before },
      tag_is old node ∙ ap (option_map (λ (n : Node). n.tag)) step.was,
    )

-- a loose node that is given up takes its tag with it
pub remove_done : (old new : Links) (node : NodeId) → IsKept old → IsLoose (layout_at old) node → Removes old new node → IsKept new × (layout_at new ≡ without_node (layout_at old) node)
remove_done old new node is loose step =
    let holds = is.held in
    let was_before = loose_before old node holds loose in
    let was_next = holds.loose node was_before in
    let now_next : next_at new (After node) ≡ None = ap (option_and_then (λ (n : Node). n.after)) step.is in
    let now_before : before_at new node ≡ None = ap (option_and_then (λ (n : Node). n.before)) step.is in
    let then = same_holds old new (rings_at old) holds (ap length step.heads) (slot_next old new node was_next now_next step.others step.heads)
    (slot_before old new node was_before now_before step.others) in
    let rings = rings_are new (rings_at old) then in
    let tags = removed_tags old new node step in
    let ends = slot_ends old new (rings_at old) node is.ends loose.apart step.others step.lasts in
    (kept new (rings_at old) then ends, λ i. record { rings = rings i; tags = tags i })

-- a head more, which leads nowhere, changes no link
next_pushed : (heads : List (Option NodeId)) (index : ℕ) → get_or (heads ++ None ∷ []) index None ≡ get_or heads index None
next_pushed [] zero = refl
next_pushed [] (suc index) = refl
next_pushed (head ∷ heads) zero = refl
next_pushed (head ∷ heads) (suc index) = next_pushed heads index

-- rings with one more at the end, to which no link leads, are runs
runs_push : (links : Links) (first : ℕ) (rings : List (List NodeId)) → AreRuns links first rings → next_at links (head_of (first + length rings)) ≡ None → AreRuns links first (rings ++ [] ∷ [])
unfolding AreRuns IsRun
runs_push links first [] runs none = let same : first ≡ first + zero = omega arith in (ap (λ i. next_at links (head_of i)) same ∙ none, tt)
runs_push links first (nodes ∷ rings) runs none =
    let same : suc first + length rings ≡ first + suc (length rings) = omega arith in
    (runs.0, runs_push links (suc first) rings runs.1 (ap (λ i. next_at links (head_of i)) same ∙ none))

-- one head more, which leads nowhere, is one ring more
pub ring_done : (old new : Links) → IsKept old → new ≡ record old { heads = old.heads ++ None ∷ []; lasts = old.lasts ++ head_of (length old.heads) ∷ [] }
    → IsKept new × (layout_at new ≡ with_ring (layout_at old))
ring_done old new is pushed =
    let holds = is.held in
    let next : (place : Place) → next_at new place ≡ next_at old place = λ place. ap (λ (links : Links). next_at links place) pushed ∙ next_same place in
    let before : (node : NodeId) → before_at new node ≡ before_at old node = λ node. ap (λ (links : Links). before_at links node) pushed in
    let heads : length new.heads ≡ length old.heads + 1 = ap (λ (links : Links). length links.heads) pushed ∙ length-append old.heads (None ∷ []) in
    let rings = rings_at old ++ [] ∷ [] in
    let then : Holds new rings = record {
      count = let counted = holds.count in let longer = length-append (rings_at old) ([] ∷ []) in heads ∙ (ap (λ n. n + 1) counted ∙ sym longer);
      runs = runs_push new 0 (rings_at old) (same_runs old new next 0 (rings_at old) holds.runs) (next (head_of (0 + length (rings_at old))) ∙ past holds.count);
      back = λ place node e. before node ∙ holds.back place node (sym (next place) ∙ e);
      forth = λ node place e. next place ∙ holds.forth node place (sym (before node) ∙ e);
      loose = λ node e. next (After node) ∙ holds.loose node (sym (before node) ∙ e);
      covers = λ node place e. is_in_push (rings_at old) node ∙ holds.covers node place (sym (before node) ∙ e);
    } in
    let ends = pushed_ends old new (rings_at old) (length old.heads) is.ends holds.count (ap (λ (links : Links). links.lasts) pushed) (λ node. ap (λ (links : Links). own_ring links node) pushed) in
    (kept new rings then ends, laid old new rings then (λ node. ap (λ (links : Links). tag_at links node) pushed)) where
      next_same : (place : Place) → next_at (record old { heads = old.heads ++ None ∷ []; lasts = old.lasts ++ head_of (length old.heads) ∷ [] }) place ≡ next_at old place
      next_same (Head ring) = next_pushed old.heads ring.index
      next_same (After node) = refl

      past : length old.heads ≡ length (rings_at old) → next_at old (head_of (0 + length (rings_at old))) ≡ None
      past counted = let same : 0 + length (rings_at old) ≡ length old.heads = omega arith in
          ap (λ i. next_at old (head_of i)) same ∙ get_or_past old.heads (length old.heads) None (omega arith)

-- links of nothing hold nothing
pub none_held : (links : Links) → links ≡ record { heads = []; lasts = []; slots = [] } → IsKept links × (layout_at links ≡ record { rings = []; tags = finmap.empty })
unfolding AreRuns walks tags_from
none_held links none = subst (λ (links : Links). IsKept links × (layout_at links ≡ record { rings = []; tags = finmap.empty })) (sym none) (record { held = empty; ends = no_ends }, refl) where
  nowhere : (place : Place) (node : NodeId) → next_at (record { heads = []; lasts = []; slots = [] }) place ≡ Some node → ⊥
  nowhere (Head ring) node e = cc
  nowhere (After other) node e = cc

  empty : IsHeld (record { heads = []; lasts = []; slots = [] })
  empty = record {
    count = refl;
    runs = tt;
    back = λ place node e. absurd (nowhere place node e);
    forth = λ node place e. cc;
    loose = λ node e. refl;
    covers = λ node place e. cc;
  }

  no_ends : KnowsEnds (record { heads = []; lasts = []; slots = [] }) []
  no_ends = record { count = refl; stands = λ ring node there. not_both there refl; ends = λ ring below. absurd (omega arith) }

-- whether a node is linked is whether it knows a place
pub linked_known : (links : Links) → IsHeld links → (node : NodeId) → is_in (rings_at links) node ≡ is_some (before_at links node)
linked_known links holds node =
    elim (before_at links node) as (λ known. before_at links node ≡ known → is_in (rings_at links) node ≡ is_some known) [
      | None ↦ λ e. apart_is links (rings_at links) holds node e
      | Some place ↦ λ e. holds.covers node place e
    ] refl

-- a node that is there is linked where its node knows a place
pub linked_where : (links : Links) (node : NodeId) (found : Node) (answer : Bool) → IsHeld links → slot_at links node ≡ Some found → answer ≡ is_some found.before
    → (IsTrue answer → IsLinked (layout_at links) node) × (IsLinked (layout_at links) node → IsTrue answer)
linked_where links node found answer holds at is =
    let known : is_in (rings_at links) node ≡ answer = linked_known links holds node ∙ (ap (λ (slot : Option Node). is_some (option_and_then (λ (n : Node). n.before) slot)) at ∙ sym is) in
    (λ on. known ∙ on, λ there. sym known ∙ there)

-- a node that isn't there isn't linked
pub unlinked_where : (links : Links) (node : NodeId) → IsHeld links → slot_at links node ≡ None → (IsTrue false → IsLinked (layout_at links) node) × (IsLinked (layout_at links) node → IsTrue false)
unlinked_where links node holds at =
    let known : is_in (rings_at links) node ≡ false = linked_known links holds node ∙ ap (λ (slot : Option Node). is_some (option_and_then (λ (n : Node). n.before) slot)) at in
    (λ on. cc, λ there. not_both there known)

-- a node that is there is loose where its node knows no place
pub loose_where : (links : Links) (node : NodeId) (found : Node) (answer : Bool) → IsHeld links → slot_at links node ≡ Some found → is_some found.before ≡ not answer
    → (IsTrue answer → IsLoose (layout_at links) node) × (IsLoose (layout_at links) node → IsTrue answer)
loose_where links node found answer holds at is =
    let known : is_in (rings_at links) node ≡ not answer = linked_known links holds node ∙ (ap (λ (slot : Option Node). is_some (option_and_then (λ (n : Node). n.before) slot)) at ∙ is) in (
      λ on. record { made = stored_node links node (ap (λ (slot : Option Node). is_some slot) at); apart = known ∙ ap not on },
      λ loose. by_test (λ b. answer ≡ b → b ≡ true) answer (λ on e. refl) (λ off e. not_both (known ∙ ap not off) loose.apart) refl,
    )

-- a node that isn't there isn't loose
pub gone_where : (links : Links) (node : NodeId) → slot_at links node ≡ None → (IsTrue false → IsLoose (layout_at links) node) × (IsLoose (layout_at links) node → IsTrue false)
gone_where links node at = (λ on. cc, λ loose. sym (ap (λ (slot : Option Node). is_some slot) at) ∙ node_stored links node loose.made)

-- the first node of a ring is where its head leads
pub first_is : (links : Links) → IsHeld links → (ring : RingId) → IsRing (layout_at links) ring → first_of (layout_at links) ring ≡ next_at links (Head ring)
first_is links holds ring there =
    let same : 0 + ring.index ≡ ring.index = omega arith in
    first_leads_in links 0 (rings_at links) ring.index holds.runs there ∙ ap (λ i. next_at links (head_of i)) same

-- a linked node that was read knows a place
pub knows_place : (links : Links) (node : NodeId) (found : Node) → IsHeld links → IsLinked (layout_at links) node → slot_at links node ≡ Some found → found.before ≡ None → ⊥
knows_place links node found holds there at none =
    let known = linked_is links (rings_at links) holds node there in
    let before : before_at links node ≡ Some known.0 = known.1 in
    let read = before_read links node found at in
    cc

-- the place before a node has a link
pub before_stored : (links : Links) (node : NodeId) (place : Place) → IsHeld links → before_at links node ≡ Some place → HasPlace links place
before_stored links node place holds at = led_place place (holds.forth node place at) where
  led_place : (place : Place) → next_at links place ≡ Some node → HasPlace links place
  led_place (Head ring) led = within links.heads ring.index node led
  led_place (After other) led =
      elim (slot_at links other) as (λ slot. option_and_then (λ (n : Node). n.after) slot ≡ Some node → IsSome slot) [ None ↦ λ b. cc | Some n ↦ λ b. refl ] led

-- a node, if there is one, stays stored
pub any_stays_stored : (old new : Links) (found : Option NodeId) → KeepsNodes old new → IsStoredIfAny old found → IsStoredIfAny new found
any_stays_stored old new None keeps there = tt
any_stays_stored old new (Some node) keeps there = stays_stored old new node keeps there
