-- The way back: an item that was done can be taken back, which gives back the layout, and the other way round.
use Rattle.std.proofs.Common.{◌≡◌, ◌+◌, cond, List, [], ◌∷◌, ◌++◌, Option, Some, None, IsSome, length, suc, sym, ap, subst, ◌∙◌, refl}
use Rattle.coll_order.specs.Layout.{rings_without}
use Rattle.coll_order.specs.declared.places.NodeId.{NodeId}
use Rattle.coll_order.specs.declared.places.Place.{Place}
use Rattle.coll_order.proofs.ListLemmas.{is_in_without_itself}
use Rattle.coll_order.proofs.RingLemmas.{place_from_put}
use Rattle.coll_order.proofs.Sameness.{same_node_itself}
use Rattle.coll_syntax.specs.declared.weights.Weight.{Weight}
use Rattle.coll_nodes.proofs.TurningKeys.{IsAlike, stand_alike}
use Rattle.coll_nodes.proofs.TurningNodes.{content_weighed, weighed_back, weighed_bare, weighed_if}
use Rattle.coll_table.proofs.TurningRings.{goes_back, without_relinked}
use Rattle.coll_table.proofs.TurningSound.{after_item, item_back_sound, item_on_sound, place_for_among, reweighed_same}
use Rattle.coll_nodes.specs.Bodies.{without_link}
use Rattle.coll_nodes.specs.SoundLayouts.{IsSoundLayout}
use Rattle.coll_nodes.specs.TableLayout.{TableLayout, content_of}
use Rattle.coll_nodes.specs.Moving.{CanGo, IsAt, Suits, exchanged, weighed}
use Rattle.coll_table.specs.Record.{added_nodes, item_added}
use Rattle.coll_table.specs.Turning.{CanTurnBack, CanTurnOn, ItemGoes, items_back, items_on, item_back, item_on, steps_between, steps_of, turned_back, turned_on, with_exchanged}
use Rattle.coll_nodes.specs.declared.contents.Content.{Content}
use Rattle.coll_table.specs.declared.records.Item.{Item}

-- what a node is that gets other weights
pub content_itself : (layout : TableLayout) (node : NodeId) (to : Option Place) (gets : Option Place) (weights : Option (List Weight)) (it : Content) → content_of layout node ≡ Some it
    → content_of (after_item gets layout node to weights) node ≡ Some (weighed weights it)
content_itself layout node to gets weights it known =
    content_weighed node weights layout.nodes node
    ∙ (ap (λ b. cond b (weighed_if weights (content_of layout node)) (content_of layout node)) (same_node_itself node) ∙ ap (weighed_if weights) known)

-- an item after which a node stands elsewhere, and has other weights
module _ (layout : TableLayout) (node : NodeId) (from to : Option Place) (weights : Option (List Weight)) (place : Place) (goes : CanGo layout node from to) where
  abbrev after : TableLayout
  after = after_item (Some place) layout node to weights

  -- without the node, what stands is the same
  gone_alike : IsAlike (without_link layout node) (without_link after node)
  gone_alike = record { rings = without_relinked layout.rings node to; contents = λ other there. reweighed_same layout node other weights }

  -- so the node may stand where it might before
  suits_again : (at : Option Place) → Suits (without_link layout node) node at → Suits (without_link after node) node at
  suits_again at suits = (
    weighed weights suits.0,
    content_itself layout node to (Some place) weights suits.0 suits.1,
    stand_alike (without_link layout node) (without_link after node) gone_alike at (weighed weights suits.0) suits.0 (weighed_bare weights suits.0) suits.2,
  )

  -- and stands where it went
  stands_again : IsAt after node to
  stands_again = by to goes.there where
    by : (to : Option Place) → Suits (without_link layout node) node to → IsAt (after_item (Some place) layout node to weights) node to
    by None suits = record {
      made = subst (λ (found : Option Content). IsSome found) (sym (content_itself layout node None (Some place) weights suits.0 suits.1)) refl;
      apart = is_in_without_itself node layout.rings;
    }
    by (Some there) suits =
        place_from_put there node 0 (rings_without node layout.rings) (is_in_without_itself node layout.rings) (place_for_among (without_link layout node) there suits.0 suits.2.0)

  -- it can go back
  can_go_back : CanGo after node to from
  can_go_back = record { stands = stands_again; here = suits_again to goes.there; there = suits_again from goes.here }

-- an item that was done, or taken back, can be turned again
pub goes_again : (gets had : Option Place) (layout : TableLayout) (node : NodeId) (from to : Option Place) (weights : Option (List Weight)) → ItemGoes gets had layout node from to
    → ItemGoes gets had (after_item gets layout node to weights) node to from
goes_again None had layout node from to weights goes = goes
goes_again (Some place) had layout node from to weights goes = can_go_back layout node from to weights place goes

-- which gives back the layout
pub gives_back : (gets had : Option Place) (layout : TableLayout) (node : NodeId) (from to : Option Place) (weights : Option (List Weight)) → IsSoundLayout layout
    → ItemGoes gets had layout node from to
    → after_item gets (after_item gets layout node to weights) node from (exchanged weights (content_of layout node)) ≡ layout
gives_back None had layout node from to weights sound goes = ap (λ nodes. record layout { nodes = nodes }) (weighed_back node weights layout.nodes sound.named)
gives_back (Some place) had layout node from to weights sound goes =
    ap (λ rings. record { rings = rings; nodes = (after_item (Some place) (after_item (Some place) layout node to weights) node from (exchanged weights (content_of layout node))).nodes })
    (goes_back layout node from to sound.laid.once goes.stands)
    ∙ ap (λ nodes. record layout { nodes = nodes }) (weighed_back node weights layout.nodes sound.named)

-- items taken back can be done, which gives back the layout
pub record BackAndOn (layout : TableLayout) (items : List Item) : Type 0 where
  pub sound : IsSoundLayout (turned_back layout items)
  pub goes : CanTurnOn (turned_back layout items) (items_back layout items)
  pub gives : turned_on (turned_back layout items) (items_back layout items) ≡ layout

pub back_and_on : (layout : TableLayout) (items : List Item) → IsSoundLayout layout → CanTurnBack layout items → BackAndOn layout items
unfolding turned_back turned_on items_back CanTurnBack CanTurnOn
back_and_on layout [] sound goes = record { sound = sound; goes = tt; gives = refl }
back_and_on layout (item ∷ items) sound goes =
    let later = back_and_on layout items sound goes.0 in
    let before = turned_back layout items in
    let back = gives_back item.new item.old before item.node item.new item.old item.weights later.sound goes.1 in
    record {
      sound = item_back_sound before item later.sound goes.1;
      goes = (goes_again item.new item.old before item.node item.new item.old item.weights goes.1, subst (λ l. CanTurnOn l (items_back layout items)) (sym back) later.goes);
      gives = ap (λ l. turned_on l (items_back layout items)) back ∙ later.gives;
    }

-- items done can be taken back, which gives back the layout
pub record OnAndBack (layout : TableLayout) (items : List Item) : Type 0 where
  pub sound : IsSoundLayout (turned_on layout items)
  pub goes : CanTurnBack (turned_on layout items) (items_on layout items)
  pub gives : turned_back (turned_on layout items) (items_on layout items) ≡ layout

pub on_and_back : (layout : TableLayout) (items : List Item) → IsSoundLayout layout → CanTurnOn layout items → OnAndBack layout items
unfolding turned_back turned_on items_on CanTurnBack CanTurnOn
on_and_back layout [] sound goes = record { sound = sound; goes = tt; gives = refl }
on_and_back layout (item ∷ items) sound goes =
    let after = item_on layout item in
    let later = on_and_back after items (item_on_sound layout item sound goes.0) goes.1 in
    let again = goes_again item.new item.old layout item.node item.old item.new item.weights goes.0 in
    let back = gives_back item.new item.old layout item.node item.old item.new item.weights sound goes.0 in
    record {
      sound = later.sound;
      goes = (later.goes, subst (λ l. ItemGoes item.new item.old l item.node item.new item.old) (sym later.gives) again);
      gives = ap (λ l. item_back l (with_exchanged layout item)) later.gives ∙ back;
    }

-- both take the same ring steps
pub steps_back : (layout : TableLayout) (items : List Item) → steps_of (items_back layout items) ≡ steps_of items
unfolding steps_of items_back
steps_back layout [] = refl
steps_back layout (item ∷ items) = ap (λ n. steps_between item.old item.new + n) (steps_back layout items)

pub steps_on : (layout : TableLayout) (items : List Item) → steps_of (items_on layout items) ≡ steps_of items
unfolding steps_of items_on
steps_on layout [] = refl
steps_on layout (item ∷ items) = ap (λ n. steps_between item.old item.new + n) (steps_on (item_on layout item) items)

-- and there are as many
pub length_back : (layout : TableLayout) (items : List Item) → length (items_back layout items) ≡ length items
unfolding items_back
length_back layout [] = refl
length_back layout (item ∷ items) = ap suc (length_back layout items)

pub length_on : (layout : TableLayout) (items : List Item) → length (items_on layout items) ≡ length items
unfolding items_on
length_on layout [] = refl
length_on layout (item ∷ items) = ap suc (length_on (item_on layout item) items)

-- and they added the same nodes
pub added_back : (layout : TableLayout) (items : List Item) → added_nodes (items_back layout items) ≡ added_nodes items
unfolding added_nodes items_back
added_back layout [] = refl
added_back layout (item ∷ items) = ap (λ (nodes : List NodeId). item_added item ++ nodes) (added_back layout items)

pub added_on : (layout : TableLayout) (items : List Item) → added_nodes (items_on layout items) ≡ added_nodes items
unfolding added_nodes items_on
added_on layout [] = refl
added_on layout (item ∷ items) = ap (λ (nodes : List NodeId). item_added item ++ nodes) (added_on (item_on layout item) items)
