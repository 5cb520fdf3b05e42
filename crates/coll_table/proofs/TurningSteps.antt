-- The steps of turning: what a call that turns an item needs, and what one item more makes of those that are turned.
use Rattle.std.proofs.Common.{◌≡◌, ℕ, zero, suc, ◌+◌, ◌*◌, ◌%◌, ◌^◌, ◌<◌, ◌≤◌, Bool, true, false, List, [], ◌∷◌, ◌++◌, take, drop, get_or, set}
use Rattle.std.proofs.Common.{length, length-drop, drop-cons, append_assoc, arith, Option, Some, None, IsSome, sym, ap, subst, ◌∙◌, refl}
use Rattle.std.proofs.lemmas.List.{drop-set-lt, take-append-drop}
use Rattle.std.proofs.Math.ListN.{drop_of_length-le}
use Rattle.std.proofs.Math.Nat.{mod-add-mod, mod-eq_of_lt}
use Rattle.std.proofs.Math.Seq.{drop-length}
use Rattle.std.specs.Option.{option_or}
use Rattle.coll_order.specs.Layout.{is_in, place_from, rings_with}
use Rattle.coll_order.specs.declared.places.NodeId.{NodeId}
use Rattle.coll_order.specs.declared.places.Place.{Place}
use Rattle.coll_order.proofs.ListLemmas.{rings_without_absent}
use Rattle.coll_table.proofs.TurningSound.{at_linked}
use Rattle.coll_nodes.specs.Bodies.{IsLooseNode, with_link}
use Rattle.coll_table.specs.Record.{CanTurn, more_steps, turned_items}
use Rattle.coll_nodes.specs.SoundLayouts.{IsSoundLayout}
use Rattle.coll_nodes.specs.TableLayout.{TableLayout, content_of}
use Rattle.coll_nodes.specs.Moving.{CanGo, IsAt, Suits, moved_rings}
use Rattle.coll_table.specs.Turning.{CanDo, CanGoBack, CanGoOn, CanTurnBack, CanTurnOn, ItemGoes, item_back, item_on, item_steps, items_back, items_on}
use Rattle.coll_table.specs.Turning.{placed_at, placed_item, placed_items, steps_between, steps_of, turned_back, turned_on, with_exchanged}
use Rattle.coll_table.specs.declared.records.Item.{Item}

-- a node that an item in force names stands in a ring
pub names_linked : (gets had : Option Place) (layout : TableLayout) (node : NodeId) → ItemGoes gets had layout node gets had → is_in layout.rings node ≡ true
names_linked None had layout node goes = goes.1
names_linked (Some place) had layout node goes = at_linked 0 layout.rings node place goes.stands

-- a node that goes from a place stands in a ring
pub from_linked : (gets had : Option Place) (layout : TableLayout) (node : NodeId) (to before : Place) → gets ≡ Some to → had ≡ Some before
    → ItemGoes gets (placed_at had layout node) layout node (placed_at had layout node) gets → is_in layout.rings node ≡ true
from_linked None had layout node to before is was goes = cc
from_linked (Some place) None layout node to before is was goes = cc
from_linked (Some place) (Some other) layout node to before is was goes = by (place_from 0 layout.rings node) goes.stands where
  by : (found : Option Place) → IsAt layout node (option_or found (Some other)) → is_in layout.rings node ≡ true
  by None at = at_linked 0 layout.rings node other at
  by (Some own) at = at_linked 0 layout.rings node own at

-- a node that is put in goes from nowhere
pub from_nowhere : (gets had : Option Place) (layout : TableLayout) (node : NodeId) (to : Place) → gets ≡ Some to → had ≡ None
    → ItemGoes gets (placed_at had layout node) layout node (placed_at had layout node) gets → CanGo layout node None (Some to)
from_nowhere None had layout node to is was goes = cc
from_nowhere (Some place) (Some other) layout node to is was goes = cc
from_nowhere (Some place) None layout node to is was goes = subst (λ p. CanGo layout node None p) is goes

-- it may stand there
pub suits_loose : (layout : TableLayout) (node : NodeId) (place : Place) → CanGo layout node None (Some place) → Suits layout node (Some place)
suits_loose layout node place goes = subst (λ rings. Suits (record layout { rings = rings }) node (Some place)) (rings_without_absent node layout.rings goes.stands.apart) goes.there

-- and the layout is the one in which it was put there
pub put_loose : (gets : Option Place) (layout : TableLayout) (node : NodeId) (place : Place) → gets ≡ Some place → IsLooseNode layout node
    → with_link layout node place ≡ record layout { rings = moved_rings gets layout.rings node gets }
put_loose gets layout node place is loose =
    ap (λ rings. record layout { rings = rings_with place node 0 rings }) (sym (rings_without_absent node layout.rings loose.apart))
    ∙ ap (λ (to : Option Place). record layout { rings = moved_rings to layout.rings node to }) (sym is)

-- the node of an item is there
pub item_made : (gets had : Option Place) (layout : TableLayout) (node : NodeId) (from to : Option Place) → IsSoundLayout layout → ItemGoes gets had layout node from to
    → IsSome (content_of layout node)
item_made None had layout node from to sound goes = sound.laid.made node goes.1
item_made (Some place) had layout node from to sound goes = subst (λ (found : Option _). IsSome found) (sym goes.there.1) refl

-- Items taken back, from the last on.

-- the items from a number on are taken back, and those before it stand
pub record AreBack (first : TableLayout) (given : List Item) (before at : ℕ) (layout : TableLayout) (items : List Item) (count steps : ℕ) : Type 0 where
  pub turned : layout ≡ turned_back first (drop at given)
  pub exchanged : items ≡ take at given ++ items_back first (drop at given)
  pub counted : count ≡ steps_of (drop at given)
  pub rises : steps ≡ more_steps before count

-- a list of which the members up to a number stand, and its next is written
module _ {X : Type 0} where
  -- what stands there
  prefix_read : (xs tail : List X) (k : ℕ) (d : X) → k < length xs → get_or (take (suc k) xs ++ tail) k d ≡ get_or xs k d
  prefix_read [] tail k d below = absurd (omega arith)
  prefix_read (x ∷ xs) tail zero d below = refl
  prefix_read (x ∷ xs) tail (suc k) d below = prefix_read xs tail k d (omega arith)

  -- and what stands once it is written
  prefix_set : (xs tail : List X) (k : ℕ) (new : X) → k < length xs → set (take (suc k) xs ++ tail) k new ≡ take k xs ++ new ∷ tail
  prefix_set [] tail k new below = absurd (omega arith)
  prefix_set (x ∷ xs) tail zero new below = refl
  prefix_set (x ∷ xs) tail (suc k) new below = ap (λ ys. x ∷ ys) (prefix_set xs tail k new (omega arith))

  whole : (xs : List X) → xs ≡ take (length xs) xs ++ []
  whole [] = refl
  whole (x ∷ xs) = ap (λ ys. x ∷ ys) (whole xs)

-- items that can all be taken back, from one on
can_drop : (layout : TableLayout) (items : List Item) (k : ℕ) → CanTurnBack layout items → CanTurnBack layout (drop k items)
unfolding CanTurnBack
can_drop layout items zero goes = goes
can_drop layout [] (suc k) goes = goes
can_drop layout (item ∷ items) (suc k) goes = can_drop layout items k goes.0

-- an item takes at most two ring steps
few_steps : (item : Item) → item_steps item ≤ 2
few_steps item = by item.old item.new where
  by : (had gets : Option Place) → steps_between had gets ≤ 2
  by None None = omega arith
  by None (Some place) = omega arith
  by (Some place) None = omega arith
  by (Some place) (Some other) = omega arith

-- so items take few
pub bounded_steps : (items : List Item) → steps_of items ≤ 2 * length items
unfolding steps_of
bounded_steps [] = omega arith
bounded_steps (item ∷ items) = omega (arith, few_steps item, bounded_steps items)

-- some steps more, and then some more
more_twice : (steps a b : ℕ) → more_steps (more_steps steps a) b ≡ more_steps steps (a + b)
more_twice steps a b = let sum : (steps + a) + b ≡ steps + (a + b) = omega arith in mod-add-mod (steps + a) (2 ^ 64) b ∙ ap (λ n. n % 2 ^ 64) sum

-- none more
pub no_more : (steps : ℕ) → steps < 2 ^ 64 → steps ≡ more_steps steps 0
no_more steps low = let sum : steps + 0 ≡ steps = omega arith in sym (ap (λ n. n % 2 ^ 64) sum ∙ mod-eq_of_lt low)

-- at first all items stand
pub back_init : (layout : TableLayout) (given : List Item) (before : ℕ) → before < 2 ^ 64 → AreBack layout given before (length given) layout given 0 before
unfolding turned_back items_back steps_of
back_init layout given before low = record {
  turned = sym (ap (turned_back layout) (drop-length given));
  exchanged = whole given ∙ ap (λ items. take (length given) given ++ items_back layout items) (sym (drop-length given));
  counted = sym (ap steps_of (drop-length given));
  rises = no_more before low;
}

module _ (layout : TableLayout) (given : List Item) (before k : ℕ) (now : TableLayout) (items : List Item) (count steps : ℕ) (are : AreBack layout given before (suc k) now items count steps)
    (below : k < length given) (d : Item) where
  -- the next item stands
  next_read : get_or items k d ≡ get_or given k d
  next_read = ap (λ xs. get_or xs k d) are.exchanged ∙ prefix_read given (items_back layout (drop (suc k) given)) k d below

  -- and can be taken back
  pub back_next : CanTurnBack layout given → CanGoBack now (get_or items k d)
  unfolding CanTurnBack
  back_next goes =
      let from : CanTurnBack layout (get_or given k d ∷ drop (suc k) given) = subst (λ xs. CanTurnBack layout xs) (drop-cons given k d below) (can_drop layout given k goes) in
      subst (λ item. CanGoBack now item) (sym next_read) (subst (λ l. CanGoBack l (get_or given k d)) (sym are.turned) from.1)

  -- then one item more is taken back
  pub back_more : (after : TableLayout) (turned : Item) (more risen : ℕ) → after ≡ item_back now (get_or items k d) → turned ≡ with_exchanged now (get_or items k d)
      → more ≡ item_steps (get_or items k d)
      → risen ≡ more_steps steps more → AreBack layout given before k after (set items k turned) (count + more) risen
  unfolding turned_back items_back steps_of
  back_more after turned more risen is_after is_turned is_more rises =
      let later = drop (suc k) given in
      let next = drop-cons given k d below in
      let is_risen : risen ≡ more_steps before (count + more) = rises ∙ (ap (λ s. more_steps s more) are.rises ∙ more_twice before count more) in
      let is_count : count + more ≡ item_steps (get_or given k d) + steps_of later = let was = are.counted in let here = is_more ∙ ap item_steps next_read in omega (arith, was, here) in
      record {
        turned = is_after ∙ (ap (λ l. item_back l (get_or items k d)) are.turned ∙ (ap (item_back (turned_back layout later)) next_read ∙ ap (turned_back layout) (sym next)));
        exchanged = ap (λ xs. set xs k turned) are.exchanged ∙ (prefix_set given (items_back layout later) k turned below
            ∙ (ap (λ item. take k given ++ item ∷ items_back layout later)
            (is_turned ∙ (ap (λ l. with_exchanged l (get_or items k d)) are.turned ∙ ap (with_exchanged (turned_back layout later)) next_read))
            ∙ ap (λ xs. take k given ++ items_back layout xs) (sym next)));
        counted = is_count ∙ ap steps_of (sym next);
        rises = is_risen;
      }

-- a count of steps is small
pub back_few : (layout : TableLayout) (given : List Item) (before k : ℕ) (now : TableLayout) (items : List Item) (count steps : ℕ) → AreBack layout given before k now items count steps
    → length given ≤ 4096 → count ≤ 8192
back_few layout given before k now items count steps are few =
    let bound = bounded_steps (drop k given) in let most = length-drop k given in let is = are.counted in omega (arith, bound, most, is, few)

-- at the end all are taken back
pub back_done : (layout : TableLayout) (given : List Item) (before at : ℕ) (now : TableLayout) (items : List Item) (count steps : ℕ) → AreBack layout given before at now items count steps → at ≤ 0
    → AreBack layout given before 0 now items count steps
back_done layout given before at now items count steps are low = let none : at ≡ 0 = omega (arith, low) in subst (λ k. AreBack layout given before k now items count steps) none are

-- Items done, from the first on.

-- the items up to a number are done, and those from it on stand
pub record AreOn (first : TableLayout) (given : List Item) (before at : ℕ) (layout : TableLayout) (items : List Item) (count steps : ℕ) : Type 0 where
  pub rest : drop at items ≡ drop at given
  pub goes : CanDo layout (drop at given)
  pub turned : turned_on first given ≡ turned_on layout (drop at given)
  pub exchanged : items_on first (placed_items first given) ≡ take at items ++ items_on layout (placed_items layout (drop at given))
  pub counted : steps_of given ≡ count + steps_of (drop at given)
  pub rises : steps ≡ more_steps before count

-- at first all items stand
pub on_init : (layout : TableLayout) (given : List Item) (before : ℕ) → before < 2 ^ 64 → CanDo layout given → AreOn layout given before 0 layout given 0 before
on_init layout given before low goes = record {
  rest = refl;
  goes = goes;
  turned = refl;
  exchanged = refl;
  counted = omega arith;
  rises = no_more before low;
}

-- a list of which a member is written
module _ {X : Type 0} where
  set_prefix : (xs : List X) (k : ℕ) (new : X) → k < length xs → take (suc k) (set xs k new) ≡ take k xs ++ new ∷ []
  set_prefix [] k new below = absurd (omega arith)
  set_prefix (x ∷ xs) zero new below = refl
  set_prefix (x ∷ xs) (suc k) new below = ap (λ ys. x ∷ ys) (set_prefix xs k new (omega arith))

  -- lists that go on alike from a number on have the same there, and go on alike behind it
  same_rest : (xs ys : List X) (k : ℕ) (d : X) → length xs ≡ length ys → k < length ys → drop k xs ≡ drop k ys → (get_or xs k d ≡ get_or ys k d) × (drop (suc k) xs ≡ drop (suc k) ys)
  same_rest xs ys k d same below e =
      let both : get_or xs k d ∷ drop (suc k) xs ≡ get_or ys k d ∷ drop (suc k) ys = sym (drop-cons xs k d (omega (arith, same, below))) ∙ (e ∙ drop-cons ys k d below) in
      (cc, cc)

module _ (layout : TableLayout) (given : List Item) (before k : ℕ) (now : TableLayout) (items : List Item) (count steps : ℕ) (are : AreOn layout given before k now items count steps)
    (below : k < length given) (as_many : length items ≡ length given) (d : Item) where
  same_next : (get_or items k d ≡ get_or given k d) × (drop (suc k) items ≡ drop (suc k) given)
  same_next = same_rest items given k d as_many below are.rest

  -- the next item and those behind it can be done
  goes_next : CanGoOn now (placed_item now (get_or given k d)) × CanDo (item_on now (get_or given k d)) (drop (suc k) given)
  unfolding CanTurnOn placed_items
  goes_next = subst (λ xs. CanDo now xs) (drop-cons given k d below) are.goes

  pub on_next : CanGoOn now (placed_item now (get_or items k d))
  on_next = subst (λ item. CanGoOn now (placed_item now item)) (sym same_next.0) goes_next.0

  -- then one item more is done
  pub on_more : (after : TableLayout) (turned : Item) (more risen : ℕ) → after ≡ item_on now (get_or items k d) → turned ≡ with_exchanged now (placed_item now (get_or items k d))
      → more ≡ item_steps (get_or items k d)
      → risen ≡ more_steps steps more → AreOn layout given before (suc k) after (set items k turned) (count + more) risen
  unfolding turned_on items_on placed_items steps_of
  on_more after turned more risen is_after is_turned is_more rises =
      let item = get_or given k d in
      let later = drop (suc k) given in
      let next : drop k given ≡ item ∷ later = drop-cons given k d below in
      let stands : after ≡ item_on now item = is_after ∙ ap (item_on now) same_next.0 in
      record {
        rest = drop-set-lt (suc k) items k turned (omega arith) ∙ same_next.1;
        goes = subst (λ l. CanDo l later) (sym stands) goes_next.1;
        turned = are.turned ∙ (ap (turned_on now) next ∙ ap (λ l. turned_on l later) (sym stands));
        exchanged = are.exchanged ∙ (ap (λ xs. take k items ++ items_on now (placed_items now xs)) next
            ∙ (ap (λ own. take k items ++ own ∷ items_on (item_on now item) (placed_items (item_on now item) later))
            (sym (is_turned ∙ ap (λ own. with_exchanged now (placed_item now own)) same_next.0))
            ∙ (ap (λ l. take k items ++ turned ∷ items_on l (placed_items l later)) (sym stands)
            ∙ (sym (append_assoc (take k items) (turned ∷ []) (items_on after (placed_items after later)))
            ∙ ap (λ xs. xs ++ items_on after (placed_items after later)) (sym (set_prefix items k turned (omega (arith, below, as_many))))))));
        counted = (let was = are.counted ∙ ap (λ xs. count + steps_of xs) next in let here = is_more ∙ ap item_steps same_next.0 in omega (arith, was, here));
        rises = rises ∙ (ap (λ s. more_steps s more) are.rises ∙ more_twice before count more);
      }

-- a count of steps is small
pub on_few : (layout : TableLayout) (given : List Item) (before k : ℕ) (now : TableLayout) (items : List Item) (count steps : ℕ) → AreOn layout given before k now items count steps
    → length given ≤ 4096 → count ≤ 8192
on_few layout given before k now items count steps are few = let bound = bounded_steps given in let is = are.counted in omega (arith, bound, is, few)

-- at the end all are done
pub record AllOn (first : TableLayout) (given : List Item) (before : ℕ) (layout : TableLayout) (items : List Item) (count steps : ℕ) : Type 0 where
  pub turned : layout ≡ turned_on first given
  pub exchanged : items ≡ items_on first (placed_items first given)
  pub counted : count ≡ steps_of given
  pub rises : steps ≡ more_steps before count

pub on_done : (layout : TableLayout) (given : List Item) (before at : ℕ) (now : TableLayout) (items : List Item) (count steps : ℕ) → AreOn layout given before at now items count steps
    → length given ≤ at
    → AllOn layout given before now items count steps
unfolding turned_on items_on placed_items steps_of
on_done layout given before at now items count steps are all =
    let none : drop at given ≡ [] = drop_of_length-le given all in
    record {
      turned = sym (are.turned ∙ ap (turned_on now) none);
      exchanged = sym (are.exchanged ∙ (ap (λ xs. take at items ++ items_on now (placed_items now xs)) none ∙ (ap (λ xs. take at items ++ xs) (sym (are.rest ∙ none)) ∙ take-append-drop at items)));
      counted = (let is = are.counted ∙ ap (λ xs. count + steps_of xs) none in omega (arith, is));
      rises = are.rises;
    }

-- items that say where their nodes stand have the places already
pub placed_already : (layout : TableLayout) (items : List Item) → CanTurnOn layout items → placed_items layout items ≡ items
unfolding CanTurnOn placed_items
placed_already layout [] goes = refl
placed_already layout (item ∷ items) goes =
    ap (λ had. (record item { old = had }) ∷ placed_items (item_on layout item) items) (same item.new item.old goes.0)
    ∙ ap (λ later. item ∷ later) (placed_already (item_on layout item) items goes.1) where
      same : (gets had : Option Place) → ItemGoes gets had layout item.node had gets → placed_at had layout item.node ≡ had
      same gets None goes = refl
      same None (Some place) goes = let none = goes.0 in cc
      same (Some to) (Some place) goes = ap (λ found. option_or found (Some place)) goes.stands

-- so undone items can be done
pub undone_goes : (undone : Bool) (layout : TableLayout) (items : List Item) → undone ≡ true → CanTurn undone layout items → CanDo layout items
undone_goes true layout items is goes = subst (λ placed. CanTurnOn layout placed) (sym (placed_already layout items goes)) goes
undone_goes false layout items is goes = cc

-- and are then turned
pub undone_turned : (undone : Bool) (layout : TableLayout) (items : List Item) → undone ≡ true → CanTurn undone layout items → items_on layout (placed_items layout items)
    ≡ turned_items undone layout items
undone_turned true layout items is goes = ap (items_on layout) (placed_already layout items goes)
undone_turned false layout items is goes = cc
