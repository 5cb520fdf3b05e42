-- The nodes of entries where the items of a record are done or taken back, one after another.
use Rattle.std.proofs.Common.{◌≡◌, ◌≤◌, ◌<◌, ◌+◌, ◌-◌, ℕ, zero, suc, List, [], ◌∷◌, ◌++◌, IsSome, drop, take, length, get_or, sym, ap, subst, ◌∙◌, refl, arith}
use Rattle.std.proofs.Math.ListN.{drop_of_length-le}
use Rattle.std.proofs.Math.Seq.{drop-cons, take-length}
use Rattle.coll_order.specs.Sound.{AreDistinct}
use Rattle.coll_order.specs.declared.places.NodeId.{NodeId}
use Rattle.coll_lookups.specs.EntryNumbers.{number_at}
use Rattle.coll_nodes.proofs.TurningKeys.{AreSame, some_alike}
use Rattle.coll_nodes.specs.NodeNumbers.{entry_nodes}
use Rattle.coll_nodes.specs.SoundLayouts.{IsSoundLayout}
use Rattle.coll_nodes.specs.TableLayout.{TableLayout, content_of}
use Rattle.coll_table.proofs.FollowedEntries.{item_goes}
use Rattle.coll_table.proofs.TurningBack.{back_and_on, on_and_back}
use Rattle.coll_table.proofs.TurningSound.{reweighed_same}
use Rattle.coll_table.proofs.TurningSteps.{item_made}
use Rattle.coll_table.proofs.FollowedLists.{given_distinct}
use Rattle.coll_table.specs.Following.{AreGiven, AreNumbered, ItemGoesAmong}
use Rattle.coll_table.specs.Turning.{CanGoBack, CanGoOn, CanTurnBack, CanTurnOn, item_back, item_on, turned_back, turned_on}
use Rattle.coll_table.specs.declared.records.Item.{Item}

-- What nodes are.

-- once items are taken back, each node is what it was, but for weights
back_same : (layout : TableLayout) (items : List Item) (node : NodeId) → AreSame (content_of (turned_back layout items) node) (content_of layout node)
unfolding turned_back
back_same layout [] node = refl
back_same layout (item ∷ items) node = reweighed_same (turned_back layout items) item.node node item.weights ∙ back_same layout items node

-- so it is once they are done
on_same : (layout : TableLayout) (items : List Item) (node : NodeId) → AreSame (content_of (turned_on layout items) node) (content_of layout node)
unfolding turned_on
on_same layout [] node = refl
on_same layout (item ∷ items) node = on_same (item_on layout item) items node ∙ reweighed_same layout item.node node item.weights

-- An item at its moment.

-- an item that was done: its layout, and what becomes of the nodes
pub record IsDoneAt (layout : TableLayout) (item : Item) (old new : TableLayout) : Type 0 where
  pub made : IsSome (content_of layout item.node)
  pub goes : AreDistinct (entry_nodes old) → ItemGoesAmong item.new (content_of layout item.node) item.old item.new item.node (entry_nodes old) (entry_nodes new)

-- an item that was taken back
pub record IsUndoneAt (layout : TableLayout) (item : Item) (old new : TableLayout) : Type 0 where
  pub made : IsSome (content_of layout item.node)
  pub goes : AreDistinct (entry_nodes old) → ItemGoesAmong item.new (content_of layout item.node) item.new item.old item.node (entry_nodes old) (entry_nodes new)

-- items from a number on can be taken back
back_goes : (layout : TableLayout) (items : List Item) (k : ℕ) → CanTurnBack layout items → CanTurnBack layout (drop k items)
unfolding CanTurnBack
back_goes layout items zero goes = goes
back_goes layout [] (suc k) goes = tt
back_goes layout (item ∷ items) (suc k) goes = back_goes layout items k goes.0

pub done_at : (layout : TableLayout) (items : List Item) (k : ℕ) (d : Item) → IsSoundLayout layout → CanTurnBack layout items → k < length items
    → IsDoneAt layout (get_or items k d) (turned_back layout (drop k items)) (turned_back layout (drop (suc k) items))
unfolding turned_back CanTurnBack
done_at layout items k d sound goes within =
    let item = get_or items k d in
    let rest = drop (suc k) items in
    let cons : drop k items ≡ item ∷ rest = drop-cons items k d within in
    let here : CanTurnBack layout rest × CanGoBack (turned_back layout rest) item = subst (CanTurnBack layout) cons (back_goes layout items k goes) in
    let at = (back_and_on layout rest sound here.0).sound in
    let same = back_same layout rest item.node in
    let old : turned_back layout (drop k items) ≡ item_back (turned_back layout rest) item = ap (turned_back layout) cons in
    record {
      made = some_alike (content_of layout item.node) (content_of (turned_back layout rest) item.node) (sym same) (item_made item.new item.old (turned_back layout rest) item.node item.new item.old at here.1);
      goes = λ distinct. subst (λ l. ItemGoesAmong item.new (content_of layout item.node) item.old item.new item.node (entry_nodes l) (entry_nodes (turned_back layout rest))) (sym old)
          (item_goes item.new item.old (turned_back layout rest) item.node item.new item.old item.weights (content_of layout item.node) at here.1 same (subst (λ l. AreDistinct (entry_nodes l)) old distinct));
    }

-- items before one can be done, and then it can
on_goes : (layout : TableLayout) (items : List Item) (item : Item) (later : List Item) → CanTurnOn layout (items ++ item ∷ later) → CanTurnOn layout items × CanGoOn (turned_on layout items) item
unfolding CanTurnOn turned_on
on_goes layout [] item later goes = (tt, goes.0)
on_goes layout (first ∷ items) item later goes = let rest = on_goes (item_on layout first) items item later goes.1 in ((goes.0, rest.0), rest.1)

on_one_more : (layout : TableLayout) (items : List Item) (item : Item) → turned_on layout (items ++ item ∷ []) ≡ item_on (turned_on layout items) item
unfolding turned_on
on_one_more layout [] item = refl
on_one_more layout (first ∷ items) item = on_one_more (item_on layout first) items item

-- the items up to one
up_to : (items : List Item) (k : ℕ) (d : Item) → k < length items → (take (suc k) items ≡ take k items ++ get_or items k d ∷ []) × (items ≡ take k items ++ get_or items k d ∷ drop (suc k) items)
up_to [] k d within = absurd (omega (arith, within))
up_to (item ∷ items) zero d within = (refl, refl)
up_to (item ∷ items) (suc k) d within =
    let rest = up_to items k d (omega (arith, within)) in
    (ap (λ (is : List Item). item ∷ is) rest.0, ap (λ (is : List Item). item ∷ is) rest.1)

pub undone_at : (layout : TableLayout) (items : List Item) (k : ℕ) (d : Item) → IsSoundLayout layout → CanTurnOn layout items → k < length items
    → IsUndoneAt layout (get_or items k d) (turned_on layout (take (suc k) items)) (turned_on layout (take k items))
undone_at layout items k d sound goes within =
    let item = get_or items k d in
    let first = take k items in
    let parts = up_to items k d within in
    let here = on_goes layout first item (drop (suc k) items) (subst (CanTurnOn layout) parts.1 goes) in
    let at = (on_and_back layout first sound here.0).sound in
    let same = on_same layout first item.node in
    let old : turned_on layout (take (suc k) items) ≡ item_on (turned_on layout first) item = ap (turned_on layout) parts.0 ∙ on_one_more layout first item in
    record {
      made = some_alike (content_of layout item.node) (content_of (turned_on layout first) item.node) (sym same) (item_made item.new item.old (turned_on layout first) item.node item.old item.new at here.1);
      goes = λ distinct. subst (λ l. ItemGoesAmong item.new (content_of layout item.node) item.new item.old item.node (entry_nodes l) (entry_nodes (turned_on layout first))) (sym old)
          (item_goes item.new item.old (turned_on layout first) item.node item.old item.new item.weights (content_of layout item.node) at here.1 same (subst (λ l. AreDistinct (entry_nodes l)) old distinct));
    }

-- A turn of a loop.

-- the numbers follow one item more that was done
pub done_more : (layout : TableLayout) (items : List Item) (k : ℕ) (item : Item) (numbers after : List ℕ) → IsSoundLayout layout → CanTurnBack layout items → k < length items → length items ≤ 4096
    → item ≡ get_or items k item
    → ((old new : List NodeId) (most : ℕ) → most < 2000000 → ItemGoesAmong item.new (content_of layout item.node) item.old item.new item.node old new → AreNumbered numbers old most
    → AreNumbered after new (suc most))
    → AreNumbered numbers (entry_nodes (turned_back layout (drop k items))) (1000000 + k) → AreNumbered after (entry_nodes (turned_back layout (drop (k + 1) items))) (1000000 + (k + 1))
done_more layout items k item numbers after sound goes within few is follow numbered =
    let at = subst (λ i. IsDoneAt layout i (turned_back layout (drop k items)) (turned_back layout (drop (suc k) items))) (sym is) (done_at layout items k item sound goes within) in
    let next = follow (entry_nodes (turned_back layout (drop k items))) (entry_nodes (turned_back layout (drop (suc k) items))) (1000000 + k) (omega (arith, within, few))
    (at.goes (given_distinct (number_at numbers) 0 (entry_nodes (turned_back layout (drop k items))) numbered.given)) numbered in
    subst (λ n. AreNumbered after (entry_nodes (turned_back layout (drop n items))) (1000000 + n)) (let one : suc k ≡ k + 1 = omega arith in one)
    (subst (λ most. AreNumbered after (entry_nodes (turned_back layout (drop (suc k) items))) most) (let one : suc (1000000 + k) ≡ 1000000 + suc k = omega arith in one) next)

-- at the end they are those of all
pub done_all : (layout : TableLayout) (items : List Item) (k : ℕ) (numbers : List ℕ) → length items ≤ k → k ≤ length items → length items ≤ 4096
    → AreNumbered numbers (entry_nodes (turned_back layout (drop k items))) (1000000 + k) → AreNumbered numbers (entry_nodes layout) 1004096
unfolding turned_back
done_all layout items k numbers past within few numbered =
    let same : entry_nodes (turned_back layout (drop k items)) ≡ entry_nodes layout = ap (λ (is : List Item). entry_nodes (turned_back layout is)) (drop_of_length-le items past) in
    let most = numbered.few in
    let many = ap length same in
    record { given = subst (AreGiven (number_at numbers) 0) same numbered.given; few = omega (arith, most, many, within, few) }

-- the numbers follow one item more that was taken back
pub undone_more : (layout : TableLayout) (items : List Item) (k : ℕ) (item : Item) (numbers after : List ℕ) → IsSoundLayout layout → CanTurnOn layout items → 0 < k → k ≤ length items
    → length items ≤ 4096 → item ≡ get_or items (k - 1) item
    → ((old new : List NodeId) (most : ℕ) → most < 2000000 → ItemGoesAmong item.new (content_of layout item.node) item.new item.old item.node old new → AreNumbered numbers old most
    → AreNumbered after new (suc most))
    → AreNumbered numbers (entry_nodes (turned_on layout (take k items))) (1000000 + (length items - k))
    → AreNumbered after (entry_nodes (turned_on layout (take (k - 1) items))) (1000000 + (length items - (k - 1)))
undone_more layout items k item numbers after sound goes some within few is follow numbered =
    let one : suc (k - 1) ≡ k = omega (arith, some) in
    let here = subst (λ n. AreNumbered numbers (entry_nodes (turned_on layout (take n items))) (1000000 + (length items - k))) (sym one) numbered in
    let at = subst (λ i. IsUndoneAt layout i (turned_on layout (take (suc (k - 1)) items)) (turned_on layout (take (k - 1) items))) (sym is)
    (undone_at layout items (k - 1) item sound goes (omega (arith, some, within))) in
    let next = follow (entry_nodes (turned_on layout (take (suc (k - 1)) items))) (entry_nodes (turned_on layout (take (k - 1) items))) (1000000 + (length items - k)) (omega (arith, within, few))
    (at.goes (given_distinct (number_at numbers) 0 (entry_nodes (turned_on layout (take (suc (k - 1)) items))) here.given)) here in
    subst (λ most. AreNumbered after (entry_nodes (turned_on layout (take (k - 1) items))) most)
    (let more : suc (1000000 + (length items - k)) ≡ 1000000 + (length items - (k - 1)) = omega (arith, some, within) in more) next

pub undone_all : (layout : TableLayout) (items : List Item) (k : ℕ) (numbers : List ℕ) → k ≤ 0 → length items ≤ 4096
    → AreNumbered numbers (entry_nodes (turned_on layout (take k items))) (1000000 + (length items - k)) → AreNumbered numbers (entry_nodes layout) 1004096
unfolding turned_on
undone_all layout items zero numbers none few numbered = let most = numbered.few in record { given = numbered.given; few = omega (arith, most, few) }
undone_all layout items (suc k) numbers none few numbered = absurd (omega (arith, none))

pub undone_first : (layout : TableLayout) (items : List Item) (numbers : List ℕ) → AreNumbered numbers (entry_nodes (turned_on layout items)) 1000000
    → AreNumbered numbers (entry_nodes (turned_on layout (take (length items) items))) (1000000 + (length items - length items))
undone_first layout items numbers numbered =
    subst (λ most. AreNumbered numbers (entry_nodes (turned_on layout (take (length items) items))) most) (let same : 1000000 ≡ 1000000 + (length items - length items) = omega arith in same)
    (subst (λ (is : List Item). AreNumbered numbers (entry_nodes (turned_on layout is)) 1000000) (sym (take-length items)) numbered)
