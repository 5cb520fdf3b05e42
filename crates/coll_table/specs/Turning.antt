-- What an item of a record makes of a layout, done and taken back, and when it can.
--
-- An item is a node that a statement moved, put in, or gave other weights: the place that it stood at, if it stood anywhere,
-- the place that it got, and the weights that go to its entry. A place is what stands directly before.
use Rattle.std.specs.Prelude.{◌≡◌, ℕ, ◌+◌, true, List, [], ◌∷◌, Option, Some, None}
use Rattle.std.specs.Option.{option_or}
use Rattle.coll_order.specs.Layout.{is_in, place_from}
use Rattle.coll_order.specs.declared.places.NodeId.{NodeId}
use Rattle.coll_order.specs.declared.places.Place.{Place}
use Rattle.coll_nodes.specs.Moving.{moved_rings, weighed_nodes, exchanged, CanGo}
use Rattle.coll_nodes.specs.TableLayout.{TableLayout, content_of}
use Rattle.coll_table.specs.declared.records.Item.{Item}

-- Items.

-- an item with the weights of its node in place of those that go to it
abbrev pub with_exchanged : TableLayout → Item → Item
with_exchanged layout item = record item { weights = exchanged item.weights (content_of layout item.node) }

-- a layout with an item taken back
abbrev pub item_back : TableLayout → Item → TableLayout
item_back layout item = record {
  rings = moved_rings item.new layout.rings item.node item.old;
  nodes = weighed_nodes item.node item.weights layout.nodes;
}

-- a layout with an item done
abbrev pub item_on : TableLayout → Item → TableLayout
item_on layout item = record {
  rings = moved_rings item.new layout.rings item.node item.new;
  nodes = weighed_nodes item.node item.weights layout.nodes;
}

-- a layout with items taken back, from the last to the first
unfoldable pub turned_back : TableLayout → List Item → TableLayout
turned_back layout [] = layout
turned_back layout (item ∷ items) = item_back (turned_back layout items) item

-- a layout with items done, from the first to the last
unfoldable pub turned_on : TableLayout → List Item → TableLayout
turned_on layout [] = layout
turned_on layout (item ∷ items) = turned_on (item_on layout item) items

-- items once they are taken back: each has the weights that its node had at its moment
unfoldable pub items_back : TableLayout → List Item → List Item
items_back layout [] = []
items_back layout (item ∷ items) = with_exchanged (turned_back layout items) item ∷ items_back layout items

-- items once they are done: each has the weights that its node had at its moment
unfoldable pub items_on : TableLayout → List Item → List Item
items_on layout [] = []
items_on layout (item ∷ items) = with_exchanged layout item ∷ items_on (item_on layout item) items

-- When an item can be done or taken back.

-- an item whose node goes from one place to another can; one that gets no place had none, and its node stands in a ring
abbrev pub ItemGoes : (gets had : Option Place) → TableLayout → NodeId → (from to : Option Place) → Type 0
ItemGoes None had layout node from to = (had ≡ None) × (is_in layout.rings node ≡ true)
ItemGoes (Some place) had layout node from to = CanGo layout node from to

-- an item can be taken back
abbrev pub CanGoBack : TableLayout → Item → Type 0
CanGoBack layout item = ItemGoes item.new item.old layout item.node item.new item.old

-- an item can be done
abbrev pub CanGoOn : TableLayout → Item → Type 0
CanGoOn layout item = ItemGoes item.new item.old layout item.node item.old item.new

-- each item can be taken back at its moment
unfoldable pub CanTurnBack : TableLayout → List Item → Type 0
CanTurnBack layout [] = Unit {0}
CanTurnBack layout (item ∷ items) = CanTurnBack layout items × CanGoBack (turned_back layout items) item

-- each item can be done at its moment
unfoldable pub CanTurnOn : TableLayout → List Item → Type 0
CanTurnOn layout [] = Unit {0}
CanTurnOn layout (item ∷ items) = CanGoOn layout item × CanTurnOn (item_on layout item) items

-- Items whose nodes stand somewhere, but don't say where yet: as they are when a statement is accepted.

-- the place where a node stands now, if it is said to stand somewhere
abbrev pub placed_at : (had : Option Place) → TableLayout → NodeId → Option Place
placed_at None layout node = None
placed_at (Some place) layout node = option_or (place_from 0 layout.rings node) (Some place)

-- an item with the place where its node stands now, if it says that it stood somewhere
abbrev pub placed_item : TableLayout → Item → Item
placed_item layout item = record item { old = placed_at item.old layout item.node }

-- items with the places where their nodes stand, each at its moment
unfoldable pub placed_items : TableLayout → List Item → List Item
placed_items layout [] = []
placed_items layout (item ∷ items) = placed_item layout item ∷ placed_items (item_on layout item) items

-- each item can be done at its moment, once it says where its node stands
abbrev pub CanDo : TableLayout → List Item → Type 0
CanDo layout items = CanTurnOn layout (placed_items layout items)

-- Ring steps.

-- the ring steps of a node that goes from one place to another: one for each at which it stands
abbrev pub steps_between : (had gets : Option Place) → ℕ
steps_between None None = 0
steps_between None (Some place) = 1
steps_between (Some place) None = 1
steps_between (Some place) (Some other) = 2

-- the ring steps of an item
abbrev pub item_steps : Item → ℕ
item_steps item = steps_between item.old item.new

-- the ring steps of items, done or taken back
unfoldable pub steps_of : List Item → ℕ
steps_of [] = 0
steps_of (item ∷ items) = item_steps item + steps_of items
