-- The laws of taking a node out and putting it in.
use Rattle.std.specs.Prelude.{◌≡◌, Some}
use Rattle.coll_order.specs.declared.places.NodeId.{NodeId}
use Rattle.coll_order.specs.declared.places.Place.{Place}
use Rattle.coll_order.specs.Changes.{unlinked, linked}
use Rattle.coll_order.specs.Layout.{Layout, place_of, IsLoose, IsPlace}
use Rattle.coll_order.specs.Sound.{IsSound}

-- a node that is taken out and put back after the place where it stood gives back the layout
abbrev pub LinkTakesBackUnlink : Type 0
LinkTakesBackUnlink = (layout : Layout) (node : NodeId) (place : Place) → IsSound layout
    → place_of layout node ≡ Some place → linked (unlinked layout node) node place ≡ layout

-- a loose node that is put after a place stands there, and taken out again it gives back the layout
abbrev pub UnlinkTakesBackLink : Type 0
UnlinkTakesBackLink = (layout : Layout) (node : NodeId) (place : Place) → IsLoose layout node → IsPlace layout place
    → (place_of (linked layout node place) node ≡ Some place) × (unlinked (linked layout node place) node ≡ layout)
