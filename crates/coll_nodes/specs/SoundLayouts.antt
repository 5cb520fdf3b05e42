-- What holds of the layout of every table, apart from its look-ups and its count of ring steps.
use Rattle.std.specs.Prelude.{◌≡◌, Bool, true, List, map}
use Rattle.coll_order.specs.Sound.{AreDistinct}
use Rattle.coll_order.specs.declared.places.NodeId.{NodeId}
use Rattle.coll_syntax.specs.Identifier.{same_name, same_id}
use Rattle.coll_nodes.specs.Bodies.{IsLaidOut}
use Rattle.coll_nodes.specs.SoundBodies.{IsShaped, has_key, names_in, texts_in, section_names_in, ids_in}
use Rattle.coll_nodes.specs.TableLayout.{TableLayout, TableValue, MadeNode, collation}
use Rattle.coll_nodes.specs.WellFormed.{IsWellFormed}
use Rattle.coll_nodes.specs.declared.contents.Content.{Content}

-- no two nodes that stand in rings have one key
abbrev pub AreOnce : {Key : Type 0} → (Key → Key → Bool) → (Content → List Key) → TableLayout → Type 0
AreOnce {Key} same keys layout = (key : Key) (a b : NodeId) → has_key same keys layout key a ≡ true → has_key same keys layout key b ≡ true
    → a ≡ b

-- no node stands twice, each that stands is there, and none has two contents; each ring has nodes of its kind; and no two nodes
-- that stand in rings declare one name or one string, are sections of one name, or entries of one identifier
pub record IsSoundLayout (layout : TableLayout) : Type 0 where
  pub laid : IsLaidOut layout
  pub named : AreDistinct (map (λ (made : MadeNode). made.node) layout.nodes)
  pub shaped : IsShaped layout
  pub names : AreOnce same_name names_in layout
  pub texts : AreOnce same_name texts_in layout
  pub sections : AreOnce same_name section_names_in layout
  pub ids : AreOnce same_id ids_in layout

-- what holds of every table: its layout is sound, and it is well formed
pub record IsTable (table : TableValue) : Type 0 where
  pub sound : IsSoundLayout table.layout
  pub well_formed : IsWellFormed (collation table)
