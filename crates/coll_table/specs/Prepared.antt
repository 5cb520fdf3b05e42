-- What is prepared of a statement before its nodes are linked: an item for each node, of which a new one is made, and loose.
use Rattle.std.specs.Prelude.{◌≡◌, ℕ, Bool, true, false, List, [], ◌∷◌, Option, Some, None, IsSome, length}
use Rattle.coll_order.specs.Layout.{is_in}
use Rattle.coll_order.specs.declared.places.NodeId.{NodeId}
use Rattle.coll_order.specs.declared.places.Place.TheVariants.{After}
use Rattle.coll_syntax.specs.Identifier.{same_id, same_name}
use Rattle.coll_syntax.specs.declared.identifiers.Id.{Id}
use Rattle.coll_syntax.specs.declared.statements.OrderLine.{OrderLine}
use Rattle.coll_syntax.specs.declared.weights.Weight.{Weight}
use Rattle.coll_nodes.specs.Entries.{entry_of, kept_weights}
use Rattle.coll_nodes.specs.Linking.{end_of_declarations}
use Rattle.coll_nodes.specs.SoundBodies.{has_key, ids_in, section_names_in}
use Rattle.coll_nodes.specs.Table.{Collation, is_placed}
use Rattle.coll_nodes.specs.TableLayout.{TableLayout, content_of}
use Rattle.coll_nodes.specs.declared.contents.Content.TheVariants.{Declared, Placed}
use Rattle.coll_nodes.specs.declared.declarations.Declaration.{Declaration}
use Rattle.coll_nodes.specs.declared.entries.Entry.{Entry}
use Rattle.coll_table.specs.declared.records.Item.{Item}

-- the weights that go to an entry, if its line gives any
abbrev pub weights_to : (levels : ℕ) → Id → Option (List Weight) → Option (List Weight)
weights_to levels id None = None
weights_to levels id (Some given) = Some (kept_weights levels id given)

-- the entry that a node is made with, before it gets the weights that its line gives
abbrev pub made_entry : Collation → Id → Entry
made_entry table id = entry_of (length table.rules) table.declared (record { id = id; weights = None })

-- the node of a line: that of its entry, and else one that was made, and is loose
abbrev pub IsNodeFor : (placed : Bool) → Collation → TableLayout → Id → Item → Type 0
IsNodeFor true table layout id item = IsSome item.old × (has_key same_id ids_in layout id item.node ≡ true)
IsNodeFor false table layout id item =
    (item.old ≡ None) × (is_in layout.rings item.node ≡ false) × (content_of layout item.node ≡ Some (Placed (made_entry table id)))

-- an item is prepared for a line of a block, behind the node of the line before, or of the target
pub record IsPreparedLine (table : Collation) (layout : TableLayout) (before : NodeId) (line : OrderLine) (item : Item) : Type 0 where
  pub goes : item.new ≡ Some (After before)
  pub weights : item.weights ≡ weights_to (length table.rules) line.id line.weights
  pub node : IsNodeFor (is_placed table line.id) table layout line.id item

-- items are prepared for the lines of a block, one for each
unfoldable pub ArePrepared : Collation → TableLayout → (before : NodeId) → List OrderLine → List Item → Type 0
ArePrepared table layout before [] [] = Unit {0}
ArePrepared table layout before [] (item ∷ items) = ⊥
ArePrepared table layout before (line ∷ lines) [] = ⊥
ArePrepared table layout before (line ∷ lines) (item ∷ items) =
    IsPreparedLine table layout before line item × ArePrepared table layout item.node lines items

-- items are prepared for a block behind the node of its target
abbrev pub IsPreparedBlock : Collation → TableLayout → (target : Id) → List OrderLine → List Item → Type 0
IsPreparedBlock table layout target lines items = (node : NodeId) × (has_key same_id ids_in layout target node ≡ true)
    × ArePrepared table layout node lines items

-- one item is prepared for a declaration: a loose node goes behind all declarations
abbrev pub IsPreparedDeclaration : TableLayout → Declaration → List Item → Type 0
IsPreparedDeclaration layout declaration items =
    (node : NodeId) × (content_of layout node ≡ Some (Declared declaration))
    × (items ≡ record { node = node; old = None; new = Some (end_of_declarations layout); weights = None } ∷ [])

-- one item is prepared for a section: its node goes behind that of another
abbrev pub IsPreparedSection : TableLayout → (name after : List ℕ) → List Item → Type 0
IsPreparedSection layout name after items =
    (node : NodeId) × (other : NodeId) × (has_key same_name section_names_in layout name node ≡ true)
    × (has_key same_name section_names_in layout after other ≡ true)
    × (items ≡ record { node = node; old = Some (After other); new = Some (After other); weights = None } ∷ [])

-- one item is prepared for an order line outside a block: the weights that it gives go to its entry, which stays
abbrev pub IsPreparedReweight : Collation → TableLayout → OrderLine → List Item → Type 0
IsPreparedReweight table layout line items =
    (node : NodeId) × (has_key same_id ids_in layout line.id node ≡ true)
    × (items ≡ record { node = node; old = None; new = None; weights = weights_to (length table.rules) line.id line.weights } ∷ [])
