-- The items of the record of a statement that is done: one for each of its lines, each as it was at its own moment.
use Rattle.std.specs.Prelude.{◌≡◌, ℕ, true, List, [], ◌∷◌, Option, Some, None}
use Rattle.coll_order.specs.Layout.{place_from}
use Rattle.coll_order.specs.declared.places.NodeId.{NodeId}
use Rattle.coll_order.specs.declared.places.Place.TheVariants.{After}
use Rattle.coll_syntax.specs.Identifier.{same_id, same_name}
use Rattle.coll_syntax.specs.declared.identifiers.Id.{Id}
use Rattle.coll_syntax.specs.declared.statements.OrderLine.{OrderLine}
use Rattle.coll_syntax.specs.declared.statements.Statement.{Statement}
use Rattle.coll_syntax.specs.declared.statements.Statement.TheVariants as statement
use Rattle.coll_syntax.specs.declared.weights.Weight.{Weight}
use Rattle.coll_nodes.specs.Linking.{end_of_declarations}
use Rattle.coll_nodes.specs.Moving.{relinked}
use Rattle.coll_nodes.specs.SoundBodies.{has_key, ids_in, section_names_in}
use Rattle.coll_nodes.specs.Table.{Collation}
use Rattle.coll_nodes.specs.TableLayout.{TableLayout, TableValue, collation, content_of}
use Rattle.coll_nodes.specs.declared.contents.Content.TheVariants.{Declared}
use Rattle.coll_nodes.specs.declared.declarations.Declaration.{Declaration}
use Rattle.coll_nodes.specs.declared.declarations.Declaration.TheVariants as declaration
use Rattle.coll_table.specs.Delta.{block_entry}
use Rattle.coll_table.specs.OwnStatements.{own_statement}
use Rattle.coll_table.specs.declared.records.Item.{Item}

-- a node stands in a ring, and is the entry of an identifier
abbrev pub IsEntryNode : TableLayout → Id → NodeId → Type 0
IsEntryNode layout id node = has_key same_id ids_in layout id node ≡ true

-- a node stands in a ring, and is the section of a name
abbrev pub IsSectionNode : TableLayout → (name : List ℕ) → NodeId → Type 0
IsSectionNode layout name node = has_key same_name section_names_in layout name node ≡ true

-- a line that gives no weights
abbrev pub without_weights : Id → OrderLine
without_weights id = record { id = id; weights = None }

-- the weights that a line takes the place of, if it gives any: those of the entry that stands, and of a new one its own
abbrev pub weights_before : Collation → Id → (given : Option (List Weight)) → Option (List Weight)
weights_before table id None = None
weights_before table id (Some given) = Some (block_entry table (without_weights id)).weights

-- the item of a line of a block: its node is the line's entry in the table after the block; it stood where the rings have it that
-- the lines before leave, if anywhere; it went directly behind the entry of the line before, or of the target; and the weights are
-- those that the line took the place of
pub record IsLineItem (table : Collation) (after : TableLayout) (rings : List (List NodeId)) (before : NodeId) (line : OrderLine)
    (item : Item) : Type 0 where
  pub node : IsEntryNode after line.id item.node
  pub stood : item.old ≡ place_from 0 rings item.node
  pub went : item.new ≡ Some (After before)
  pub weights : item.weights ≡ weights_before table line.id line.weights

-- the items of the lines of a block: one for each, in their order, and each line leaves the rings with its node behind the other
unfoldable pub AreLineItems : Collation → (after : TableLayout) → (rings : List (List NodeId)) → (before : NodeId) → List OrderLine
    → List Item → Type 0
AreLineItems table after rings before [] [] = Unit {0}
AreLineItems table after rings before [] (item ∷ items) = ⊥
AreLineItems table after rings before (line ∷ lines) [] = ⊥
AreLineItems table after rings before (line ∷ lines) (item ∷ items) =
    IsLineItem table after rings before line item
    × AreLineItems table after (relinked rings item.node (Some (After before))) item.node lines items

-- the one item of a declaration: its node, which is new, went behind all declarations
abbrev pub IsDeclarationItem : (old after : TableLayout) → Declaration → List Item → Type 0
IsDeclarationItem old after new items =
    (node : NodeId) × (content_of after node ≡ Some (Declared new))
    × (items ≡ record { node = node; old = None; new = Some (end_of_declarations old); weights = None } ∷ [])

-- the one item of a section that moved: its node stood where it did, and went directly behind the other's
abbrev pub IsSectionItem : (old : TableLayout) → (name after : List ℕ) → List Item → Type 0
IsSectionItem old name after items =
    (node : NodeId) × (other : NodeId) × IsSectionNode old name node × IsSectionNode old after other
    × (items ≡ record { node = node; old = place_from 0 old.rings node; new = Some (After other); weights = None } ∷ [])

-- the one item of an order line outside a block: its node stays, with the weights that the line took the place of
abbrev pub IsReweightItem : (old : TableValue) → OrderLine → List Item → Type 0
IsReweightItem old line items =
    (node : NodeId) × IsEntryNode old.layout line.id node
    × (items ≡ record { node = node; old = None; new = None; weights = weights_before (collation old) line.id line.weights } ∷ [])

-- the items of the record of a statement of own names, from the table before it and the layout after it
unfoldable pub AreOwnItems : (old : TableValue) → (after : TableLayout) → Statement → List Item → Type 0
AreOwnItems old after (statement.Symbol name) items = IsDeclarationItem old.layout after (declaration.Symbol name) items
AreOwnItems old after (statement.Element name text) items = IsDeclarationItem old.layout after (declaration.Element name text) items
AreOwnItems old after (statement.Equivalence name symbol) items =
    IsDeclarationItem old.layout after (declaration.Equivalence name symbol) items
AreOwnItems old after (statement.Block target lines) items =
    (node : NodeId) × IsEntryNode after target node × AreLineItems (collation old) after old.layout.rings node lines items
AreOwnItems old after (statement.SectionAfter name target) items = IsSectionItem old.layout name target items
AreOwnItems old after (statement.Reweight line) items = IsReweightItem old line items

-- the items of the record of a statement, from the table before it and the layout after it: those of what it states by own names
unfoldable pub AreItemsOf : (old : TableValue) → (after : TableLayout) → Statement → List Item → Type 0
AreItemsOf old after s items = AreOwnItems old after (own_statement (collation old) s) items
