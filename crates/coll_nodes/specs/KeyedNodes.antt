-- Nodes by their keys: what a node is found by, and what becomes of the look-ups.
use Rattle.std.specs.Prelude.{◌≡◌, ℕ, Bool, true, ◌&&◌, not, cond, is_some, List, [], Option, None, Some}
use Rattle.std.specs.List.{list_any}
use Rattle.coll_order.specs.declared.places.NodeId.{NodeId}
use Rattle.coll_syntax.specs.Identifier.{same_name, same_id}
use Rattle.coll_syntax.specs.declared.identifiers.Id.{Id}
use Rattle.coll_lookups.specs.NodeLookUps.{node_named, node_with, is_name_key, is_id_key, no_nodes, LeadNamesAlike, LeadAlike}
use Rattle.coll_nodes.specs.SoundBodies.{Finds, names_in, texts_in, section_names_in, ids_in}
use Rattle.coll_nodes.specs.Table.{named}
use Rattle.coll_nodes.specs.TableLayout.{TableLayout}
use Rattle.coll_nodes.specs.declared.contents.Content.{Content}
use Rattle.coll_nodes.specs.declared.contents.Content.TheVariants as content
use Rattle.coll_nodes.specs.declared.declarations.Declaration.TheVariants as declaration
use Rattle.coll_nodes.specs.declared.node_keys.NodeKeys.{NodeKeys}

-- no key leads to a node
abbrev pub no_keys : NodeKeys
no_keys = record { names = []; texts = []; sections = []; placed = no_nodes }

-- the look-ups find the nodes that stand in a ring, each by its keys, and nothing else
pub record FindsAll (layout : TableLayout) (keys : NodeKeys) : Type 0 where
  pub names : Finds same_name names_in layout (node_named keys.names)
  pub texts : Finds same_name texts_in layout (node_named keys.texts)
  pub sections : Finds same_name section_names_in layout (node_named keys.sections)
  pub ids : Finds same_id ids_in layout (node_with keys.placed)

-- what a node is found by are keys
pub record HasKeysOf (keys : NodeKeys) (node : Content) : Type 0 where
  pub names : (key : List ℕ) → list_any (same_name key) (names_in node) ≡ true → is_name_key keys.names key ≡ true
  pub texts : (key : List ℕ) → list_any (same_name key) (texts_in node) ≡ true → is_name_key keys.texts key ≡ true
  pub sections : (key : List ℕ) → list_any (same_name key) (section_names_in node) ≡ true → is_name_key keys.sections key ≡ true
  pub ids : (key : Id) → list_any (same_id key) (ids_in node) ≡ true → is_id_key keys.placed key ≡ true

-- the name of a section is a key, if it has one
abbrev pub HasKeyOfSection : NodeKeys → Option (List ℕ) → Type 0
HasKeyOfSection keys name = (key : List ℕ) → list_any (same_name key) (named name) ≡ true → is_name_key keys.sections key ≡ true

-- each key stays
pub record KeepsKeys (old new : NodeKeys) : Type 0 where
  pub names : (key : List ℕ) → is_name_key old.names key ≡ true → is_name_key new.names key ≡ true
  pub texts : (key : List ℕ) → is_name_key old.texts key ≡ true → is_name_key new.texts key ≡ true
  pub sections : (key : List ℕ) → is_name_key old.sections key ≡ true → is_name_key new.sections key ≡ true
  pub ids : (key : Id) → is_id_key old.placed key ≡ true → is_id_key new.placed key ≡ true

-- each key leads to where it led
pub record LeadsAlike (old new : NodeKeys) : Type 0 where
  pub names : LeadNamesAlike old.names new.names
  pub texts : LeadNamesAlike old.texts new.texts
  pub sections : LeadNamesAlike old.sections new.sections
  pub ids : LeadAlike old.placed new.placed

-- nothing that a node is found by leads to a node
abbrev pub leads_nowhere : NodeKeys → Content → Bool
leads_nowhere keys (content.Declared (declaration.Symbol name)) = not (is_some (node_named keys.names name))
leads_nowhere keys (content.Declared (declaration.Element name text)) =
    not (is_some (node_named keys.names name)) && not (is_some (node_named keys.texts text))
leads_nowhere keys (content.Declared (declaration.Equivalence name symbol)) = not (is_some (node_named keys.names name))
leads_nowhere keys (content.Begun None ring) = true
leads_nowhere keys (content.Begun (Some name) ring) = not (is_some (node_named keys.sections name))
leads_nowhere keys (content.Placed entry) = not (is_some (node_with keys.placed entry.id))

-- what a node is found by leads to this now, and each other key to where it led
pub record SetsKeys (old new : NodeKeys) (it : Content) (node : Option NodeId) : Type 0 where
  pub names : (key : List ℕ) → node_named new.names key ≡ cond (list_any (same_name key) (names_in it)) node (node_named old.names key)
  pub texts : (key : List ℕ) → node_named new.texts key ≡ cond (list_any (same_name key) (texts_in it)) node (node_named old.texts key)
  pub sections : (key : List ℕ) → node_named new.sections key
      ≡ cond (list_any (same_name key) (section_names_in it)) node (node_named old.sections key)
  pub ids : (key : Id) → node_with new.placed key ≡ cond (list_any (same_id key) (ids_in it)) node (node_with old.placed key)

-- the name of a section leads to this now, if it has one, and each other key to where it led
pub record SetsSection (old new : NodeKeys) (name : Option (List ℕ)) (node : Option NodeId) : Type 0 where
  pub section : (key : List ℕ) → node_named new.sections key
      ≡ cond (list_any (same_name key) (named name)) node (node_named old.sections key)
  pub others : new ≡ record old { sections = new.sections }
