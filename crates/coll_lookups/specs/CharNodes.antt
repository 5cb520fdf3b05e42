-- Nodes by character, read from the slots of the characters.
--
-- No public clause cites this module: it is the view of a look-up, and what its calls say of it.
use Rattle.std.specs.Prelude.{◌≡◌, ℕ, zero, suc, ◌*◌, ◌||◌, nat_eq, cond, List, [], ◌∷◌, Option, Some, None, length}
use Rattle.coll_order.specs.declared.places.NodeId.{NodeId}
use Rattle.coll_lookups.specs.CharPages.{slot_of}
use Rattle.coll_lookups.specs.NodeLookUps.{Leading, node_of_char, is_char_key}
use Rattle.coll_lookups.specs.declared.char_nodes.CharSlot.{CharSlot}
use Rattle.coll_lookups.specs.declared.char_nodes.CharSlot.TheVariants.{Free, Kept, Led}

-- a key and where it leads, before others, if a slot says that it is one
abbrev pub slot_leads : ℕ → CharSlot → List (Leading ℕ) → List (Leading ℕ)
slot_leads c Free later = later
slot_leads c Kept later = record { key = c; node = None } ∷ later
slot_leads c (Led node) later = record { key = c; node = Some node } ∷ later

-- the keys among so many code points, the last of them first, and where they lead
unfoldable pub chars_below : (ℕ → CharSlot) → (count : ℕ) → List (Leading ℕ)
chars_below slot zero = []
chars_below slot (suc c) = slot_leads c (slot c) (chars_below slot c)

-- the keys of pages, and where they lead
abbrev pub chars_at : List ℕ → List CharSlot → List (Leading ℕ)
chars_at pages slots = chars_below (slot_of Free pages slots) (length pages * 128)

-- the node that a slot leads to
abbrev pub slot_node : CharSlot → Option NodeId
slot_node Free = None
slot_node Kept = None
slot_node (Led node) = Some node

-- the slot of a key that leads to a node, or to none
abbrev pub key_slot : Option NodeId → CharSlot
key_slot None = Kept
key_slot (Some node) = Led node

-- a character leads to this node now, and all others to where they led
abbrev pub SetsChar : (old new : List (Leading ℕ)) → ℕ → Option NodeId → Type 0
SetsChar old new c node = (other : ℕ) → node_of_char new other ≡ cond (nat_eq other c) node (node_of_char old other)

-- a character is a key now, and all others are keys where they were
abbrev pub AddsCharKey : (old new : List (Leading ℕ)) → ℕ → Type 0
AddsCharKey old new c = (other : ℕ) → is_char_key new other ≡ (nat_eq other c || is_char_key old other)

-- the same characters are keys
abbrev pub KeepCharKeys : (old new : List (Leading ℕ)) → Type 0
KeepCharKeys old new = (other : ℕ) → is_char_key new other ≡ is_char_key old other
