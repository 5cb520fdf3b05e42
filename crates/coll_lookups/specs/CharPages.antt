-- Slots of characters, in pages: which slot a code point has.
--
-- No public clause cites this module: it is the view and the invariant of what finds by character.
use Rattle.std.specs.Prelude.{◌≡◌, ◌<◌, ◌≤◌, ℕ, zero, suc, ◌+◌, ◌-◌, ◌*◌, ◌/◌, ◌%◌, ◌==◌, if◌then◌else◌, List, Option, Some, None, slice_index_or}
use Rattle.std.specs.Option.{option_map_or}

-- the number of the page of a range of 128 code points, from 1; 0 where it has none
abbrev pub page_at : List ℕ → (range : ℕ) → ℕ
page_at pages range = slice_index_or pages range 0

-- the place of a slot in a page
abbrev pub place_in : (page low : ℕ) → Option ℕ
place_in page low = if page == 0 then None else Some ((page - 1) * 128 + low)

-- the place of the slot of a code point, if it has one
abbrev pub place_of : List ℕ → (c : ℕ) → Option ℕ
place_of pages c = place_in (page_at pages (c / 128)) (c % 128)

-- the slot of a code point; a free one where it has none
abbrev pub slot_of : {Slot : Type 0} → (free : Slot) → List ℕ → List Slot → (c : ℕ) → Slot
slot_of free pages slots c = option_map_or (λ place. slice_index_or slots place free) (place_of pages c) free

-- how many of so many ranges have a page
unfoldable pub pages_below : (ℕ → ℕ) → (count : ℕ) → ℕ
pages_below page zero = 0
pages_below page (suc range) = if page range == 0 then pages_below page range else suc (pages_below page range)

-- so many slots are the pages of all ranges of code points, these pages are among them, and no two ranges have the same one
pub record ArePages (pages : List ℕ) (size : ℕ) : Type 0 where
  pub whole : size ≡ 128 * pages_below (page_at pages) 8704
  pub within : (range : ℕ) → page_at pages range * 128 ≤ size
  pub apart : (one other : ℕ) → page_at pages one ≡ page_at pages other → 0 < page_at pages one → one ≡ other

-- each code point has the slot that it had
abbrev pub SameSlots : {Slot : Type 0} → (free : Slot) → (old : List ℕ) → List Slot → (new : List ℕ) → List Slot → Type 0
SameSlots free old old_slots new new_slots = (c : ℕ) → slot_of free new new_slots c ≡ slot_of free old old_slots c
