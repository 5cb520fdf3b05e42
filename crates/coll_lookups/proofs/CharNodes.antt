-- Nodes by character and by identifier.
use Rattle.std.proofs.Common.{◌≡◌, ◌<◌, ◌≤◌, ◌+◌, ◌-◌, ◌*◌, ℕ, zero, suc, Bool, true, false, ◌||◌, cond, nat_eq, nat_lt, List, Option, Some, None, length, slice_index_or, slice_set, arith, sym, ap, ◌∙◌, refl}
use Rattle.std.proofs.lemmas.Bool.{true≢false, ltb-true, ltb-false}
use Rattle.std.proofs.lemmas.Bool.Decides.{Decides-eqb}
use Rattle.coll_order.specs.declared.places.NodeId.{NodeId}
use Rattle.coll_syntax.specs.Identifier.{same_id}
use Rattle.coll_syntax.specs.declared.identifiers.Id.{Id}
use Rattle.coll_lookups.proofs.CharPages.{itself, last_or_before, no_greater, past_pages, slot_read, slot_there, slot_written}
use Rattle.coll_lookups.proofs.Sameness.{same_id_decides}
use Rattle.coll_lookups.specs.CharNodes.{chars_at, chars_below, key_slot, slot_leads, slot_node, AddsCharKey, KeepCharKeys, SetsChar}
use Rattle.coll_lookups.specs.CharPages.{place_of, slot_of, ArePages, SameSlots}
use Rattle.coll_lookups.specs.NodeLookUps.{Leading, NodesById, node_of_char, is_char_key, node_with, SetsId, LeadAlike}
use Rattle.coll_lookups.specs.declared.char_nodes.CharSlot.{CharSlot}
use Rattle.coll_lookups.specs.declared.char_nodes.CharSlot.TheVariants.{Free, Kept, Led}

-- whether a slot is that of a key
abbrev slot_key : CharSlot → Bool
slot_key Free = false
slot_key Kept = true
slot_key (Led node) = true

-- What one slot more leads to.

here_node : (k : ℕ) (s : CharSlot) (later : List (Leading ℕ)) → node_of_char later k ≡ None → node_of_char (slot_leads k s later) k ≡ slot_node s
here_node k Free later none = none
here_node k Kept later none = ap (λ b. cond b None (node_of_char later k)) (itself k)
here_node k (Led node) later none = ap (λ b. cond b (Some node) (node_of_char later k)) (itself k)

other_node : (c k : ℕ) (s : CharSlot) (later : List (Leading ℕ)) → nat_eq c k ≡ false → node_of_char (slot_leads k s later) c ≡ node_of_char later c
other_node c k Free later e = refl
other_node c k Kept later e = ap (λ b. cond b None (node_of_char later c)) e
other_node c k (Led node) later e = ap (λ b. cond b (Some node) (node_of_char later c)) e

here_key : (k : ℕ) (s : CharSlot) (later : List (Leading ℕ)) → is_char_key later k ≡ false → is_char_key (slot_leads k s later) k ≡ slot_key s
here_key k Free later none = none
here_key k Kept later none = ap (λ b. b || is_char_key later k) (itself k)
here_key k (Led node) later none = ap (λ b. b || is_char_key later k) (itself k)

other_key : (c k : ℕ) (s : CharSlot) (later : List (Leading ℕ)) → nat_eq c k ≡ false → is_char_key (slot_leads k s later) c ≡ is_char_key later c
other_key c k Free later e = refl
other_key c k Kept later e = ap (λ b. b || is_char_key later c) e
other_key c k (Led node) later e = ap (λ b. b || is_char_key later c) e

module _ (slot : ℕ → CharSlot) where
  -- no greater code point is among those below a number
  past_node : (count c : ℕ) → count ≤ c → node_of_char (chars_below slot count) c ≡ None
  unfolding chars_below
  past_node zero c h = refl
  past_node (suc k) c h = other_node c k (slot k) (chars_below slot k) (no_greater c k h) ∙ past_node k c (omega arith)

  past_key : (count c : ℕ) → count ≤ c → is_char_key (chars_below slot count) c ≡ false
  unfolding chars_below
  past_key zero c h = refl
  past_key (suc k) c h = other_key c k (slot k) (chars_below slot k) (no_greater c k h) ∙ past_key k c (omega arith)

  below_node : (count c : ℕ) → c < count → node_of_char (chars_below slot count) c ≡ slot_node (slot c)
  unfolding chars_below
  below_node zero c h = absurd (omega arith)
  below_node (suc k) c h = by (λ before. below_node k c before) (past_node k k (omega arith)) (nat_eq c k) refl where
    by : (c < k → node_of_char (chars_below slot k) c ≡ slot_node (slot c)) → node_of_char (chars_below slot k) k ≡ None → (b : Bool) → nat_eq c k ≡ b
        → node_of_char (slot_leads k (slot k) (chars_below slot k)) c ≡ slot_node (slot c)
    by before past true t =
        let same : c ≡ k = (Decides-eqb c k).0 t in
        ap (node_of_char (slot_leads k (slot k) (chars_below slot k))) same ∙ (here_node k (slot k) (chars_below slot k) past ∙ ap (λ n. slot_node (slot n)) (sym same))
    by before past false t = other_node c k (slot k) (chars_below slot k) t ∙ before (last_or_before c k h t)

  below_key : (count c : ℕ) → c < count → is_char_key (chars_below slot count) c ≡ slot_key (slot c)
  unfolding chars_below
  below_key zero c h = absurd (omega arith)
  below_key (suc k) c h = by (λ before. below_key k c before) (past_key k k (omega arith)) (nat_eq c k) refl where
    by : (c < k → is_char_key (chars_below slot k) c ≡ slot_key (slot c)) → is_char_key (chars_below slot k) k ≡ false → (b : Bool) → nat_eq c k ≡ b
        → is_char_key (slot_leads k (slot k) (chars_below slot k)) c ≡ slot_key (slot c)
    by before past true t =
        let same : c ≡ k = (Decides-eqb c k).0 t in
        ap (is_char_key (slot_leads k (slot k) (chars_below slot k))) same ∙ (here_key k (slot k) (chars_below slot k) past ∙ ap (λ n. slot_key (slot n)) (sym same))
    by before past false t = other_key c k (slot k) (chars_below slot k) t ∙ before (last_or_before c k h t)

  -- free slots behind all others are no keys
  more_free : (more count : ℕ) → ((c : ℕ) → count ≤ c → slot c ≡ Free) → chars_below slot (more + count) ≡ chars_below slot count
  unfolding chars_below
  more_free zero count free = let none : 0 + count ≡ count = omega arith in ap (chars_below slot) none
  more_free (suc more) count free =
      let one : suc more + count ≡ suc (more + count) = omega arith in
      ap (chars_below slot) one
      ∙ (ap (λ s. slot_leads (more + count) s (chars_below slot (more + count))) (free (more + count) (omega arith)) ∙ more_free more count free)

module _ (pages : List ℕ) (slots : List CharSlot) where
  -- what a character leads to is what its slot says
  pub node_told : (c : ℕ) → node_of_char (chars_at pages slots) c ≡ slot_node (slot_of Free pages slots c)
  node_told c = by (nat_lt c (length pages * 128)) refl where
    by : (b : Bool) → nat_lt c (length pages * 128) ≡ b → node_of_char (chars_at pages slots) c ≡ slot_node (slot_of Free pages slots c)
    by true t = below_node (slot_of Free pages slots) (length pages * 128) c (ltb-true _ _ t)
    by false t = past_node (slot_of Free pages slots) (length pages * 128) c (ltb-false _ _ t) ∙ sym (ap slot_node (past_pages Free pages slots c (ltb-false _ _ t)))

  -- and so it is with keys
  pub key_told : (c : ℕ) → is_char_key (chars_at pages slots) c ≡ slot_key (slot_of Free pages slots c)
  key_told c = by (nat_lt c (length pages * 128)) refl where
    by : (b : Bool) → nat_lt c (length pages * 128) ≡ b → is_char_key (chars_at pages slots) c ≡ slot_key (slot_of Free pages slots c)
    by true t = below_key (slot_of Free pages slots) (length pages * 128) c (ltb-true _ _ t)
    by false t = past_key (slot_of Free pages slots) (length pages * 128) c (ltb-false _ _ t) ∙ sym (ap slot_key (past_pages Free pages slots c (ltb-false _ _ t)))

  -- a character leads to the node of the slot at its place
  pub node_at_place : (c place : ℕ) (slot : CharSlot) → ArePages pages (length slots) → place_of pages c ≡ Some place → slot ≡ slice_index_or slots place slot → slot_node slot
      ≡ node_of_char (chars_at pages slots) c
  node_at_place c place slot are at read =
      ap slot_node (slot_read Free pages slots are c place at slot read) ∙ sym (node_told c)

  -- and nowhere where it has no place
  pub nowhere : (c : ℕ) → None ≡ place_of pages c → None ≡ node_of_char (chars_at pages slots) c
  nowhere c none = ap (λ p. slot_node (slot_there Free slots p)) none ∙ sym (node_told c)

-- what a key's slot leads to
led_by_key : (led : Option NodeId) → slot_node (key_slot led) ≡ led
led_by_key None = refl
led_by_key (Some node) = refl

key_by_key : (led : Option NodeId) → slot_key (key_slot led) ≡ true
key_by_key None = refl
key_by_key (Some node) = refl

one_led : (b : Bool) (led : Option NodeId) (s : CharSlot) → slot_node (cond b (key_slot led) s) ≡ cond b led (slot_node s)
one_led true led s = led_by_key led
one_led false led s = refl

one_key : (b : Bool) (led : Option NodeId) (s : CharSlot) → slot_key (cond b (key_slot led) s) ≡ (b || slot_key s)
one_key true led s = key_by_key led
one_key false led s = refl

-- Slots that are the same, of which one is then written.

module _ (old : List ℕ) (old_slots : List CharSlot) (new : List ℕ) (slots : List CharSlot) (same : SameSlots Free old old_slots new slots) where
  -- the same slots are the same keys
  pub same_chars : length old ≤ length new → chars_at new slots ≡ chars_at old old_slots
  same_chars longer =
      let more : ℕ = (length new - length old) * 128 in
      let count : length new * 128 ≡ more + length old * 128 = omega (arith, longer) in
      (λ i. chars_below (λ c. same c i) (length new * 128))
      ∙ (ap (chars_below (slot_of Free old old_slots)) count ∙ more_free (slot_of Free old old_slots) more (length old * 128) (past_pages Free old old_slots))

  module _ (are : ArePages new (length slots)) (c place : ℕ) (at : place_of new c ≡ Some place) (node : Option NodeId) where
    written : (other : ℕ) → slot_of Free new (slice_set slots place (key_slot node)) other ≡ cond (nat_eq other c) (key_slot node) (slot_of Free old old_slots other)
    written other = slot_written Free new slots are c place at (key_slot node) other ∙ ap (cond (nat_eq other c) (key_slot node)) (same other)

    -- the key leads where it is to, and each other to where it led
    pub written_leads : SetsChar (chars_at old old_slots) (chars_at new (slice_set slots place (key_slot node))) c node
    written_leads other =
        node_told new (slice_set slots place (key_slot node)) other
        ∙ (ap slot_node (written other)
        ∙ (one_led (nat_eq other c) node (slot_of Free old old_slots other) ∙ ap (cond (nat_eq other c) node) (sym (node_told old old_slots other))))

    -- and is a key, beside those before
    pub written_keys : AddsCharKey (chars_at old old_slots) (chars_at new (slice_set slots place (key_slot node))) c
    written_keys other =
        key_told new (slice_set slots place (key_slot node)) other
        ∙ (ap slot_key (written other)
        ∙ (one_key (nat_eq other c) node (slot_of Free old old_slots other) ∙ ap (λ b. nat_eq other c || b) (sym (key_told old old_slots other))))

-- one that is a key is no key more
pub keeps_keys : (old new : List (Leading ℕ)) (c : ℕ) → is_char_key old c ≡ true → AddsCharKey old new c → KeepCharKeys old new
keeps_keys old new c there adds other = adds other ∙ by (nat_eq other c) refl where
  by : (b : Bool) → nat_eq other c ≡ b → (b || is_char_key old other) ≡ is_char_key old other
  by true t = sym (ap (is_char_key old) ((Decides-eqb other c).0 t) ∙ there)
  by false t = refl

-- a key has a place
pub key_has_place : (pages : List ℕ) (slots : List CharSlot) (c : ℕ) → is_char_key (chars_at pages slots) c ≡ true → None ≡ place_of pages c → ⊥
key_has_place pages slots c there none = true≢false (sym there ∙ (key_told pages slots c ∙ ap (λ p. slot_key (slot_there Free slots p)) (sym none)))

-- what is made to lead to where it led changes nothing
pub leads_alike : (old new : NodesById) (id : Id) (node : Option NodeId) → node ≡ node_with old id → SetsId old new id node → LeadAlike old new
leads_alike old new id node e sets other = sets other ∙ by (same_id other id) refl where
  by : (b : Bool) → same_id other id ≡ b → cond b node (node_with old other) ≡ node_with old other
  by true t = e ∙ sym (ap (node_with old) ((same_id_decides other id).0 t))
  by false t = refl
