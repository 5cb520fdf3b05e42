-- Nodes by name: a name is found by its bytes.
use Rattle.std.proofs.Common.{◌≡◌, ◌≤◌, ◌<◌, ℕ, Bool, true, false, cond, is_some, nat_lt, lt-ltb, List, [], ◌∷◌, Option, None, Some, sym, ap, ap₂, ◌∙◌, refl, length, position, slice_index_or, arith}
use Rattle.std.proofs.lemmas.List.Sums.{position_or_len_is}
use Rattle.std.proofs.lemmas.Map.Keys.{apart_from_distinct}
use Rattle.std.specs.Cmp.Lexicographic.{nat_list_eq_equiv}
use Rattle.std.specs.List.{position_or_len, IsDistinct}
use Rattle.std.specs.Prelude.{chars, encode_utf8_all}
use Rattle.std.specs.Str.{bytes_eq}
use Rattle.std.specs.Map.{lookup, set_value}
use Rattle.coll_order.proofs.Sameness.{by_test}
use Rattle.coll_order.specs.declared.places.NodeId.{NodeId}
use Rattle.coll_syntax.proofs.Spellings.{same_spelling}
use Rattle.coll_syntax.specs.Identifier.{same_name}
use Rattle.coll_lookups.proofs.Sameness.{same_name_decides}
use Rattle.coll_lookups.proofs.NodeLookUps.{found, found_node, found_key, inserted_leads, inserted_keys, inserted_good, set_leads, set_keys, set_good}
use Rattle.coll_lookups.specs.NameKeys.{bytes_of, name_of_key, same_bytes, IsReadBack, IsWithin}
use Rattle.coll_lookups.specs.NodeLookUps.{node_named, is_name_key, SetsName, AddsNameKey, KeepNameKeys}
use Rattle.coll_lookups.specs.NodeMaps.{names_lead, with_entry, AreKeys}
use Rattle.coll_lookups.specs.declared.name_keys.NameKey.{NameKey}

-- two keys have the same bytes where they have the same characters
texts_agree : (a b : NameKey) → IsReadBack a → IsReadBack b → bytes_eq (bytes_of a) (bytes_of b) ≡ same_name a.name b.name
texts_agree a b p q = sym (same_spelling (bytes_of a) (bytes_of b) (ap encode_utf8_all p) (ap encode_utf8_all q)) ∙ ap₂ (λ n m. same_name n m) p q

module _ (name bytes : List ℕ) (spelled : encode_utf8_all name ≡ bytes) (read : chars bytes ≡ name) where
  -- a key has these bytes where its characters are this name
  tests_name : (key : NameKey) → IsReadBack key → bytes_eq bytes (bytes_of key) ≡ same_name name key.name
  tests_name key g = sym (same_spelling bytes (bytes_of key) (ap encode_utf8_all read ∙ spelled) (ap encode_utf8_all g)) ∙ ap₂ (λ n m. same_name n m) read g

  pub found_name_node : (es : List (NameKey × Option NodeId)) → AreKeys IsReadBack es → node_named (names_lead es) name ≡ found (lookup (λ key. bytes_eq bytes (bytes_of key)) es)
  found_name_node es h = found_node same_name same_name_decides name_of_key IsReadBack (λ key. bytes_eq bytes (bytes_of key)) name tests_name es h

  pub found_name_key : (es : List (NameKey × Option NodeId)) → AreKeys IsReadBack es → is_name_key (names_lead es) name ≡ is_some (lookup (λ key. bytes_eq bytes (bytes_of key)) es)
  found_name_key es h = found_key same_name same_name_decides name_of_key IsReadBack (λ key. bytes_eq bytes (bytes_of key)) name tests_name es h

  pub set_name_leads : (es : List (NameKey × Option NodeId)) (node : Option NodeId) → AreKeys IsReadBack es → is_name_key (names_lead es) name ≡ true
      → SetsName (names_lead es) (names_lead (set_value (λ key. bytes_eq bytes (bytes_of key)) es node)) name node
  set_name_leads es node h there = set_leads same_name same_name_decides name_of_key IsReadBack (λ key. bytes_eq bytes (bytes_of key)) name tests_name es node h there

-- a key that has these bytes stands at the first place at which one has them, since no two keys have the same
pub guessed_place : (bytes : List ℕ) (ks : List NameKey) (place : ℕ) (key : NameKey) → IsDistinct same_bytes ks → place < length ks → key ≡ slice_index_or ks place key → bytes_eq bytes (bytes_of key) ≡ true
    → Some place ≡ position (λ other. bytes_eq bytes (bytes_of other)) ks
guessed_place bytes ks place key distinct within is same =
    let before : (k : ℕ) → k < place → bytes_eq bytes (bytes_of (slice_index_or ks k key)) ≡ false = λ k less.
    nat_list_eq_equiv.congr bytes (bytes_of key) (bytes_of (slice_index_or ks k key)) same
    ∙ (nat_list_eq_equiv.symm (bytes_of key) (bytes_of (slice_index_or ks k key))
    ∙ (ap (λ it. same_bytes (slice_index_or ks k key) it) is ∙ apart_from_distinct same_bytes ks k place key distinct less within)) in
    let first : position_or_len (λ other. bytes_eq bytes (bytes_of other)) ks ≡ place = position_or_len_is (λ other. bytes_eq bytes (bytes_of other)) ks place key (omega (arith, within)) before
    (λ _. ap (λ it. bytes_eq bytes (bytes_of it)) (sym is) ∙ same) in
    sym (ap (λ n. cond (nat_lt n (length ks)) (Some n) None) first ∙ ap (λ b. cond b (Some place) None) (lt-ltb place (length ks) within))

abbrev name_inserted : List (NameKey × Option NodeId) → NameKey → Option NodeId → List (NameKey × Option NodeId)
name_inserted es key node = with_entry same_bytes es key node

pub inserted_name_leads : (es : List (NameKey × Option NodeId)) (key : NameKey) (node : Option NodeId) → AreKeys IsReadBack es → IsReadBack key
    → SetsName (names_lead es) (names_lead (name_inserted es key node)) key.name node
inserted_name_leads es key node h g = inserted_leads same_name same_name_decides name_of_key IsReadBack _ texts_agree es key node h g

pub inserted_name_keys : (es : List (NameKey × Option NodeId)) (key : NameKey) (node : Option NodeId) → AreKeys IsReadBack es → IsReadBack key
    → AddsNameKey (names_lead es) (names_lead (name_inserted es key node)) key.name
inserted_name_keys es key node h g = inserted_keys same_name same_name_decides name_of_key IsReadBack _ texts_agree es key node h g

pub inserted_name_good : (es : List (NameKey × Option NodeId)) (key : NameKey) (node : Option NodeId) → AreKeys IsReadBack es → IsReadBack key → AreKeys IsReadBack (name_inserted es key node)
inserted_name_good es key node h g = inserted_good same_name same_name_decides name_of_key IsReadBack _ texts_agree es key node h g

pub set_name_keys : (test : NameKey → Bool) (es : List (NameKey × Option NodeId)) (node : Option NodeId) → KeepNameKeys (names_lead es) (names_lead (set_value test es node))
set_name_keys test es node = set_keys same_name same_name_decides name_of_key IsReadBack test es node

pub set_name_good : (test : NameKey → Bool) (es : List (NameKey × Option NodeId)) (node : Option NodeId) → AreKeys IsReadBack es → AreKeys IsReadBack (set_value test es node)
set_name_good test es node h = set_good same_name same_name_decides name_of_key IsReadBack test es node h

-- Keys that are no longer than this.

-- they are no longer than more
within_more : (most more : ℕ) (es : List (NameKey × Option NodeId)) → most ≤ more → AreKeys (IsWithin most) es → AreKeys (IsWithin more) es
within_more most more [] wide h = tt
within_more most more (e ∷ es) wide h = (omega (arith, h.0, wide), within_more most more es wide h.1)

-- and neither is one more that is put in
pub inserted_name_within : (most more : ℕ) (es : List (NameKey × Option NodeId)) (key : NameKey) (v : Option NodeId) → most ≤ more → AreKeys (IsWithin most) es → IsWithin more key
    → AreKeys (IsWithin more) (name_inserted es key v)
inserted_name_within most more [] key v wide h g = (g, tt)
inserted_name_within most more (e ∷ es) key v wide h g = by (within_more most more (e ∷ es) wide h) (inserted_name_within most more es key v wide h.1 g) (same_bytes key e.0) where
  by : AreKeys (IsWithin more) (e ∷ es) → AreKeys (IsWithin more) (name_inserted es key v) → (b : Bool) → AreKeys (IsWithin more) (cond b ((e.0, v) ∷ es) (e ∷ name_inserted es key v))
  by all later true = all
  by all later false = (all.0, later)

-- and none of them where one is made to lead elsewhere
pub set_name_within : (test : NameKey → Bool) (most : ℕ) (es : List (NameKey × Option NodeId)) (node : Option NodeId) → AreKeys (IsWithin most) es → AreKeys (IsWithin most) (set_value test es node)
set_name_within test most es node h = set_good same_name same_name_decides name_of_key (IsWithin most) test es node h

-- a name that is longer than all keys leads to no node
pub longer_leads_nowhere : (most : ℕ) (es : List (NameKey × Option NodeId)) (name : List ℕ) → AreKeys (IsWithin most) es → most < length name → node_named (names_lead es) name ≡ None
longer_leads_nowhere most [] name h long = refl
longer_leads_nowhere most (e ∷ es) name h long =
    by_test (λ b. same_name name e.0.name ≡ b → cond b e.1 (node_named (names_lead es) name) ≡ None) (same_name name e.0.name)
    (λ on t. let same = ap length ((same_name_decides name e.0.name).0 t) in absurd (omega (arith, same, h.0, long)))
    (λ off t. longer_leads_nowhere most es name h.1 long) refl
