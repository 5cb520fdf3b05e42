-- Names in a list, and a map that tells the place of each: where one is found, and what one more does.
use Rattle.std.proofs.Common.{◌≡◌, ◌+◌, ◌<◌, ℕ, suc, Bool, true, false, ◌||◌, cond, not, is_some, nat_lt, List, [], ◌∷◌, ◌++◌, Option, None, Some, length, position, lt-ltb, true≢false}
use Rattle.std.proofs.Common.{arith, sym, ap, subst, ◌∙◌, refl}
use Rattle.std.specs.List.{list_any, position_or_len}
use Rattle.std.proofs.lemmas.List.Quantifiers.{position-Some}
use Rattle.std.specs.Option.{option_map, unwrap_or}
use Rattle.std.specs.Prelude.{chars, encode_utf8_all}
use Rattle.std.specs.Str.{bytes_eq}
use Rattle.std.specs.HashMap.{HashMap, get, get_by}
use Rattle.std.specs.Cmp.Lexicographic.{nat_list_eq_equiv}
use Rattle.coll_order.proofs.Sameness.{by_test}
use Rattle.coll_lookups.specs.NameKeys.{bytes_of, same_bytes}
use Rattle.coll_lookups.specs.NodeMaps.{HasPlacesOf}
use Rattle.coll_lookups.specs.declared.name_keys.NameKey.{NameKey}

-- a name is found by its bytes at the place that the map tells
pub found_place : {S : Type 0} (bytes : List ℕ) → encode_utf8_all (chars bytes) ≡ bytes → (keys : List NameKey) (places : HashMap NameKey ℕ S) → HasPlacesOf keys places
    → get_by (λ key. bytes_eq bytes (bytes_of key)) places ≡ position (λ key. bytes_eq bytes (bytes_of key)) keys
found_place bytes spelled keys places h =
    subst (λ (b : List ℕ). get_by (λ key. bytes_eq b (bytes_of key)) places ≡ position (λ key. bytes_eq b (bytes_of key)) keys) spelled (h (record { name = chars bytes }))

-- a place, unless it lies behind all
abbrev within : ℕ → ℕ → Option ℕ
within place long = cond (nat_lt place long) (Some place) None

-- one more is the next one
onward : (n : ℕ) → 1 + n ≡ suc n
onward n = omega arith

within_onward : (place long : ℕ) → within (1 + place) (suc long) ≡ option_map suc (within place long)
within_onward place long =
    let test : nat_lt (1 + place) (suc long) ≡ nat_lt place long = grind arith in
    ap (λ b. cond b (Some (1 + place)) None) test ∙ by (nat_lt place long)
  where
    by : (b : Bool) → cond b (Some (1 + place)) None ≡ option_map suc (cond b (Some place) None)
    by true = ap Some (onward place)
    by false = refl

module _ {K : Type 0} (test : K → Bool) where
  -- the place of the first that passes, of a list with one more before it
  position_before : (k : K) (ks : List K) → position test (k ∷ ks) ≡ cond (test k) (Some 0) (option_map suc (position test ks))
  position_before k ks = by (test k) where
    by : (b : Bool) → within (cond (not b) (1 + position_or_len test ks) 0) (suc (length ks)) ≡ cond b (Some 0) (option_map suc (position test ks))
    by true = ap (λ b. cond b (Some 0) None) (lt-ltb 0 (suc (length ks)) (omega arith))
    by false = within_onward (position_or_len test ks) (length ks)

  -- a place is found where one passes
  pub position_found : (ks : List K) → is_some (position test ks) ≡ list_any test ks
  position_found [] = refl
  position_found (k ∷ ks) = ap is_some (position_before k ks) ∙ by (test k) (position_found ks) where
    next : (place : Option ℕ) → is_some (option_map suc place) ≡ is_some place
    next None = refl
    next (Some place) = refl

    by : (b : Bool) → is_some (position test ks) ≡ list_any test ks → is_some (cond b (Some 0) (option_map suc (position test ks))) ≡ (b || list_any test ks)
    by true later = refl
    by false later = next (position test ks) ∙ later

  -- where the place that is told, or else the one behind all, is that behind all, none passes
  pub none_passes : (ks : List K) (d : K) → unwrap_or (position test ks) (length ks) ≡ length ks → list_any test ks ≡ false
  none_passes ks d behind = by (position test ks) refl where
    by : (place : Option ℕ) → position test ks ≡ place → list_any test ks ≡ false
    by None is = sym (position_found ks) ∙ ap is_some is
    by (Some place) is =
        let within : place < length ks = (position-Some test ks place d is).0 in
        let there : place ≡ length ks = sym (ap (λ o. unwrap_or o (length ks)) is) ∙ behind in
        absurd (omega (arith, within, there))

  -- and where it is another one, one passes
  pub one_passes : (ks : List K) → (unwrap_or (position test ks) (length ks) ≡ length ks → ⊥) → list_any test ks ≡ true
  one_passes ks before = by (position test ks) refl where
    by : (place : Option ℕ) → position test ks ≡ place → list_any test ks ≡ true
    by None is = absurd (before (ap (λ o. unwrap_or o (length ks)) is))
    by (Some place) is = sym (position_found ks) ∙ ap is_some is

  -- the place behind all is told where none passes
  pub place_behind : (ks : List K) → list_any test ks ≡ false → position_or_len test ks ≡ length ks
  place_behind [] none = refl
  place_behind (k ∷ ks) none = by (test k) none (place_behind ks) where
    by : (b : Bool) → (b || list_any test ks) ≡ false → (list_any test ks ≡ false → position_or_len test ks ≡ length ks) → cond (not b) (1 + position_or_len test ks) 0 ≡ suc (length ks)
    by true e later = absurd (true≢false e)
    by false e later = onward (position_or_len test ks) ∙ ap suc (later e)

  -- where none passes, one more that does is found behind all
  pub position_last : (ks : List K) (k : K) → list_any test ks ≡ false → test k ≡ true → position test (ks ++ k ∷ []) ≡ Some (length ks)
  position_last [] k none here = position_before k [] ∙ ap (λ b. cond b (Some 0) None) here
  position_last (first ∷ ks) k none here = position_before first (ks ++ k ∷ []) ∙ by (test first) none (λ later. position_last ks k later here) where
    by : (b : Bool) → (b || list_any test ks) ≡ false → (list_any test ks ≡ false → position test (ks ++ k ∷ []) ≡ Some (length ks))
        → cond b (Some 0) (option_map suc (position test (ks ++ k ∷ []))) ≡ Some (suc (length ks))
    by true e later = absurd (true≢false e)
    by false e later = ap (option_map suc) (later e)

  -- and where one more doesn't pass, all are found where they were
  pub position_still : (ks : List K) (k : K) → test k ≡ false → position test (ks ++ k ∷ []) ≡ position test ks
  position_still [] k off = position_before k [] ∙ ap (λ b. cond b (Some 0) None) off
  position_still (first ∷ ks) k off =
      position_before first (ks ++ k ∷ []) ∙ (ap (λ place. cond (test first) (Some 0) (option_map suc place)) (position_still ks k off) ∙ sym (position_before first ks))

-- two keys with the same bytes are found alike
alike : (key other : NameKey) → same_bytes other key ≡ true → (keys : List NameKey) → list_any (same_bytes other) keys ≡ list_any (same_bytes key) keys
alike key other same [] = refl
alike key other same (first ∷ keys) =
    ap (λ b. b || list_any (same_bytes other) keys) (nat_list_eq_equiv.congr (bytes_of other) (bytes_of key) (bytes_of first) same)
    ∙ ap (λ b. same_bytes key first || b) (alike key other same keys)

-- a map that gets the place behind all for a name that isn't there tells the places of the names with that one
pub places_with : {S : Type 0} (keys : List NameKey) (key copy : NameKey) (old new : HashMap NameKey ℕ S) → list_any (same_bytes key) keys ≡ false → copy.name ≡ key.name
    → ((other : NameKey) → get same_bytes new other ≡ cond (same_bytes copy other) (Some (length keys)) (get same_bytes old other)) → HasPlacesOf keys old → HasPlacesOf (keys ++ key ∷ []) new
places_with keys key copy old new none copied put h other =
    put other ∙ (ap (λ b. cond b (Some (length keys)) (get same_bytes old other)) (ap (λ name. bytes_eq (encode_utf8_all name) (bytes_of other)) copied ∙ nat_list_eq_equiv.symm (bytes_of key) (bytes_of other))
    ∙ by_test (λ b. same_bytes other key ≡ b → cond b (Some (length keys)) (get same_bytes old other) ≡ position (same_bytes other) (keys ++ key ∷ [])) (same_bytes other key)
    (λ on t. sym (position_last (same_bytes other) keys key (alike key other t keys ∙ none) t))
    (λ off t. h other ∙ sym (position_still (same_bytes other) keys key t)) refl)

-- the place that a map tells of a copy of a name, or else that behind all
pub told_place : {S : Type 0} (keys : List NameKey) (key copy : NameKey) (places : HashMap NameKey ℕ S) (last place : ℕ) → copy.name ≡ key.name → last ≡ length keys
    → place ≡ unwrap_or (get same_bytes places copy) last → HasPlacesOf keys places → place ≡ unwrap_or (position (same_bytes key) keys) (length keys)
told_place keys key copy places last place copied behind told h =
    told ∙ (ap (λ (name : List ℕ). unwrap_or (get same_bytes places (record { name = name })) last) copied
    ∙ (ap (λ found. unwrap_or found last) (h key) ∙ ap (unwrap_or (position (same_bytes key) keys)) behind))
