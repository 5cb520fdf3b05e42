-- Keys and the nodes beside them, read as one list of pairs: what is found there, and what a write and one more pair do.
use Rattle.std.proofs.Common.{◌≡◌, ◌+◌, ◌<◌, ℕ, suc, Bool, true, false, ◌||◌, cond, not, is_some, nat_lt, List, [], ◌∷◌, ◌++◌, Option, None}
use Rattle.std.proofs.Common.{Some, length, zip, position, slice_index_or, slice_set, lt-ltb, true≢false, arith, sym, ap, ◌∙◌, refl}
use Rattle.std.specs.List.{list_any, position_or_len}
use Rattle.std.proofs.lemmas.List.{get_or_default}
use Rattle.std.proofs.lemmas.Grind.{common_steps}
use Rattle.std.specs.Map.{lookup, set_value}
use Rattle.coll_order.specs.declared.places.NodeId.{NodeId}
use Rattle.coll_lookups.proofs.NodeLookUps.{found}
use Rattle.coll_lookups.specs.NodeMaps.{node_put, with_entry, with_key}

-- one more is the next one
onward : (n : ℕ) → 1 + n ≡ suc n
onward n = omega arith

module _ {K : Type 0} (test : K → Bool) where
  -- what is found is the node at the place of the first key that passes
  pub paired_found : (ks : List K) (vs : List (Option NodeId)) → length ks ≡ length vs → found (lookup test (zip ks vs)) ≡ slice_index_or vs (position_or_len test ks) None
  paired_found [] [] e = refl
  paired_found [] (v ∷ vs) e = absurd (omega arith)
  paired_found (k ∷ ks) [] e = absurd (omega arith)
  paired_found (k ∷ ks) (v ∷ vs) e = by (test k) (paired_found ks vs (omega arith)) where
    by : (b : Bool) → found (lookup test (zip ks vs)) ≡ slice_index_or vs (position_or_len test ks) None → found (cond b (Some v) (lookup test (zip ks vs)))
        ≡ slice_index_or (v ∷ vs) (cond (not b) (1 + position_or_len test ks) 0) None
    by true later = refl
    by false later = later ∙ sym (ap (λ n. slice_index_or (v ∷ vs) n None) (onward (position_or_len test ks)))

  -- and one is found where a key passes
  pub paired_key : (ks : List K) (vs : List (Option NodeId)) → length ks ≡ length vs → is_some (lookup test (zip ks vs)) ≡ list_any test ks
  paired_key [] vs e = refl
  paired_key (k ∷ ks) [] e = absurd (omega arith)
  paired_key (k ∷ ks) (v ∷ vs) e = by (test k) (paired_key ks vs (omega arith)) where
    by : (b : Bool) → is_some (lookup test (zip ks vs)) ≡ list_any test ks → is_some (cond b (Some v) (lookup test (zip ks vs))) ≡ (b || list_any test ks)
    by true later = refl
    by false later = later

  -- a write at that place is one to the first key that passes
  pub paired_set : (ks : List K) (vs : List (Option NodeId)) (v : Option NodeId) → length ks ≡ length vs → zip ks (slice_set vs (position_or_len test ks) v) ≡ set_value test (zip ks vs) v
  paired_set [] vs v e = refl
  paired_set (k ∷ ks) [] v e = absurd (omega arith)
  paired_set (k ∷ ks) (w ∷ ws) v e = by (test k) (paired_set ks ws v (omega arith)) where
    by : (b : Bool) → zip ks (slice_set ws (position_or_len test ks) v) ≡ set_value test (zip ks ws) v → zip (k ∷ ks) (slice_set (w ∷ ws) (cond (not b) (1 + position_or_len test ks) 0) v)
        ≡ cond b ((k, v) ∷ zip ks ws) ((k, w) ∷ set_value test (zip ks ws) v)
    by true later = refl
    by false later = ap (λ n. zip (k ∷ ks) (slice_set (w ∷ ws) n v)) (onward (position_or_len test ks)) ∙ ap (λ es. (k, w) ∷ es) later

  -- the first key that passes stands at its place
  at_place : (ks : List K) (place : ℕ) → position test ks ≡ Some place → (position_or_len test ks ≡ place) × (place < length ks)
  at_place ks place at =
      let first : position_or_len test ks ≡ place = grind (arith, common_steps) in
      let within : place < length ks = grind (arith, common_steps) in
      (first, within)

  -- the node there is what is found
  pub paired_node : (ks : List K) (vs : List (Option NodeId)) (place : ℕ) (node : Option NodeId) → length ks ≡ length vs → position test ks ≡ Some place → node ≡ slice_index_or vs place node
      → node ≡ found (lookup test (zip ks vs))
  paired_node ks vs place node e at is =
      let first : position_or_len test ks ≡ place = (at_place ks place at).0 in
      let within : place < length ks = (at_place ks place at).1 in
      is ∙ (get_or_default vs place node None (omega arith) ∙ (ap (λ n. slice_index_or vs n None) (sym first) ∙ sym (paired_found ks vs e)))

  none_found : (led : Option (Option NodeId)) → is_some led ≡ false → None ≡ found led
  none_found None e = refl
  none_found (Some led) e = absurd (true≢false e)

  -- none is found where no key passes
  pub paired_none : (ks : List K) (vs : List (Option NodeId)) → length ks ≡ length vs → list_any test ks ≡ false → None ≡ found (lookup test (zip ks vs))
  paired_none ks vs e none = none_found (lookup test (zip ks vs)) (paired_key ks vs e ∙ none)

  -- a write there is one to the first key that passes
  pub paired_set_at : (ks : List K) (vs : List (Option NodeId)) (place : ℕ) (v : Option NodeId) → length ks ≡ length vs → position test ks ≡ Some place
      → zip ks (slice_set vs place v) ≡ set_value test (zip ks vs) v
  paired_set_at ks vs place v e at = ap (λ n. zip ks (slice_set vs n v)) (sym (at_place ks place at).0) ∙ paired_set ks vs v e

module _ {K : Type 0} (eq : K → K → Bool) (k : K) (v : Option NodeId) where
  -- the first of a list stays where a key goes behind
  key_behind : (b : Bool) (x : K) (ks : List K) → cond b (x ∷ ks) (x ∷ (ks ++ k ∷ [])) ≡ x ∷ cond b ks (ks ++ k ∷ [])
  key_behind true x ks = refl
  key_behind false x ks = refl

  -- a node is put at the first place
  node_first : (w : Option NodeId) (ws : List (Option NodeId)) → node_put (w ∷ ws) 0 v ≡ v ∷ ws
  node_first w ws = ap (λ b. cond b (v ∷ ws) (w ∷ (ws ++ v ∷ []))) (lt-ltb 0 (suc (length ws)) (omega arith))

  -- the first node stays where one is put further on
  node_behind : (w : Option NodeId) (ws : List (Option NodeId)) (place : ℕ) → node_put (w ∷ ws) (1 + place) v ≡ w ∷ node_put ws place v
  node_behind w ws place =
      let test : nat_lt (1 + place) (suc (length ws)) ≡ nat_lt place (length ws) = grind arith in
      ap (λ b. cond b (slice_set (w ∷ ws) (1 + place) v) (w ∷ (ws ++ v ∷ []))) test
      ∙ (ap (λ n. cond (nat_lt place (length ws)) (slice_set (w ∷ ws) n v) (w ∷ (ws ++ v ∷ []))) (onward place) ∙ by (nat_lt place (length ws)))
    where
      by : (b : Bool) → cond b (w ∷ slice_set ws place v) (w ∷ (ws ++ v ∷ [])) ≡ w ∷ cond b (slice_set ws place v) (ws ++ v ∷ [])
      by true = refl
      by false = refl

  -- a key put in with its node beside it is a pair put in
  pub paired_put : (ks : List K) (vs : List (Option NodeId)) → length ks ≡ length vs → zip (with_key eq ks k) (node_put vs (position_or_len (eq k) ks) v) ≡ with_entry eq (zip ks vs) k v
  paired_put [] [] e = refl
  paired_put [] (w ∷ ws) e = absurd (omega arith)
  paired_put (x ∷ ks) [] e = absurd (omega arith)
  paired_put (x ∷ ks) (w ∷ ws) e = by (eq k x) (paired_put ks ws (omega arith)) where
    by : (b : Bool) → zip (with_key eq ks k) (node_put ws (position_or_len (eq k) ks) v) ≡ with_entry eq (zip ks ws) k v → zip (cond (b || list_any (eq k) ks) (x ∷ ks) (x ∷ (ks ++ k ∷ [])))
        (node_put (w ∷ ws) (cond (not b) (1 + position_or_len (eq k) ks) 0) v) ≡ cond b ((x, v) ∷ zip ks ws) ((x, w) ∷ with_entry eq (zip ks ws) k v)
    by true later = ap (zip (x ∷ ks)) (node_first w ws)
    by false later =
        (λ i. zip (key_behind (list_any (eq k) ks) x ks i) (node_behind w ws (position_or_len (eq k) ks) i)) ∙ ap (λ es. (x, w) ∷ es) later

  -- so it is of keys and nodes that are known to be these
  pub paired_put_as : (ks more : List K) (vs grown put : List (Option NodeId)) (place : ℕ) → length ks ≡ length vs → more ≡ with_key eq ks k → grown ≡ vs → place ≡ position_or_len (eq k) ks
      → put ≡ node_put grown place v → zip more put ≡ with_entry eq (zip ks vs) k v
  paired_put_as ks more vs grown put place e keys room at written =
      (λ i. zip (keys i) (written i)) ∙ ((λ i. zip (with_key eq ks k) (node_put (room i) (at i) v)) ∙ paired_put ks vs e)

  -- and each key has its node still
  pub paired_length : (ks : List K) (vs : List (Option NodeId)) → length ks ≡ length vs → length (with_key eq ks k) ≡ length (node_put vs (position_or_len (eq k) ks) v)
  paired_length [] [] e = refl
  paired_length [] (w ∷ ws) e = absurd (omega arith)
  paired_length (x ∷ ks) [] e = absurd (omega arith)
  paired_length (x ∷ ks) (w ∷ ws) e = by (eq k x) (paired_length ks ws (omega arith)) where
    by : (b : Bool) → length (with_key eq ks k) ≡ length (node_put ws (position_or_len (eq k) ks) v) → length (cond (b || list_any (eq k) ks) (x ∷ ks) (x ∷ (ks ++ k ∷ [])))
        ≡ length (node_put (w ∷ ws) (cond (not b) (1 + position_or_len (eq k) ks) 0) v)
    by true later = e ∙ sym (ap length (node_first w ws))
    by false later = ap length (key_behind (list_any (eq k) ks) x ks) ∙ (ap suc later ∙ sym (ap length (node_behind w ws (position_or_len (eq k) ks))))
