-- Nodes in look-ups by hash: what is found, what one more does, and what a write to a key does.
use Rattle.std.proofs.Common.{◌≡◌, Bool, true, false, ◌||◌, cond, is_some, List, [], ◌∷◌, Option, Some, None, Decides, sym, ap, ◌∙◌, refl}
use Rattle.std.specs.Map.{lookup, set_value}
use Rattle.std.proofs.lemmas.Bool.{false≢true}
use Rattle.coll_order.specs.declared.places.NodeId.{NodeId}
use Rattle.coll_lookups.proofs.Sameness.{decided_symmetric}
use Rattle.coll_lookups.specs.NodeLookUps.{node_at, is_key}
use Rattle.coll_lookups.specs.NodeMaps.{leads, with_entry, AreKeys}

-- a node that is found, if one is
abbrev pub found : Option (Option NodeId) → Option NodeId
found None = None
found (Some node) = node

module _ {K Key : Type 0} (same : Key → Key → Bool) (decides : (a b : Key) → Decides (same a b) (a ≡ b)) (key : K → Key) (good : K → Type 0) where
  module _ (test : K → Bool) (wanted : Key) (tests : (k : K) → good k → test k ≡ same wanted (key k)) where
    -- a node is found by a test where it is found by its key
    pub found_node : (es : List (K × Option NodeId)) → AreKeys good es → node_at same (leads key es) wanted ≡ found (lookup test es)
    found_node [] h = refl
    found_node (e ∷ es) h = by (found_node es h.1) (test e.0) refl where
      by : node_at same (leads key es) wanted ≡ found (lookup test es) → (b : Bool) → test e.0 ≡ b → cond (same wanted (key e.0)) e.1 (node_at same (leads key es) wanted)
          ≡ found (cond b (Some e.1) (lookup test es))
      by later true t = ap (λ b. cond b e.1 (node_at same (leads key es) wanted)) (sym (tests e.0 h.0) ∙ t)
      by later false t = ap (λ b. cond b e.1 (node_at same (leads key es) wanted)) (sym (tests e.0 h.0) ∙ t) ∙ later

    -- and so is a key
    pub found_key : (es : List (K × Option NodeId)) → AreKeys good es → is_key same (leads key es) wanted ≡ is_some (lookup test es)
    found_key [] h = refl
    found_key (e ∷ es) h = by (found_key es h.1) (test e.0) refl where
      by : is_key same (leads key es) wanted ≡ is_some (lookup test es) → (b : Bool) → test e.0 ≡ b → (same wanted (key e.0) || is_key same (leads key es) wanted)
          ≡ is_some (cond b (Some e.1) (lookup test es))
      by later true t = ap (λ b. b || is_key same (leads key es) wanted) (sym (tests e.0 h.0) ∙ t)
      by later false t = ap (λ b. b || is_key same (leads key es) wanted) (sym (tests e.0 h.0) ∙ t) ∙ later

  -- the first of a list leads elsewhere
  here : (first wanted : Key) → first ≡ wanted → (other : Key) (v w : Option NodeId) (later : Option NodeId)
      → cond (same other first) v later ≡ cond (same other wanted) v (cond (same other first) w later)
  here first wanted e other v w later = ap (λ k. cond (same other k) v later) e ∙ (by (same other wanted) ∙ sym (ap (λ k. cond (same other wanted) v (cond (same other k) w later)) e)) where
    by : (b : Bool) → cond b v later ≡ cond b v (cond b w later)
    by true = refl
    by false = refl

  -- the first of a list stays, and the later ones lead elsewhere
  behind : (first wanted : Key) → same wanted first ≡ false → (other : Key) (v w later changed : Option NodeId) → changed ≡ cond (same other wanted) v later
      → cond (same other first) w changed ≡ cond (same other wanted) v (cond (same other first) w later)
  behind first wanted apart other v w later changed e = by (same other first) refl where
    by : (b : Bool) → same other first ≡ b → cond b w changed ≡ cond (same other wanted) v (cond b w later)
    by true t =
        let first_is : other ≡ first = (decides other first).0 t in
        let not_wanted : same other wanted ≡ false = ap (λ k. same k wanted) first_is ∙ (decided_symmetric same decides first wanted ∙ apart) in
        sym (ap (λ b. cond b v w) not_wanted)
    by false t = e

  -- the first is a key as before
  key_here : (first wanted : Key) → first ≡ wanted → (other : Key) (later : Bool) → (same other first || later) ≡ (same other wanted || (same other first || later))
  key_here first wanted e other later = by (same other first) (same other wanted) (ap (same other) e) where
    by : (a b : Bool) → a ≡ b → (a || later) ≡ (b || (a || later))
    by true true t = refl
    by true false t = absurd (false≢true (sym t))
    by false true t = absurd (false≢true t)
    by false false t = refl

  key_behind : (a b later changed : Bool) → changed ≡ (b || later) → (a || changed) ≡ (b || (a || later))
  key_behind true true later changed e = refl
  key_behind true false later changed e = refl
  key_behind false b later changed e = e

  module _ (eq : K → K → Bool) (agrees : (a b : K) → good a → good b → eq a b ≡ same (key a) (key b)) where
    -- a key put in leads where it is to, and each other to where it led
    pub inserted_leads : (es : List (K × Option NodeId)) (k : K) (v : Option NodeId) → AreKeys good es → good k → (other : Key) → node_at same (leads key (with_entry eq es k v)) other
        ≡ cond (same other (key k)) v (node_at same (leads key es) other)
    inserted_leads [] k v h g other = refl
    inserted_leads (e ∷ es) k v h g other = by (inserted_leads es k v h.1 g other) (eq k e.0) refl where
      by : node_at same (leads key (with_entry eq es k v)) other ≡ cond (same other (key k)) v (node_at same (leads key es) other) → (b : Bool) → eq k e.0 ≡ b
          → node_at same (leads key (cond b ((e.0, v) ∷ es) (e ∷ with_entry eq es k v))) other ≡ cond (same other (key k)) v (cond (same other (key e.0)) e.1 (node_at same (leads key es) other))
      by later true t = here (key e.0) (key k) (sym ((decides (key k) (key e.0)).0 (sym (agrees k e.0 g h.0) ∙ t))) other v e.1 _
      by later false t = behind (key e.0) (key k) (sym (agrees k e.0 g h.0) ∙ t) other v e.1 _ _ later

    -- and is a key, beside those before
    pub inserted_keys : (es : List (K × Option NodeId)) (k : K) (v : Option NodeId) → AreKeys good es → good k → (other : Key) → is_key same (leads key (with_entry eq es k v)) other
        ≡ (same other (key k) || is_key same (leads key es) other)
    inserted_keys [] k v h g other = refl
    inserted_keys (e ∷ es) k v h g other = by (inserted_keys es k v h.1 g other) (eq k e.0) refl where
      by : is_key same (leads key (with_entry eq es k v)) other ≡ (same other (key k) || is_key same (leads key es) other) → (b : Bool) → eq k e.0 ≡ b
          → is_key same (leads key (cond b ((e.0, v) ∷ es) (e ∷ with_entry eq es k v))) other ≡ (same other (key k) || (same other (key e.0) || is_key same (leads key es) other))
      by later true t = key_here (key e.0) (key k) (sym ((decides (key k) (key e.0)).0 (sym (agrees k e.0 g h.0) ∙ t))) other _
      by later false t = key_behind (same other (key e.0)) (same other (key k)) _ _ later

    -- and all keys are good
    pub inserted_good : (es : List (K × Option NodeId)) (k : K) (v : Option NodeId) → AreKeys good es → good k → AreKeys good (with_entry eq es k v)
    inserted_good [] k v h g = (g, tt)
    inserted_good (e ∷ es) k v h g = by (inserted_good es k v h.1 g) (eq k e.0) where
      by : AreKeys good (with_entry eq es k v) → (b : Bool) → AreKeys good (cond b ((e.0, v) ∷ es) (e ∷ with_entry eq es k v))
      by later true = h
      by later false = (h.0, later)

  module _ (test : K → Bool) (wanted : Key) (tests : (k : K) → good k → test k ≡ same wanted (key k)) where
    -- a key that is there is made to lead elsewhere
    pub set_leads : (es : List (K × Option NodeId)) (v : Option NodeId) → AreKeys good es → is_key same (leads key es) wanted ≡ true → (other : Key)
        → node_at same (leads key (set_value test es v)) other ≡ cond (same other wanted) v (node_at same (leads key es) other)
    set_leads [] v h there other = absurd (false≢true there)
    set_leads (e ∷ es) v h there other = by (λ later. set_leads es v h.1 later other) (test e.0) refl where
      by : (is_key same (leads key es) wanted ≡ true → node_at same (leads key (set_value test es v)) other ≡ cond (same other wanted) v (node_at same (leads key es) other)) → (b : Bool) → test e.0
          ≡ b → node_at same (leads key (cond b ((e.0, v) ∷ es) (e ∷ set_value test es v))) other ≡ cond (same other wanted) v (cond (same other (key e.0)) e.1 (node_at same (leads key es) other))
      by set true t = here (key e.0) wanted (sym ((decides wanted (key e.0)).0 (sym (tests e.0 h.0) ∙ t))) other v e.1 _
      by set false t =
          let apart : same wanted (key e.0) ≡ false = sym (tests e.0 h.0) ∙ t in
          let later : is_key same (leads key es) wanted ≡ true = ap (λ b. b || is_key same (leads key es) wanted) (sym apart) ∙ there in
          behind (key e.0) wanted apart other v e.1 _ _ (set later)

  -- a write to a value leaves the keys
  pub set_keys : (test : K → Bool) (es : List (K × Option NodeId)) (v : Option NodeId) (other : Key) → is_key same (leads key (set_value test es v)) other ≡ is_key same (leads key es) other
  set_keys test [] v other = refl
  set_keys test (e ∷ es) v other = by (set_keys test es v other) (test e.0) where
    by : is_key same (leads key (set_value test es v)) other ≡ is_key same (leads key es) other → (b : Bool) → is_key same (leads key (cond b ((e.0, v) ∷ es) (e ∷ set_value test es v))) other
        ≡ (same other (key e.0) || is_key same (leads key es) other)
    by later true = refl
    by later false = ap (λ b. same other (key e.0) || b) later

  pub set_good : (test : K → Bool) (es : List (K × Option NodeId)) (v : Option NodeId) → AreKeys good es → AreKeys good (set_value test es v)
  set_good test [] v h = tt
  set_good test (e ∷ es) v h = by (set_good test es v h.1) (test e.0) where
    by : AreKeys good (set_value test es v) → (b : Bool) → AreKeys good (cond b ((e.0, v) ∷ es) (e ∷ set_value test es v))
    by later true = h
    by later false = (h.0, later)
