-- Nodes by their tags, where the content of one tag changes, or one node is dropped with its content.
use Rattle.std.proofs.Common.{◌≡◌, ◌≢◌, ℕ, ◌++◌, Bool, true, false, ◌&&◌, ◌||◌, not, cond, eqb, T, IsSome, List, [], ◌∷◌, Option, Some, None, sym, ap, subst, ◌∙◌, refl}
use Rattle.std.specs.Ordering.{nat_cmp, is_lt}
use Rattle.std.specs.Cmp.{nat_cmp_total, unsigned_tied}
use Rattle.std.specs.FinMap as finmap
use Rattle.std.specs.FinMap.{nat_cmp-IsAntisymmetric}
use Rattle.std.proofs.lemmas.Bool.Decides.{Decides-eqb}
use Rattle.std.proofs.lemmas.List.{map-append}
use Rattle.std.proofs.lemmas.List.Elements.{filter-append}
use Rattle.coll_order.specs.Changes.{without_node}
use Rattle.coll_order.specs.Layout.{Layout, tag_of}
use Rattle.coll_order.specs.Lists.{same_node, has_node}
use Rattle.coll_order.specs.declared.places.NodeId.{NodeId}
use Rattle.coll_order.proofs.LayoutLemmas.{tag_without_node}
use Rattle.coll_order.proofs.Sameness.{by_test, not_both}
use Rattle.coll_syntax.specs.declared.weights.Weight.{Weight}
use Rattle.coll_nodes.specs.Bodies.{slot_of, made_with, made_from, layout_with, AreMade}
use Rattle.coll_nodes.specs.Linking.{nodes_without}
use Rattle.coll_nodes.specs.TableLayout.{MadeNode}
use Rattle.coll_nodes.specs.Moving.{weighed, weighed_nodes}
use Rattle.coll_nodes.specs.declared.contents.Content.{Content}
use Rattle.coll_nodes.proofs.AlikeLayouts.{reweighed}
use Rattle.coll_nodes.proofs.NodeLemmas.{both, together, some_not_none, found_first, found_later, later_sorted}

-- a key is below those of entries
abbrev below : ℕ → List (ℕ × ℕ) → Bool
below key [] = true
below key (e ∷ es) = is_lt (nat_cmp key e.0) && below key es

module _ (node : NodeId) where
  -- the entries of all other keys
  rest_of : List (ℕ × ℕ) → List (ℕ × ℕ)
  rest_of [] = []
  rest_of (e ∷ es) = cond (not (eqb e.0 node.key)) (e ∷ rest_of es) (rest_of es)

  -- they are in order behind a first one
  rest_behind : (e : ℕ × ℕ) (es : List (ℕ × ℕ)) → T (finmap.is_sorted nat_cmp (e ∷ es)) → T (finmap.is_sorted nat_cmp (e ∷ rest_of es))
  unfolding rest_of
  rest_behind e [] sorted = sorted
  rest_behind e (x ∷ es) sorted =
      let parts = both (below e.0 (x ∷ es)) (finmap.is_sorted nat_cmp (x ∷ es)) sorted in
      let first = both (is_lt (nat_cmp e.0 x.0)) (below e.0 es) parts.0 in
      let after = both (below x.0 es) (finmap.is_sorted nat_cmp es) parts.1 in
      let later = rest_behind e es (together (below e.0 es) (finmap.is_sorted nat_cmp es) first.1 after.1) in
      by_test (λ b. T (finmap.is_sorted nat_cmp (e ∷ cond (not b) (x ∷ rest_of es) (rest_of es)))) (eqb x.0 node.key)
      (λ on. later)
      (λ off. together (below e.0 (x ∷ rest_of es)) (finmap.is_sorted nat_cmp (x ∷ rest_of es))
      (together (is_lt (nat_cmp e.0 x.0)) (below e.0 (rest_of es)) first.0 (both (below e.0 (rest_of es)) (finmap.is_sorted nat_cmp (rest_of es)) later).0) (rest_behind x es parts.1))

  -- they are in order
  rest_sorted : (es : List (ℕ × ℕ)) → T (finmap.is_sorted nat_cmp es) → T (finmap.is_sorted nat_cmp (rest_of es))
  unfolding rest_of
  rest_sorted [] sorted = tt
  rest_sorted (e ∷ es) sorted = by_test (λ b. T (finmap.is_sorted nat_cmp (cond (not b) (e ∷ rest_of es) (rest_of es)))) (eqb e.0 node.key)
      (λ on. rest_sorted es (later_sorted e es sorted)) (λ off. rest_behind e es sorted)

  none_either : (b : Bool) → finmap.find {X = ℕ} nat_cmp 0 [] ≡ cond b None (finmap.find {X = ℕ} nat_cmp 0 [])
  none_either true = refl
  none_either false = refl

  -- each other key is found among them
  rest_found : (key : ℕ) (es : List (ℕ × ℕ)) → finmap.find nat_cmp key (rest_of es) ≡ cond (eqb key node.key) None (finmap.find nat_cmp key es)
  unfolding rest_of
  rest_found key [] = none_either (eqb key node.key)
  rest_found key (e ∷ es) =
      let later = rest_found key es in
      let found = finmap.find nat_cmp key es in
      by_test (λ b. finmap.find nat_cmp key (cond (not b) (e ∷ rest_of es) (rest_of es)) ≡ cond (eqb key node.key) None (finmap.find nat_cmp key (e ∷ es))) (eqb e.0 node.key)
      (λ on. later ∙ by_test (λ b. cond b None found ≡ cond b None (finmap.find nat_cmp key (e ∷ es))) (eqb key node.key)
      (λ is. refl)
      (λ differs.
      let apart : eqb key e.0 ≡ false = ap (eqb key) ((Decides-eqb e.0 node.key).0 on) ∙ differs in
      sym (ap (λ b. cond b (Some e.1) found) (unsigned_tied key e.0 ∙ apart))))
      (λ off. ap (λ b. cond b (Some e.1) (finmap.find nat_cmp key (rest_of es))) (unsigned_tied key e.0)
      ∙ (by_test (λ b. cond b (Some e.1) (finmap.find nat_cmp key (rest_of es)) ≡ cond (eqb key node.key) None (cond b (Some e.1) found)) (eqb key e.0)
      (λ is.
      let apart : eqb key node.key ≡ false = ap (λ k. eqb k node.key) ((Decides-eqb key e.0).0 is) ∙ off in
      sym (ap (λ b. cond b None (Some e.1)) apart))
      (λ differs. later)
      ∙ sym (ap (λ b. cond (eqb key node.key) None (cond b (Some e.1) found)) (unsigned_tied key e.0))))

  -- the node itself is dropped
  gone : (key : ℕ) (slot : Option Content) → eqb key node.key ≡ true → nodes_without (node ∷ []) (made_with key slot) ≡ []
  gone key None is = refl
  gone key (Some content) is = ap (λ b. cond (not (b || false)) (record { node = record { key = key }; content = content } ∷ []) []) is

  -- the others stay
  stays : (key : ℕ) (slot : Option Content) → eqb key node.key ≡ false → nodes_without (node ∷ []) (made_with key slot) ≡ made_with key slot
  stays key None off = refl
  stays key (Some content) off = ap (λ b. cond (not (b || false)) (record { node = record { key = key }; content = content } ∷ []) []) off

  -- the nodes of all other keys are the nodes without one
  dropped_from : (old new : List (Option Content)) (es : List (ℕ × ℕ)) → T (finmap.is_sorted nat_cmp es)
      → ((key tag : ℕ) → finmap.find nat_cmp key es ≡ Some tag → eqb key node.key ≡ false → slot_of new tag ≡ slot_of old tag)
      → made_from new (rest_of es) ≡ nodes_without (node ∷ []) (made_from old es)
  unfolding rest_of
  dropped_from old new [] sorted others = refl
  dropped_from old new (e ∷ es) sorted others =
      let kept = rest_of es in
      let later = dropped_from old new es (later_sorted e es sorted) (λ key tag at. others key tag (found_later e es sorted key tag at)) in
      let here = made_with e.0 (slot_of old e.1) in
      by_test (λ b. eqb e.0 node.key ≡ b → made_from new (cond (not b) (e ∷ kept) kept) ≡ nodes_without (node ∷ []) here ++ nodes_without (node ∷ []) (made_from old es)) (eqb e.0 node.key)
      (λ on t. later ∙ sym (ap (λ xs. xs ++ nodes_without (node ∷ []) (made_from old es)) (gone e.0 (slot_of old e.1) t)))
      (λ off t. ap (λ slot. made_with e.0 slot ++ made_from new kept) (others e.0 e.1 (found_first e es) t)
      ∙ (ap (λ xs. here ++ xs) later ∙ sym (ap (λ xs. xs ++ nodes_without (node ∷ []) (made_from old es)) (stays e.0 (slot_of old e.1) t)))) refl
      ∙ sym (filter-append (λ (made : MadeNode). not (has_node (node ∷ []) made.node)) here (made_from old es))

  -- a node has other weights where its content has
  weighed_with : (weights : Option (List Weight)) (key : ℕ) (old new : Option Content) → (eqb node.key key ≡ true → new ≡ reweighed weights old) → (eqb node.key key ≡ false → new ≡ old)
      → made_with key new ≡ weighed_nodes node weights (made_with key old)
  weighed_with weights key old new mine other = by_test (λ b. eqb node.key key ≡ b → made_with key new ≡ weighed_nodes node weights (made_with key old)) (eqb node.key key)
      (λ on t. ap (made_with key) (mine t) ∙ here old t)
      (λ off t. ap (made_with key) (other t) ∙ there old t) refl where
        here : (old : Option Content) → eqb node.key key ≡ true → made_with key (reweighed weights old) ≡ weighed_nodes node weights (made_with key old)
        here None t = refl
        here (Some content) t =
            let made : MadeNode = record { node = record { key = key }; content = content } in
            sym (ap (λ b. cond b (record made { content = weighed weights content }) made ∷ []) t)

        there : (old : Option Content) → eqb node.key key ≡ false → made_with key old ≡ weighed_nodes node weights (made_with key old)
        there None t = refl
        there (Some content) t =
            let made : MadeNode = record { node = record { key = key }; content = content } in
            sym (ap (λ b. cond b (record made { content = weighed weights content }) made ∷ []) t)

  -- so have the nodes of all keys
  weighed_from : (weights : Option (List Weight)) (old new : List (Option Content)) (es : List (ℕ × ℕ)) → T (finmap.is_sorted nat_cmp es)
      → ((key tag : ℕ) → finmap.find nat_cmp key es ≡ Some tag → eqb node.key key ≡ true → slot_of new tag ≡ reweighed weights (slot_of old tag))
      → ((key tag : ℕ) → finmap.find nat_cmp key es ≡ Some tag → eqb node.key key ≡ false → slot_of new tag ≡ slot_of old tag)
      → made_from new es ≡ weighed_nodes node weights (made_from old es)
  weighed_from weights old new [] sorted mine others = refl
  weighed_from weights old new (e ∷ es) sorted mine others =
      let later = weighed_from weights old new es (later_sorted e es sorted) (λ key tag at. mine key tag (found_later e es sorted key tag at))
      (λ key tag at. others key tag (found_later e es sorted key tag at)) in
      let first = found_first e es in
      ap (λ xs. xs ++ made_from new es) (weighed_with weights e.0 (slot_of old e.1) (slot_of new e.1) (mine e.0 e.1 first) (others e.0 e.1 first))
      ∙ (ap (λ xs. weighed_nodes node weights (made_with e.0 (slot_of old e.1)) ++ xs) later
      ∙ sym (map-append (λ (made : MadeNode). cond (same_node node made.node) (record made { content = weighed weights made.content }) made) (made_with e.0 (slot_of old e.1)) (made_from old es)))

module _ (layout : Layout) (old : List (Option Content)) (node : NodeId) (tag : ℕ) (made : AreMade layout.tags old) (at : tag_of layout node ≡ Some tag) where
  -- another node has another tag
  other_tag : (key other : ℕ) → finmap.get layout.tags key ≡ Some other → (key ≡ node.key → ⊥) → other ≢ tag
  other_tag key other is differ same = differ (made.once key node.key other is (at ∙ ap Some (sym same)))

  -- its own is this
  own_tag : (key other : ℕ) → finmap.get layout.tags key ≡ Some other → node.key ≡ key → other ≡ tag
  own_tag key other is same =
      let both : Some other ≡ Some tag = sym is ∙ (ap (finmap.get layout.tags) (sym same) ∙ at) in
      cc

  -- numbers that differ
  differs : (a b : ℕ) → eqb a b ≡ false → a ≡ b → ⊥
  differs a b off same = not_both ((Decides-eqb a b).1 same) off

  module _ (new : List (Option Content)) (others : (other : ℕ) → other ≢ tag → slot_of new other ≡ slot_of old other) where
    -- a layout in which the content of a tag has other weights
    pub layout_weighed : (weights : Option (List Weight)) → slot_of new tag ≡ reweighed weights (slot_of old tag)
        → layout_with layout new ≡ record (layout_with layout old) { nodes = weighed_nodes node weights (layout_with layout old).nodes }
    layout_weighed weights changed = ap (λ nodes. record { rings = layout.rings; nodes = nodes })
        (weighed_from node weights old new (finmap.entries layout.tags) (finmap.entries_sorted layout.tags)
        (λ key other is t.
        let same : other ≡ tag = own_tag key other (finmap.get-entries layout.tags key ∙ is) ((Decides-eqb node.key key).0 t) in
        ap (slot_of new) same ∙ (changed ∙ sym (ap (λ k. reweighed weights (slot_of old k)) same)))
        (λ key other is t. others other (other_tag key other (finmap.get-entries layout.tags key ∙ is) (λ same. differs node.key key t (sym same)))))

    -- the tags without that of a node
    rest_entries : finmap.entries (without_node layout node).tags ≡ rest_of node (finmap.entries layout.tags)
    rest_entries =
        let es = rest_of node (finmap.entries layout.tags) in
        let sorted = rest_sorted node (finmap.entries layout.tags) (finmap.entries_sorted layout.tags) in
        let same : (without_node layout node).tags ≡ finmap.from_sorted es = finmap.same_map nat_cmp_total nat_cmp-IsAntisymmetric _ _ (λ key.
        tag_without_node layout node (record { key = key })
        ∙ (ap (λ found. cond (eqb key node.key) None found) (finmap.get-entries layout.tags key)
        ∙ (sym (rest_found node key (finmap.entries layout.tags)) ∙ sym (finmap.get-from_sorted nat_cmp es key sorted)))) in
        ap finmap.entries same ∙ finmap.entries-from_sorted nat_cmp es sorted

    -- a layout without a node and its content
    pub layout_dropped : layout_with (without_node layout node) new ≡ record (layout_with layout old) { nodes = nodes_without (node ∷ []) (layout_with layout old).nodes }
    layout_dropped = ap (λ nodes. record { rings = layout.rings; nodes = nodes })
        (ap (made_from new) rest_entries
        ∙ dropped_from node old new (finmap.entries layout.tags) (finmap.entries_sorted layout.tags)
        (λ key other is t. others other (other_tag key other (finmap.get-entries layout.tags key ∙ is) (differs key node.key t))))

    -- each other tag has its content still
    pub made_less : slot_of new tag ≡ None → AreMade (without_node layout node).tags new
    made_less dropped = record {
      lead = λ key other is.
          let was = had key other is in
          subst (λ (found : Option Content). IsSome found) (sym (others other (other_tag key other was.1 was.0))) (made.lead key other was.1);
      once = λ a b other p q. made.once a b other (had a other p).1 (had b other q).1;
      owned = λ other there.
          let differ : other ≢ tag = λ same. some_not_none (slot_of new other) there (ap (slot_of new) same ∙ dropped) in
          let own = made.owned other (subst (λ (found : Option Content). IsSome found) (others other differ) there) in
          let apart : eqb own.0 node.key ≡ false = by_test (λ b. eqb own.0 node.key ≡ b → b ≡ false) (eqb own.0 node.key)
          (λ on t. absurd (differ (own_tag own.0 other own.1 (sym ((Decides-eqb own.0 node.key).0 t))))) (λ off t. refl) refl in
          (own.0, tag_without_node layout node (record { key = own.0 }) ∙ (ap (λ b. cond b None (finmap.get layout.tags own.0)) apart ∙ own.1));
    } where
      had : (key other : ℕ) → finmap.get (without_node layout node).tags key ≡ Some other → (key ≡ node.key → ⊥) × (finmap.get layout.tags key ≡ Some other)
      had key other is = by_test (λ b. eqb key node.key ≡ b → cond b None (finmap.get layout.tags key) ≡ Some other → (key ≡ node.key → ⊥) × (finmap.get layout.tags key ≡ Some other))
          (eqb key node.key)
          (λ on t e. cc) (λ off t e. (differs key node.key t, e)) refl (sym (tag_without_node layout node (record { key = key })) ∙ is)
