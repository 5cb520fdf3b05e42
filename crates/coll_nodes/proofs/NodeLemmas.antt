-- Nodes and their contents: what a node is by its tag, and what a node more does.
use Rattle.std.proofs.Common.{◌≡◌, ◌≢◌, ℕ, Bool, true, false, ◌&&◌, cond, eqb, T, IsSome, is_some, List, [], ◌∷◌, ◌++◌, Option, Some, None, length, sym, ap, subst, ◌∙◌, refl, arith}
use Rattle.std.specs.Option.{option_and_then}
use Rattle.std.specs.Ordering.{nat_cmp, is_lt, is_eq}
use Rattle.std.specs.declared.cmp.Ordering.{Ordering}
use Rattle.std.specs.declared.cmp.Ordering.TheVariants.{Less, Equal, Greater}
use Rattle.std.specs.Cmp.{unsigned_tied}
use Rattle.std.specs.FinMap as finmap
use Rattle.std.proofs.lemmas.Bool.Decides.{Decides-eqb}
use Rattle.coll_order.specs.Changes.{with_node}
use Rattle.coll_order.specs.Layout.{Layout, tag_of, IsLoose}
use Rattle.coll_order.specs.Lists.{same_node}
use Rattle.coll_order.specs.Sound.{IsSound}
use Rattle.coll_order.specs.declared.places.NodeId.{NodeId}
use Rattle.coll_order.proofs.LayoutLemmas.{tag_with_node}
use Rattle.coll_order.proofs.Sameness.{by_test, not_both, same_node_itself}
use Rattle.coll_nodes.specs.Bodies.{slot_of, made_with, made_from, layout_with, AreMade, IsLooseNode, IsLaidOut, Makes}
use Rattle.coll_nodes.specs.TableLayout.{content_of, content_among}
use Rattle.coll_nodes.specs.declared.contents.Content.{Content}

-- each of two tests that are true together is true
pub both : (a b : Bool) → T (a && b) → T a × T b
both true b h = (tt, h)
both false b h = absurd h

-- tests that hold each hold together
pub together : (a b : Bool) → T a → T b → T (a && b)
together true b p q = q
together false b p q = absurd p

-- an order that is less isn't equal
less_differs : (o : Ordering) → T (is_lt o) → is_eq o ≡ false
less_differs Less h = refl
less_differs Equal h = absurd h
less_differs Greater h = absurd h

-- the key of a first entry isn't one of the later
pub later_without : (e : ℕ × ℕ) (es : List (ℕ × ℕ)) → T (finmap.is_sorted nat_cmp (e ∷ es)) → finmap.find nat_cmp e.0 es ≡ None
later_without e [] sorted = refl
later_without e (x ∷ es) sorted =
    let parts = both _ _ sorted in
    let below = both _ _ parts.0 in
    let after = both _ _ parts.1 in
    ap (λ b. cond b (Some x.1) (finmap.find nat_cmp e.0 es)) (less_differs (nat_cmp e.0 x.0) below.0) ∙ later_without e es (together _ _ below.1 after.1)

-- what has a content isn't without one
pub some_not_none : {X : Type 0} (x : Option X) {Y : Type 0} → IsSome x → x ≡ None → Y
some_not_none x there e = not_both there (ap is_some e)

-- the later entries are in order
pub later_sorted : (e : ℕ × ℕ) (es : List (ℕ × ℕ)) → T (finmap.is_sorted nat_cmp (e ∷ es)) → T (finmap.is_sorted nat_cmp es)
later_sorted e es sorted = (both _ _ sorted).1

-- the first entry is found by its key
pub found_first : (e : ℕ × ℕ) (es : List (ℕ × ℕ)) → finmap.find nat_cmp e.0 (e ∷ es) ≡ Some e.1
found_first e es = ap (λ b. cond b (Some e.1) (finmap.find nat_cmp e.0 es)) (unsigned_tied e.0 e.0 ∙ (Decides-eqb e.0 e.0).1 refl)

-- what is found among the later entries is found
pub found_later : (e : ℕ × ℕ) (es : List (ℕ × ℕ)) → T (finmap.is_sorted nat_cmp (e ∷ es)) → (key tag : ℕ) → finmap.find nat_cmp key es ≡ Some tag → finmap.find nat_cmp key (e ∷ es) ≡ Some tag
found_later e es sorted key tag at =
    ap (λ b. cond b (Some e.1) (finmap.find nat_cmp key es)) (unsigned_tied key e.0) ∙ by_test (λ b. eqb key e.0 ≡ b → cond b (Some e.1) (finmap.find nat_cmp key es) ≡ Some tag) (eqb key e.0)
    (λ on t. let none : finmap.find nat_cmp key es ≡ None = ap (λ k. finmap.find nat_cmp k es) ((Decides-eqb key e.0).0 on) ∙ later_without e es sorted in cc)
    (λ off t. at) refl

-- what a node is, among those of tags
among_from : (slots : List (Option Content)) (es : List (ℕ × ℕ)) (node : NodeId) → T (finmap.is_sorted nat_cmp es)
    → ((key tag : ℕ) → finmap.find nat_cmp key es ≡ Some tag → IsSome (slot_of slots tag))
    → content_among (made_from slots es) node ≡ option_and_then (slot_of slots) (finmap.find nat_cmp node.key es)
among_from slots [] node sorted lead = refl
among_from slots (e ∷ es) node sorted lead =
    let first = found_first e es in
    let later : (key tag : ℕ) → finmap.find nat_cmp key es ≡ Some tag → IsSome (slot_of slots tag) = λ key tag at. lead key tag (found_later e es sorted key tag at) in
    let rest = among_from slots es node (later_sorted e es sorted) later in
    elim (slot_of slots e.1) as (λ slot. slot_of slots e.1 ≡ slot → content_among (made_with e.0 slot ++ made_from slots es) node
    ≡ option_and_then (slot_of slots) (finmap.find nat_cmp node.key (e ∷ es))) [
      | None ↦ λ none. some_not_none (slot_of slots e.1) (lead e.0 e.1 first) none
      | Some content ↦ λ is.
          by_test (λ b. cond b (Some content) (content_among (made_from slots es) node) ≡ option_and_then (slot_of slots) (cond b (Some e.1) (finmap.find nat_cmp node.key es))) (eqb node.key e.0)
          (λ on. sym is) (λ off. rest)
          ∙ ap (λ b. option_and_then (slot_of slots) (cond b (Some e.1) (finmap.find nat_cmp node.key es))) (sym (unsigned_tied node.key e.0))
    ] refl

-- what a node is, by its tag
pub content_found : (layout : Layout) (slots : List (Option Content)) (node : NodeId) → AreMade layout.tags slots
    → content_of (layout_with layout slots) node ≡ option_and_then (slot_of slots) (tag_of layout node)
content_found layout slots node made =
    among_from slots (finmap.entries layout.tags) node (finmap.entries_sorted layout.tags) (λ key tag at. made.lead key tag (finmap.get-entries layout.tags key ∙ at))
    ∙ ap (option_and_then (slot_of slots)) (sym (finmap.get-entries layout.tags node.key))

-- a node with a tag has a content
pub tagged_made : (layout : Layout) (slots : List (Option Content)) (node : NodeId) → AreMade layout.tags slots → IsSome (tag_of layout node) → IsSome (content_of (layout_with layout slots) node)
tagged_made layout slots node made there = subst (λ (found : Option Content). IsSome found) (sym (content_found layout slots node made))
    (elim (tag_of layout node) as (λ tag. tag_of layout node ≡ tag → IsSome tag → IsSome (option_and_then (slot_of slots) tag)) [
      | None ↦ λ at h. not_both h refl
      | Some tag ↦ λ at h. made.lead node.key tag at
    ] refl there)

-- a node with a content has a tag, which has the content
pub made_tagged : (layout : Layout) (slots : List (Option Content)) (node : NodeId) → AreMade layout.tags slots → IsSome (content_of (layout_with layout slots) node) → IsSome (tag_of layout node)
made_tagged layout slots node made there =
    let found : IsSome (option_and_then (slot_of slots) (tag_of layout node)) = subst (λ (found : Option Content). IsSome found) (content_found layout slots node made) there in
    elim (tag_of layout node) as (λ tag. IsSome (option_and_then (slot_of slots) tag) → IsSome tag) [
      | None ↦ λ h. not_both h refl
      | Some tag ↦ λ h. refl
    ] found

-- the content of a tag is that of its node
pub content_at : (layout : Layout) (slots : List (Option Content)) (node : NodeId) (tag : ℕ) → AreMade layout.tags slots → tag_of layout node ≡ Some tag → content_of (layout_with layout slots) node
    ≡ slot_of slots tag
content_at layout slots node tag made at = content_found layout slots node made ∙ ap (option_and_then (slot_of slots)) at

-- layouts in which nodes are told by their tags
pub loose_node : (layout : Layout) (slots : List (Option Content)) (node : NodeId) → AreMade layout.tags slots → IsLooseNode (layout_with layout slots) node → IsLoose layout node
loose_node layout slots node made loose = record { made = made_tagged layout slots node made loose.made; apart = loose.apart }

-- and the other way round
pub node_loose : (layout : Layout) (slots : List (Option Content)) (node : NodeId) → AreMade layout.tags slots → IsLoose layout node → IsLooseNode (layout_with layout slots) node
node_loose layout slots node made loose = record { made = tagged_made layout slots node made loose.made; apart = loose.apart }

-- what holds of rings holds of the layout
pub laid_out : (layout : Layout) (slots : List (Option Content)) → AreMade layout.tags slots → IsSound layout → IsLaidOut (layout_with layout slots)
laid_out layout slots made sound = record { once = sound.once; made = λ node linked. tagged_made layout slots node made (sound.made node linked) }

module _ (layout : Layout) (old new : List (Option Content)) (node : NodeId) (tag : ℕ) (content : Content) (made : AreMade layout.tags old)
    (fresh : tag_of layout node ≡ None) (free : slot_of old tag ≡ None) (filled : slot_of new tag ≡ Some content)
    (others : (other : ℕ) → other ≢ tag → slot_of new other ≡ slot_of old other) where
  -- a tag that has a content isn't the free one
  stays : (other : ℕ) → IsSome (slot_of old other) → slot_of new other ≡ slot_of old other
  stays other there = others other (λ same. some_not_none (slot_of old other) there (ap (slot_of old) same ∙ free))

  -- each node's tag has a content still, and the new node's has
  pub made_more : AreMade (with_node layout node tag).tags new
  made_more = record {
    lead = λ key at. λ is. by_test (λ b. eqb key node.key ≡ b → cond b (Some tag) (finmap.get layout.tags key) ≡ Some at → IsSome (slot_of new at)) (eqb key node.key)
        (λ on t e. subst (λ a. IsSome (slot_of new a)) (cc) (subst (λ (found : Option Content). IsSome found) (sym filled) refl))
        (λ off t e. subst (λ (found : Option Content). IsSome found) (sym (stays at (made.lead key at e))) (made.lead key at e)) refl (sym (tag_with_node layout node (record { key = key }) tag) ∙ is);
    once = λ a b at. λ p q. by_test (λ s. eqb a node.key ≡ s → cond s (Some tag) (finmap.get layout.tags a) ≡ Some at → a ≡ b) (eqb a node.key)
        (λ on t e. by_test (λ s. eqb b node.key ≡ s → cond s (Some tag) (finmap.get layout.tags b) ≡ Some at → a ≡ b) (eqb b node.key)
        (λ on2 t2 e2. (Decides-eqb a node.key).0 on ∙ sym ((Decides-eqb b node.key).0 on2))
        (λ off2 t2 e2. some_not_none (slot_of old at) (made.lead b at e2) (ap (slot_of old) (cc) ∙ free)) refl (sym (tag_with_node layout node (record { key = b }) tag) ∙ q))
        (λ off t e. by_test (λ s. eqb b node.key ≡ s → cond s (Some tag) (finmap.get layout.tags b) ≡ Some at → a ≡ b) (eqb b node.key)
        (λ on2 t2 e2. some_not_none (slot_of old at) (made.lead a at e) (ap (slot_of old) (cc) ∙ free))
        (λ off2 t2 e2. made.once a b at e e2) refl (sym (tag_with_node layout node (record { key = b }) tag) ∙ q)) refl (sym (tag_with_node layout node (record { key = a }) tag) ∙ p);
    owned = λ at there. by_test (λ b. eqb at tag ≡ b → (key : ℕ) × (finmap.get (with_node layout node tag).tags key ≡ Some at)) (eqb at tag)
        (λ on t.
        let same : tag ≡ at = sym ((Decides-eqb at tag).0 t) in
        (node.key, tag_with_node layout node node tag ∙ (ap (λ b. cond b (Some tag) (tag_of layout node)) (same_node_itself node) ∙ ap Some same)))
        (λ off t.
        let was : slot_of new at ≡ slot_of old at = others at (λ same. not_both ((Decides-eqb at tag).1 same) t) in
        let own = made.owned at (subst (λ (found : Option Content). IsSome found) was there) in
        let differ : eqb own.0 node.key ≡ false = by_test (λ b. eqb own.0 node.key ≡ b → b ≡ false) (eqb own.0 node.key)
        (λ is e. let none : finmap.get layout.tags own.0 ≡ None = ap (finmap.get layout.tags) ((Decides-eqb own.0 node.key).0 e)
        ∙ fresh in some_not_none (finmap.get layout.tags own.0) (ap is_some own.1) none) (λ isnt e. refl) refl in
        (own.0, tag_with_node layout node (record { key = own.0 }) tag ∙ (ap (λ b. cond b (Some tag) (finmap.get layout.tags own.0)) differ ∙ own.1))) refl;
  }

  -- the new node has its content, and the others have theirs
  pub made_contents : Makes (layout_with layout old) (layout_with (with_node layout node tag) new) node content
  made_contents = record {
    fresh = content_found layout old node made ∙ ap (option_and_then (slot_of old)) fresh;
    contents = λ other. content_found (with_node layout node tag) new other made_more ∙ (ap (option_and_then (slot_of new)) (tag_with_node layout node other tag)
        ∙ by_test (λ b. option_and_then (slot_of new) (cond b (Some tag) (tag_of layout other)) ≡ cond b (Some content) (content_of (layout_with layout old) other)) (same_node other node)
        (λ on. filled)
        (λ off. elim (tag_of layout other) as (λ found. tag_of layout other ≡ found → option_and_then (slot_of new) found ≡ option_and_then (slot_of old) found) [
          | None ↦ λ e. refl
          | Some at ↦ λ e. stays at (made.lead other.key at e)
        ] refl ∙ sym (content_found layout old other made)));
  }

-- a layout of no rings and no tags has no nodes
pub none_made : (slots : List (Option Content)) → made_from slots (finmap.entries {X = ℕ} {R = nat_cmp} finmap.empty) ≡ []
none_made slots = ap (made_from slots) (no_entries (finmap.entries finmap.empty) (sym (finmap.len-entries finmap.empty) ∙ finmap.len-empty nat_cmp ℕ)) where
  no_entries : (es : List (ℕ × ℕ)) → length es ≡ 0 → es ≡ []
  no_entries [] e = refl
  no_entries (x ∷ es) e = absurd (omega arith)

-- no tag leads nowhere, and no content is nobody's
pub empty_made : (slots : List (Option Content)) → slots ≡ [] → AreMade finmap.empty slots
empty_made slots none = record {
  lead = λ key tag. λ e. let none = finmap.get-empty {X = ℕ} nat_cmp key in cc;
  once = λ a b tag. λ e f. let none = finmap.get-empty {X = ℕ} nat_cmp a in cc;
  owned = λ tag there. not_both there (ap (λ slots. is_some (slot_of slots tag)) none);
}
