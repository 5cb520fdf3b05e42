-- Nodes that are there are no more than slots for their contents.
use Rattle.std.proofs.Common.{◌≡◌, ℕ, zero, suc, ◌<◌, ◌≤◌, true, false, ◌||◌, eqb, IsSome, List, [], ◌∷◌, Option, Some, None, length, map, sym, ap, subst, ◌∙◌, refl, arith}
use Rattle.std.specs.List.{list_any, IsDistinct, AllByRecursion}
use Rattle.std.proofs.lemmas.Bool.Decides.{Decides-eqb}
use Rattle.std.proofs.lemmas.Map.Steps.{length-le_from_distinct_below}
use Rattle.coll_order.specs.Layout.{Layout, tag_of}
use Rattle.coll_order.specs.Lists.{same_node, has_node}
use Rattle.coll_order.specs.Sound.{AreDistinct}
use Rattle.coll_order.specs.declared.places.NodeId.{NodeId}
use Rattle.coll_order.proofs.ListLemmas.{neither, or_first, or_second}
use Rattle.coll_order.proofs.Sameness.{by_test, not_both, same_node_itself}
use Rattle.coll_nodes.specs.Bodies.{slot_of, layout_with, AreMade}
use Rattle.coll_nodes.specs.Counting.{AreThere}
use Rattle.coll_nodes.specs.declared.contents.Content.{Content}
use Rattle.coll_nodes.proofs.NodeLemmas.{made_tagged}

-- a slot that has a content is one of the slots
pub within : (slots : List (Option Content)) (tag : ℕ) → IsSome (slot_of slots tag) → tag < length slots
within [] tag there = not_both there refl
within (slot ∷ slots) zero there = omega arith
within (slot ∷ slots) (suc tag) there = let later = within slots tag there in omega (arith, later)

-- a number, if there is one
abbrev number_or : Option ℕ → ℕ
number_or None = 0
number_or (Some tag) = tag

module _ (layout : Layout) (slots : List (Option Content)) (made : AreMade layout.tags slots) where
  -- the tag of a node
  abbrev number : NodeId → ℕ
  number node = number_or (tag_of layout node)

  -- a node that is there has its tag
  tagged : (node : NodeId) → IsSome (tag_of layout node) → tag_of layout node ≡ Some (number node)
  tagged node there = elim (tag_of layout node) as (λ found. IsSome found → found ≡ Some (number_or found)) [
    | None ↦ λ h. not_both h refl
    | Some tag ↦ λ h. refl
  ] there

  -- nodes have tags
  abbrev AreTagged : List NodeId → Type 0
  AreTagged nodes = (node : NodeId) → has_node nodes node ≡ true → tag_of layout node ≡ Some (number node)

  first_tagged : (first : NodeId) (rest : List NodeId) → AreTagged (first ∷ rest) → tag_of layout first ≡ Some (number first)
  first_tagged first rest all = all first (or_first (same_node first first) _ (same_node_itself first))

  rest_tagged : (first : NodeId) (rest : List NodeId) → AreTagged (first ∷ rest) → AreTagged rest
  rest_tagged first rest all node there = all node (or_second (same_node node first) _ there)

  -- another node has another tag
  other_tags : (node : NodeId) (nodes : List NodeId) → has_node nodes node ≡ false → tag_of layout node ≡ Some (number node) → AreTagged nodes
      → AllByRecursion (λ tag. eqb (number node) tag ≡ false) (map number nodes)
  other_tags node [] absent is all = tt
  other_tags node (first ∷ rest) absent is all =
      let apart = neither (same_node node first) (has_node rest node) absent in (
        by_test (λ b. eqb (number node) (number first) ≡ b → b ≡ false) (eqb (number node) (number first))
            (λ on _.
            let same : number node ≡ number first = (Decides-eqb (number node) (number first)).0 on in
            let key : node.key ≡ first.key = made.once node.key first.key (number node) is (first_tagged first rest all ∙ ap Some (sym same)) in
            not_both ((Decides-eqb node.key first.key).1 key) apart.0)
            (λ off _. refl) refl,
        other_tags node rest apart.1 is (rest_tagged first rest all),
      )

  -- so each tag is there once
  distinct_tags : (nodes : List NodeId) → AreDistinct nodes → AreTagged nodes → IsDistinct eqb (map number nodes)
  unfolding IsDistinct
  distinct_tags [] distinct all = tt
  distinct_tags (first ∷ rest) distinct all = (other_tags first rest distinct.0 (first_tagged first rest all) (rest_tagged first rest all), distinct_tags rest distinct.1 (rest_tagged first rest all))

  -- each tag is that of a slot
  low_tags : (nodes : List NodeId) → AreTagged nodes → (tag : ℕ) → list_any (eqb tag) (map number nodes) ≡ true → tag < length slots
  low_tags [] all tag there = not_both there refl
  low_tags (first ∷ rest) all tag there =
      by_test (λ b. eqb tag (number first) ≡ b → (b || list_any (eqb tag) (map number rest)) ≡ true → tag < length slots) (eqb tag (number first))
      (λ on _ _. subst (λ k. k < length slots) (sym ((Decides-eqb tag (number first)).0 on)) (within slots (number first) (made.lead first.key (number first) (first_tagged first rest all))))
      (λ off _ e. low_tags rest (rest_tagged first rest all) tag e) refl there

  -- there are as many
  as_many : (nodes : List NodeId) → length (map number nodes) ≡ length nodes
  as_many [] = refl
  as_many (node ∷ nodes) = ap suc (as_many nodes)

  -- nodes that are there, each once, are no more than slots
  pub no_more : (nodes : List NodeId) → AreDistinct nodes → AreThere (layout_with layout slots) nodes → length nodes ≤ length slots
  no_more nodes distinct there =
      let all = λ (node : NodeId) (here : has_node nodes node ≡ true). tagged node (made_tagged layout slots node made (there node here)) in
      subst (λ n. n ≤ length slots) (as_many nodes) (length-le_from_distinct_below (map number nodes) (length slots) (distinct_tags nodes distinct all) (low_tags nodes all))
