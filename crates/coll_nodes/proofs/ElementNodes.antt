-- The element that is found by its string is the one that is declared with it.
use Rattle.std.proofs.Common.{◌≡◌, ℕ, true, false, ◌||◌, cond, List, [], ◌∷◌, ◌++◌, Option, Some, None, flat_map, sym, ap, ◌∙◌, refl}
use Rattle.std.specs.List.{list_any}
use Rattle.std.specs.Option.{option_or}
use Rattle.coll_order.specs.Lists.{same_node, has_node}
use Rattle.coll_order.specs.declared.places.NodeId.{NodeId}
use Rattle.coll_order.proofs.ListLemmas.{or_first, or_second}
use Rattle.coll_order.proofs.Sameness.{by_test, not_both, same_node_is, same_node_itself}
use Rattle.coll_syntax.specs.Identifier.{same_name}
use Rattle.coll_nodes.specs.ElementTexts.{element_name, element_name_in, name_if_spelled}
use Rattle.coll_nodes.specs.SoundBodies.{read_at, ring_at, texts_in, Finds, IsShaped}
use Rattle.coll_nodes.specs.TableLayout.{TableLayout, content_of, declaration_in, declared_at, if_any}
use Rattle.coll_nodes.specs.declared.contents.Content.{Content}
use Rattle.coll_nodes.specs.declared.contents.Content.TheVariants as content
use Rattle.coll_nodes.specs.declared.declarations.Declaration.{Declaration}
use Rattle.coll_nodes.specs.declared.declarations.Declaration.TheVariants as declaration
use Rattle.coll_nodes.proofs.BodyReads.{one}
use Rattle.coll_nodes.proofs.LayoutReads.{and_true, both_true, declared_covers, declared_read, in_rings, read_known}

-- the element of a string in two lists
element_append : (xs ys : List Declaration) (text : List ℕ) → element_name (xs ++ ys) text ≡ option_or (element_name xs text) (element_name ys text)
element_append [] ys text = refl
element_append (x ∷ xs) ys text = ap (option_or (name_if_spelled text x)) (element_append xs ys text) ∙ sym (assoc (name_if_spelled text x) (element_name xs text) (element_name ys text)) where
  assoc : {X : Type 0} (a b c : Option X) → option_or (option_or a b) c ≡ option_or a (option_or b c)
  assoc None b c = refl
  assoc (Some x) b c = refl

module _ (layout : TableLayout) (text : List ℕ) where
  -- the name of the element with a string that a node declares
  abbrev named_at : NodeId → Option (List ℕ)
  named_at node = element_name (read_at declaration_in layout node) text

  -- an element is found among nodes where one of them declares it, and no other
  found_among : (nodes : List NodeId) (node : NodeId) (name : List ℕ) → has_node nodes node ≡ true → named_at node ≡ Some name
      → ((other : NodeId) (its : List ℕ) → has_node nodes other ≡ true → named_at other ≡ Some its → other ≡ node) → element_name (flat_map (read_at declaration_in layout) nodes) text ≡ Some name
  found_among [] node name there is only = not_both there refl
  found_among (first ∷ nodes) node name there is only =
      element_append (read_at declaration_in layout first) (flat_map (read_at declaration_in layout) nodes) text
      ∙ by (λ there. found_among nodes node name there is (λ other its in_later e. only other its (or_second (same_node other first) _ in_later) e)) (named_at first) refl where
        later : (named_at first ≡ None) → has_node nodes node ≡ true
        later none = by_test (λ b. (b || has_node nodes node) ≡ true → same_node node first ≡ b → has_node nodes node ≡ true) (same_node node first)
            (λ on e same. absurd (some_is (sym is ∙ (ap named_at (same_node_is node first same) ∙ none))))
            (λ off e same. e) there refl where
              some_is : {X : Type 0} {x : X} → Some x ≡ None → ⊥
              some_is e = cc

        by : (has_node nodes node ≡ true → element_name (flat_map (read_at declaration_in layout) nodes) text ≡ Some name)
            → (found : Option (List ℕ)) → named_at first ≡ found → option_or found (element_name (flat_map (read_at declaration_in layout) nodes) text) ≡ Some name
        by in_later None none = in_later (later none)
        by in_later (Some its) e = sym e ∙ (ap named_at (only first its (or_first (same_node first first) _ (same_node_itself first)) e) ∙ is)

  -- and in none of them where none declares it
  not_among : (nodes : List NodeId) → ((other : NodeId) (its : List ℕ) → has_node nodes other ≡ true → named_at other ≡ Some its → ⊥)
      → element_name (flat_map (read_at declaration_in layout) nodes) text ≡ None
  not_among [] none = refl
  not_among (first ∷ nodes) none =
      element_append (read_at declaration_in layout first) (flat_map (read_at declaration_in layout) nodes) text
      ∙ by (not_among nodes (λ other its in_later. none other its (or_second (same_node other first) _ in_later))) (named_at first) refl where
        by : element_name (flat_map (read_at declaration_in layout) nodes) text ≡ None
            → (found : Option (List ℕ)) → named_at first ≡ found → option_or found (element_name (flat_map (read_at declaration_in layout) nodes) text) ≡ None
        by not_later None e = not_later
        by not_later (Some its) e = absurd (none first its (or_first (same_node first first) _ (same_node_itself first)) e)

  -- a node that declares an element with a string has the string as its key
  spelled_key : (node : Option Content) (name : List ℕ) → element_name (flat_map declaration_in (if_any node)) text ≡ Some name → list_any (same_name text) (flat_map texts_in (if_any node)) ≡ true
  spelled_key None name e = cc
  spelled_key (Some (content.Declared (declaration.Symbol own))) name e = cc
  spelled_key (Some (content.Declared (declaration.Equivalence own symbol))) name e = cc
  spelled_key (Some (content.Declared (declaration.Element own string))) name e =
      by_test (λ b. option_or (cond b (Some own) None) None ≡ Some name → (b || false) ≡ true) (same_name text string) (λ on is. refl) (λ off is. cc) e
  spelled_key (Some (content.Begun section ring)) name e = cc
  spelled_key (Some (content.Placed entry)) name e = cc

  -- a node with the string as its key declares its element
  key_spelled : (known : Content) → list_any (same_name text) (texts_in known) ≡ true → (name : List ℕ) × (element_name_in known ≡ Some name) × (element_name (declaration_in known) text ≡ Some name)
  key_spelled (content.Declared (declaration.Symbol own)) has = not_both has refl
  key_spelled (content.Declared (declaration.Equivalence own symbol)) has = not_both has refl
  key_spelled (content.Declared (declaration.Element own string)) has = (own, refl, ap (λ b. option_or (cond b (Some own) None) None) (one (same_name text string) has))
  key_spelled (content.Begun section ring) has = not_both has refl
  key_spelled (content.Placed entry) has = not_both has refl

  module _ (shaped : IsShaped layout) (find : List ℕ → Option NodeId) (sound : Finds same_name texts_in layout find) where
    -- a node that declares an element with the string is found
    leads_to : (node : NodeId) (name : List ℕ) → has_node (ring_at layout 0) node ≡ true → named_at node ≡ Some name → find text ≡ Some node
    leads_to node name there is = sound.finds text node (and_true (in_rings layout 0 node there) (spelled_key (content_of layout node) name is))

    -- the node that is found is its element
    pub element_known : (node : NodeId) (known : Content) → find text ≡ Some node → content_of layout node ≡ Some known → element_name_in known ≡ element_name (declared_at layout) text
    element_known node known found is =
        let has = sound.leads text node found in
        let there = declared_covers layout same_name texts_in shaped (λ _ _. refl) (λ _. refl) text node has in
        let here = key_spelled known (sym (ap (list_any (same_name text)) (read_known texts_in layout node known is)) ∙ (both_true _ _ has).1) in
        here.1 ∙ sym (ap (λ all. element_name all text) (declared_read layout)
        ∙ found_among (ring_at layout 0) node here.0 there (ap (λ all. element_name all text) (read_known declaration_in layout node known is) ∙ here.2)
        (λ other its in_ring e. same (sym (leads_to other its in_ring e) ∙ found))) where
          same : {a b : NodeId} → Some a ≡ Some b → a ≡ b
          same e = cc

    -- what isn't found is no element's string
    pub no_element : find text ≡ None → None ≡ element_name (declared_at layout) text
    no_element none = sym (ap (λ all. element_name all text) (declared_read layout) ∙ not_among (ring_at layout 0) (λ other its in_ring e. no_node (sym (leads_to other its in_ring e) ∙ none))) where
      no_node : {a : NodeId} → Some a ≡ None → ⊥
      no_node e = cc
