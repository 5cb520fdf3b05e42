-- Lists that are read from nodes, one node after the other.
use Rattle.std.proofs.Common.{◌≡◌, suc, ◌++◌, Bool, true, false, ◌||◌, cond, List, [], ◌∷◌, length, map, flat_map, sym, ap, subst, ◌∙◌, refl, arith}
use Rattle.std.specs.List.{list_any}
use Rattle.std.proofs.lemmas.List.{length-append}
use Rattle.std.proofs.lemmas.List.Folds.{list_any-append}
use Rattle.std.proofs.lemmas.Grind.{flat_map-append}
use Rattle.coll_order.specs.Lists.{same_node, same_place, has_node, put_after}
use Rattle.coll_order.specs.Sound.{AreDistinct}
use Rattle.coll_order.specs.declared.places.NodeId.{NodeId}
use Rattle.coll_order.specs.declared.places.Place.{Place}
use Rattle.coll_order.specs.declared.places.Place.TheVariants.{After}
use Rattle.coll_order.proofs.Sameness.{by_test, not_both, same_node_is, same_node_itself}
use Rattle.coll_order.proofs.ListLemmas.{or_first, or_second}
use Rattle.coll_nodes.specs.SoundBodies.{is_place_of}

-- what is read of what is read
pub read_twice : {X Y Z : Type 0} (g : Y → List Z) (f : X → List Y) (xs : List X) → flat_map g (flat_map f xs) ≡ flat_map (λ x. flat_map g (f x)) xs
read_twice g f [] = refl
read_twice g f (x ∷ xs) = flat_map-append g (f x) (flat_map f xs) ∙ ap (λ zs. flat_map g (f x) ++ zs) (read_twice g f xs)

-- one thing of each
pub map_read : {X Y Z : Type 0} (g : Y → Z) (f : X → List Y) (xs : List X) → map g (flat_map f xs) ≡ flat_map (λ x. map g (f x)) xs
map_read g f [] = refl
map_read g f (x ∷ xs) = map_over (f x) ∙ ap (λ zs. map g (f x) ++ zs) (map_read g f xs) where
  map_over : (ys : List _) → map g (ys ++ flat_map f xs) ≡ map g ys ++ map g (flat_map f xs)
  map_over [] = refl
  map_over (y ∷ ys) = ap (λ zs. g y ∷ zs) (map_over ys)

-- a test of what is made of each
pub any_map : {X Y : Type 0} (p : Y → Bool) (f : X → Y) (xs : List X) → list_any p (map f xs) ≡ list_any (λ x. p (f x)) xs
any_map p f [] = refl
any_map p f (x ∷ xs) = ap (λ b. p (f x) || b) (any_map p f xs)

module _ {X : Type 0} where
  -- readings that agree on the nodes of a list give the same
  pub same_read : (f g : NodeId → List X) (nodes : List NodeId) → ((node : NodeId) → has_node nodes node ≡ true → g node ≡ f node) → flat_map g nodes ≡ flat_map f nodes
  same_read f g [] same = refl
  same_read f g (node ∷ nodes) same =
      ap (λ xs. xs ++ flat_map g nodes) (same node (or_first (same_node node node) _ (same_node_itself node)))
      ∙ ap (λ xs. f node ++ xs) (same_read f g nodes (λ other there. same other (or_second (same_node other node) _ there)))

  -- what is read of the nodes of a list is read of one of them
  pub any_from : (p : X → Bool) (f : NodeId → List X) (nodes : List NodeId) → list_any p (flat_map f nodes) ≡ true
      → (node : NodeId) × (has_node nodes node ≡ true) × (list_any p (f node) ≡ true)
  any_from p f [] there = not_both there refl
  any_from p f (node ∷ nodes) there =
      by_test (λ b. list_any p (f node) ≡ b → (b || list_any p (flat_map f nodes)) ≡ true → (n : NodeId) × (has_node (node ∷ nodes) n ≡ true) × (list_any p (f n) ≡ true)) (list_any p (f node))
      (λ on t e. (node, or_first (same_node node node) _ (same_node_itself node), t))
      (λ off t e. let later = any_from p f nodes e in (later.0, or_second (same_node later.0 node) _ later.1, later.2))
      refl (sym (list_any-append p (f node) (flat_map f nodes)) ∙ there)

  -- what is read of one of them is read of the list
  pub any_to : (p : X → Bool) (f : NodeId → List X) (nodes : List NodeId) (node : NodeId) → has_node nodes node ≡ true → list_any p (f node) ≡ true → list_any p (flat_map f nodes) ≡ true
  any_to p f [] node there has = not_both there refl
  any_to p f (first ∷ nodes) node there has =
      list_any-append p (f first) (flat_map f nodes)
      ∙ by_test (λ b. same_node node first ≡ b → (b || has_node nodes node) ≡ true → (list_any p (f first) || list_any p (flat_map f nodes)) ≡ true) (same_node node first)
      (λ on t e. or_first _ _ (ap (λ n. list_any p (f n)) (sym (same_node_is node first t)) ∙ has))
      (λ off t e. or_second (list_any p (f first)) _ (any_to p f nodes node e has)) refl there

  -- a list in which one node reads one more is longer by one
  pub longer : (f g : NodeId → List X) (node : NodeId) (nodes : List NodeId) → AreDistinct nodes → has_node nodes node ≡ true → length (g node) ≡ suc (length (f node))
      → ((other : NodeId) → has_node nodes other ≡ true → same_node other node ≡ false → g other ≡ f other) → length (flat_map g nodes) ≡ suc (length (flat_map f nodes))
  longer f g node [] distinct there more others = not_both there refl
  longer f g node (first ∷ rest) distinct there more others =
      by_test (λ b. same_node node first ≡ b → (b || has_node rest node) ≡ true → length (flat_map g (first ∷ rest)) ≡ suc (length (flat_map f (first ∷ rest)))) (same_node node first)
      (λ on t e.
      let same : node ≡ first = same_node_is node first t in
      let here : length (g first) ≡ suc (length (f first)) = subst (λ n. length (g n) ≡ suc (length (f n))) same more in
      let later : flat_map g rest ≡ flat_map f rest = same_read f g rest (λ other is. others other (or_second (same_node other first) _ is)
      (by_test (λ b. same_node other node ≡ b → b ≡ false) (same_node other node) (λ on e. not_both (subst (λ n. has_node rest n ≡ true) (same_node_is other node e ∙ same) is) distinct.0)
      (λ off e. refl) refl)) in
      let sum = length-append (f first) (flat_map f rest) in
      let rest_length : length (flat_map g rest) ≡ length (flat_map f rest) = ap (λ xs. length xs) later in
      length-append (g first) (flat_map g rest) ∙ omega (arith, here, rest_length, sum))
      (λ off t e.
      let first_differs : same_node first node ≡ false = by_test (λ b. same_node first node ≡ b → b ≡ false) (same_node first node)
      (λ on e. not_both (subst (λ n. same_node node n ≡ true) (sym (same_node_is first node e)) (same_node_itself node)) t) (λ off e. refl) refl in
      let here : g first ≡ f first = others first (or_first (same_node first first) _ (same_node_itself first)) first_differs in
      let later = longer f g node rest distinct.1 e more (λ other is differ. others other (or_second (same_node other first) _ is) differ) in
      ap (λ xs. length (xs ++ flat_map g rest)) here ∙ (length-append (f first) (flat_map g rest) ∙ (let sum = length-append (f first) (flat_map f rest) in omega arith))) refl there

  -- where a node is put in that reads one thing, a list reads one more
  pub longer_put : (f g : NodeId → List X) (place start : Place) (node : NodeId) (nodes : List NodeId) → is_place_of place start nodes ≡ true → length (g node) ≡ 1
      → ((other : NodeId) → has_node nodes other ≡ true → g other ≡ f other) → length (flat_map g (put_after place node start nodes)) ≡ suc (length (flat_map f nodes))
  longer_put f g place start node [] on one others =
      by_test (λ b. (b || false) ≡ true → length (flat_map g (cond b (node ∷ []) [])) ≡ 1) (same_place place start)
      (λ here e. length-append (g node) [] ∙ (omega (arith, one))) (λ off e. not_both e refl) on
  longer_put f g place start node (first ∷ rest) on one others =
      let here : g first ≡ f first = others first (or_first (same_node first first) _ (same_node_itself first)) in
      by_test (λ b. (b || is_place_of place (After first) rest) ≡ true → length (flat_map g (cond b (node ∷ first ∷ rest) (first ∷ put_after place node (After first) rest)))
      ≡ suc (length (flat_map f (first ∷ rest)))) (same_place place start)
      (λ now e.
      let rest_length : length (flat_map g (first ∷ rest)) ≡ length (flat_map f (first ∷ rest)) = ap (λ xs. length xs) (same_read f g (first ∷ rest) others) in
      length-append (g node) (flat_map g (first ∷ rest)) ∙ omega (arith, one, rest_length))
      (λ off e.
      let later = longer_put f g place (After first) node rest e one (λ other there. others other (or_second (same_node other first) _ there)) in
      ap (λ xs. length (xs ++ flat_map g (put_after place node (After first) rest))) here
      ∙ (length-append (f first) (flat_map g (put_after place node (After first) rest)) ∙ (let sum = length-append (f first) (flat_map f rest) in omega arith))) on

  -- where a node is put in of which nothing is read, a list reads the same
  pub same_put : (f g : NodeId → List X) (place start : Place) (node : NodeId) (nodes : List NodeId) → g node ≡ []
      → ((other : NodeId) → has_node nodes other ≡ true → g other ≡ f other) → flat_map g (put_after place node start nodes) ≡ flat_map f nodes
  same_put f g place start node [] none others = by_test (λ b. flat_map g (cond b (node ∷ []) []) ≡ []) (same_place place start) (λ here. ap (λ xs. xs ++ []) none) (λ off. refl)
  same_put f g place start node (first ∷ rest) none others =
      by_test (λ b. flat_map g (cond b (node ∷ first ∷ rest) (first ∷ put_after place node (After first) rest)) ≡ flat_map f (first ∷ rest)) (same_place place start)
      (λ now. ap (λ xs. xs ++ flat_map g (first ∷ rest)) none ∙ same_read f g (first ∷ rest) others)
      (λ off. ap (λ xs. xs ++ flat_map g (put_after place node (After first) rest)) (others first (or_first (same_node first first) _ (same_node_itself first)))
      ∙ ap (λ xs. f first ++ xs) (same_put f g place (After first) node rest none (λ other there. others other (or_second (same_node other first) _ there))))

  -- readings that are as long of each node of a list are as long
  pub same_length : (f g : NodeId → List X) (nodes : List NodeId) → ((node : NodeId) → has_node nodes node ≡ true → length (g node) ≡ length (f node))
      → length (flat_map g nodes) ≡ length (flat_map f nodes)
  same_length f g [] same = refl
  same_length f g (node ∷ nodes) same =
      let here = same node (or_first (same_node node node) _ (same_node_itself node)) in
      let later = same_length f g nodes (λ other there. same other (or_second (same_node other node) _ there)) in
      let sum = length-append (f node) (flat_map f nodes) in
      length-append (g node) (flat_map g nodes) ∙ omega (arith, here, later, sum)
