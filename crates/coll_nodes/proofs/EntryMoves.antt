-- Entries that are read of nodes: a node taken out, and a node put directly after another.
use Rattle.std.proofs.Common.{◌≡◌, true, false, not, cond, List, [], ◌∷◌, ◌++◌, flat_map, sym, ap, ◌∙◌, refl}
use Rattle.std.proofs.lemmas.List.Elements.{filter-append}
use Rattle.coll_order.specs.Lists.{same_node, same_place, has_node, without, put_after}
use Rattle.coll_order.specs.declared.places.NodeId.{NodeId}
use Rattle.coll_order.specs.declared.places.Place.{Place}
use Rattle.coll_order.specs.declared.places.Place.TheVariants.{After}
use Rattle.coll_order.proofs.ListLemmas.{put_first}
use Rattle.coll_order.proofs.Sameness.{by_test, same_node_is}
use Rattle.coll_syntax.specs.Identifier.{same_id, has_id}
use Rattle.coll_syntax.specs.declared.identifiers.Id.{Id}
use Rattle.coll_nodes.proofs.EntryLemmas.{none_without}
use Rattle.coll_nodes.proofs.NodeLists.{same_read}
use Rattle.coll_nodes.proofs.SectionLemmas.{after_right}
use Rattle.coll_nodes.proofs.WalkShapes.{members}
use Rattle.coll_nodes.specs.Placement.{entries_after, entries_without}
use Rattle.coll_nodes.specs.Table.{ids_of}
use Rattle.coll_nodes.specs.declared.entries.Entry.{Entry}

-- one node has the entry of an identifier, and no other has one of it
pub record Tells (f : NodeId → List Entry) (id : Id) (own node : NodeId) : Type 0 where
  pub here : same_node own node ≡ true → (entry : Entry) × (f node ≡ entry ∷ []) × (same_id id entry.id ≡ true)
  pub off : same_node own node ≡ false → has_id (ids_of (f node)) id ≡ false

-- without its node, a list reads the entries without its entry
pub take_read : (f : NodeId → List Entry) (id : Id) (own : NodeId) (nodes : List NodeId) → ((node : NodeId) → has_node nodes node ≡ true → Tells f id own node)
    → flat_map f (without own nodes) ≡ entries_without (flat_map f nodes) id
take_read f id own [] tells = refl
take_read f id own (node ∷ nodes) tells =
    let parts = members {P = Tells f id own} node nodes tells in
    let later = take_read f id own nodes parts.1 in
    let rest = flat_map f nodes in
    by_test (λ b. flat_map f (cond b (without own nodes) (node ∷ without own nodes)) ≡ entries_without (f node ++ rest) id) (same_node own node)
    (λ on. let it = parts.0.here on in
    later ∙ sym (ap (λ es. entries_without (es ++ rest) id) it.1 ∙ ap (λ b. cond (not b) (it.0 ∷ entries_without rest id) (entries_without rest id)) it.2))
    (λ off. ap (λ es. f node ++ es) later
    ∙ sym (filter-append (λ (entry : Entry). not (same_id id entry.id)) (f node) rest ∙ ap (λ es. es ++ entries_without rest id) (none_without (f node) id (parts.0.off off))))

-- with a node directly after that of a target, a list reads the entries with its entry directly after the target's
pub put_read : (f g : NodeId → List Entry) (target : Id) (after node : NodeId) (entry : Entry) → g node ≡ entry ∷ [] → (start : Place) (nodes : List NodeId) → same_place (After after) start ≡ false
    → ((other : NodeId) → has_node nodes other ≡ true → g other ≡ f other) → ((other : NodeId) → has_node nodes other ≡ true → Tells f target after other)
    → flat_map g (put_after (After after) node start nodes) ≡ entries_after (flat_map f nodes) target entry
put_read f g target after node entry new start [] apart same tells = ap (λ b. flat_map g (cond b (node ∷ []) [])) apart
put_read f g target after node entry new start (first ∷ nodes) apart same tells =
    let told = members {P = Tells f target after} first nodes tells in
    let read = members {P = λ other. g other ≡ f other} first nodes same in
    let rest = flat_map f nodes in
    ap (λ b. flat_map g (cond b (node ∷ first ∷ nodes) (first ∷ put_after (After after) node (After first) nodes))) apart
    ∙ by_test (λ b. same_node after first ≡ b → g first ++ flat_map g (put_after (After after) node (After first) nodes) ≡ entries_after (f first ++ rest) target entry) (same_node after first)
    (λ on _. let it = told.0.here on in
    let put : put_after (After after) node (After first) nodes ≡ node ∷ nodes =
    ap (λ n. put_after (After n) node (After first) nodes) (same_node_is after first on) ∙ put_first (After first) node nodes in
    ap (λ ns. g first ++ flat_map g ns) put
    ∙ (ap (λ es. es ++ (g node ++ flat_map g nodes)) (read.0 ∙ it.1)
    ∙ (ap (λ es. it.0 ∷ (es ++ flat_map g nodes)) new
    ∙ (ap (λ es. it.0 ∷ entry ∷ es) (all_same nodes read.1)
    ∙ sym (ap (λ es. entries_after (es ++ rest) target entry) it.1 ∙ ap (λ b. cond b (it.0 ∷ entry ∷ rest) (it.0 ∷ entries_after rest target entry)) it.2)))))
    (λ off _. ap (λ es. es ++ flat_map g (put_after (After after) node (After first) nodes)) read.0
    ∙ (ap (λ es. f first ++ es) (put_read f g target after node entry new (After first) nodes off read.1 told.1)
    ∙ sym (after_right (f first) rest target entry (told.0.off off)))) refl where
      all_same : (others : List NodeId) → ((other : NodeId) → has_node others other ≡ true → g other ≡ f other) → flat_map g others ≡ flat_map f others
      all_same others each = same_read f g others each
