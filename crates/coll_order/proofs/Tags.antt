-- The tags of nodes, as a map.
use Rattle.std.proofs.Common.{◌≡◌, ℕ, zero, suc, ◌+◌, ◌<◌, false, cond, eqb, get_or, List, [], ◌∷◌, Option, Some, None, sym, ap, ◌∙◌, refl, arith}
use Rattle.std.specs.Option.{option_map}
use Rattle.std.specs.Ordering.{nat_cmp}
use Rattle.std.specs.Cmp.{nat_cmp_total, unsigned_tied}
use Rattle.std.specs.FinMap as finmap
use Rattle.std.specs.FinMap.{nat_cmp-IsAntisymmetric}
use Rattle.std.proofs.lemmas.Bool.Decides.{Decides-eqb}
use Rattle.coll_order.specs.Laid.{tags_from}
use Rattle.coll_order.specs.Store.{Links, tag_at, Inserts, Removes}
use Rattle.coll_order.specs.declared.places.NodeId.{NodeId}
use Rattle.coll_order.specs.declared.store.Node.{Node}
use Rattle.coll_order.proofs.Sameness.{by_test}

-- what a map has at a key once one key more is in it
pub get_inserted : (tags : finmap.FinMap nat_cmp ℕ) (key tag at : ℕ) → finmap.get (finmap.insert tags key tag) at ≡ cond (eqb at key) (Some tag) (finmap.get tags at)
get_inserted tags key tag at = finmap.get-insert nat_cmp_total tags key tag at ∙ ap (λ b. cond b (Some tag) (finmap.get tags at)) (unsigned_tied at key)

-- and once a key is out of it
pub get_removed : (tags : finmap.FinMap nat_cmp ℕ) (key at : ℕ) → finmap.get (finmap.remove tags key) at ≡ cond (eqb at key) None (finmap.get tags at)
get_removed tags key at = finmap.get-remove nat_cmp_total tags key at ∙ ap (λ b. cond b None (finmap.get tags at)) (unsigned_tied at key)

-- numbers that differ fail the test
other_number : (a b : ℕ) → (a ≡ b → ⊥) → eqb a b ≡ false
other_number a b differ = by_test (λ t. eqb a b ≡ t → t ≡ false) (eqb a b) (λ on e. absurd (differ ((Decides-eqb a b).0 on))) (λ off e. refl) refl

-- a key before the first has no tag
get_earlier : (first : ℕ) (slots : List (Option Node)) (key : ℕ) → key < first → finmap.get (tags_from first slots) key ≡ None
unfolding tags_from
get_earlier first [] key low = finmap.get-empty nat_cmp key
get_earlier first (None ∷ slots) key low = get_earlier (suc first) slots key (omega arith)
get_earlier first (Some node ∷ slots) key low =
    get_inserted (tags_from (suc first) slots) first node.tag key
    ∙ (ap (λ b. cond b (Some node.tag) (finmap.get (tags_from (suc first) slots) key)) (other_number key first (λ same. absurd (omega arith))) ∙ get_earlier (suc first) slots key (omega arith))

-- a later key has the tag of its slot
get_slot : (first : ℕ) (slots : List (Option Node)) (place : ℕ) → finmap.get (tags_from first slots) (first + place) ≡ option_map (λ (n : Node). n.tag) (get_or slots place None)
unfolding tags_from
get_slot first [] place = finmap.get-empty nat_cmp (first + place)
get_slot first (None ∷ slots) zero = get_earlier (suc first) slots (first + zero) (omega arith)
get_slot first (None ∷ slots) (suc place) = let same : first + suc place ≡ suc first + place = omega arith in
    ap (finmap.get (tags_from (suc first) slots)) same ∙ get_slot (suc first) slots place
get_slot first (Some node ∷ slots) zero =
    let same : first + zero ≡ first = omega arith in
    get_inserted (tags_from (suc first) slots) first node.tag (first + zero)
    ∙ ap (λ b. cond b (Some node.tag) (finmap.get (tags_from (suc first) slots) (first + zero))) ((Decides-eqb (first + zero) first).1 same)
get_slot first (Some node ∷ slots) (suc place) =
    let same : first + suc place ≡ suc first + place = omega arith in
    get_inserted (tags_from (suc first) slots) first node.tag (first + suc place)
    ∙ (ap (λ b. cond b (Some node.tag) (finmap.get (tags_from (suc first) slots) (first + suc place))) (other_number (first + suc place) first (λ same. absurd (omega arith)))
    ∙ (ap (finmap.get (tags_from (suc first) slots)) same ∙ get_slot (suc first) slots place))

-- a key has the tag of its slot
pub tag_is : (links : Links) (node : NodeId) → finmap.get (tags_from 0 links.slots) node.key ≡ tag_at links node
tag_is links node = let same : node.key ≡ 0 + node.key = omega arith in ap (finmap.get (tags_from 0 links.slots)) same ∙ get_slot 0 links.slots node.key

-- links with the same tags have the same map
pub same_tags : (old new : Links) → ((node : NodeId) → tag_at new node ≡ tag_at old node) → tags_from 0 new.slots ≡ tags_from 0 old.slots
same_tags old new same = finmap.same_map nat_cmp_total nat_cmp-IsAntisymmetric _ _
    (λ key. tag_is new (record { key = key }) ∙ (same (record { key = key }) ∙ sym (tag_is old (record { key = key }))))

-- links with one node more have one tag more
pub inserted_tags : (old new : Links) (node : NodeId) (value : Node) → Inserts old new node value → tags_from 0 new.slots ≡ finmap.insert (tags_from 0 old.slots) node.key value.tag
inserted_tags old new node value step = finmap.same_map nat_cmp_total nat_cmp-IsAntisymmetric _ _ (λ key.
    tag_is new (record { key = key }) ∙ (by_test (λ b. eqb key node.key ≡ b → tag_at new (record { key = key }) ≡ cond b (Some value.tag) (finmap.get (tags_from 0 old.slots) key)) (eqb key node.key)
    (λ on e. let same : key ≡ node.key = (Decides-eqb key node.key).0 on in ap (λ k. tag_at new (record { key = k })) same ∙ ap (option_map (λ (n : Node). n.tag)) step.is)
    (λ off e. ap (option_map (λ (n : Node). n.tag)) (step.others (record { key = key }) off) ∙ sym (tag_is old (record { key = key }))) refl
    ∙ sym (get_inserted (tags_from 0 old.slots) node.key value.tag key)))

-- links with one node less have one tag less
pub removed_tags : (old new : Links) (node : NodeId) → Removes old new node → tags_from 0 new.slots ≡ finmap.remove (tags_from 0 old.slots) node.key
removed_tags old new node step = finmap.same_map nat_cmp_total nat_cmp-IsAntisymmetric _ _ (λ key.
    tag_is new (record { key = key }) ∙ (by_test (λ b. eqb key node.key ≡ b → tag_at new (record { key = key }) ≡ cond b None (finmap.get (tags_from 0 old.slots) key)) (eqb key node.key)
    (λ on e. let same : key ≡ node.key = (Decides-eqb key node.key).0 on in ap (λ k. tag_at new (record { key = k })) same ∙ ap (option_map (λ (n : Node). n.tag)) step.is)
    (λ off e. ap (option_map (λ (n : Node). n.tag)) (step.others (record { key = key }) off) ∙ sym (tag_is old (record { key = key }))) refl
    ∙ sym (get_removed (tags_from 0 old.slots) node.key key)))
