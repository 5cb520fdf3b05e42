-- When two names or two places are the same.
use Rattle.std.proofs.Common.{◌≡◌, ℕ, Bool, true, false, Decides, sym, ap, ◌∙◌, refl}
use Rattle.std.proofs.lemmas.Bool.{false≢true}
use Rattle.std.proofs.lemmas.Bool.Decides.{Decides-like, Decides-eqb}
use Rattle.coll_order.specs.Lists.{same_node, same_place}
use Rattle.coll_order.specs.declared.places.NodeId.{NodeId}
use Rattle.coll_order.specs.declared.places.RingId.{RingId}
use Rattle.coll_order.specs.declared.places.Place.{Place}
use Rattle.coll_order.specs.declared.places.Place.TheVariants.{Head, After}

-- a claim about a test, from each of its answers
pub by_test : (P : Bool → Type 0) (b : Bool) → (b ≡ true → P true) → (b ≡ false → P false) → P b
by_test P true on off = on refl
by_test P false on off = off refl

-- no test has both answers
pub not_both : {b : Bool} {X : Type 0} → b ≡ true → b ≡ false → X
not_both on off = absurd (false≢true (sym off ∙ on))

-- the node of a key
node_at : ℕ → NodeId
node_at key = record { key = key }

-- the ring of a number
ring_at : ℕ → RingId
ring_at index = record { index = index }

-- the test tells when two names are equal
pub same_node_decides : (a b : NodeId) → Decides (same_node a b) (a ≡ b)
unfolding node_at
same_node_decides a b = Decides-like (same_node a b) (λ e. ap node_at e) (λ e. ap (λ (n : NodeId). n.key) e) (Decides-eqb a.key b.key)

-- the test tells when two places are equal
pub same_place_decides : (a b : Place) → Decides (same_place a b) (a ≡ b)
unfolding ring_at
same_place_decides (Head a) (Head b) = Decides-like (same_place (Head a) (Head b)) (λ e. ap Head (ap ring_at e)) (λ e. cc) (Decides-eqb a.index b.index)
same_place_decides (Head a) (After b) = (λ e. absurd (false≢true e), λ e. cc)
same_place_decides (After a) (Head b) = (λ e. absurd (false≢true e), λ e. cc)
same_place_decides (After a) (After b) = Decides-like (same_place (After a) (After b)) (λ e. ap After e) (λ e. cc) (same_node_decides a b)

-- names that pass the test are equal
pub same_node_is : (a b : NodeId) → same_node a b ≡ true → a ≡ b
same_node_is a b = (same_node_decides a b).0

-- a name is the same as itself
pub same_node_itself : (a : NodeId) → same_node a a ≡ true
same_node_itself a = (same_node_decides a a).1 refl

-- names that aren't equal fail the test
pub other_node : (a b : NodeId) → (a ≡ b → ⊥) → same_node a b ≡ false
other_node a b differ = by_test (λ t. same_node a b ≡ t → t ≡ false) (same_node a b) (λ e p. absurd (differ (same_node_is a b e))) (λ e p. refl) refl

-- which of two names comes first doesn't matter
pub other_node_turned : (a b : NodeId) → same_node a b ≡ false → same_node b a ≡ false
other_node_turned a b off = other_node b a (λ e. not_both ((same_node_decides a b).1 (sym e)) off)

-- places that pass the test are equal
pub same_place_is : (a b : Place) → same_place a b ≡ true → a ≡ b
same_place_is a b = (same_place_decides a b).0

-- a place is the same as itself
pub same_place_itself : (a : Place) → same_place a a ≡ true
same_place_itself a = (same_place_decides a a).1 refl

-- places that aren't equal fail the test
pub other_place : (a b : Place) → (a ≡ b → ⊥) → same_place a b ≡ false
other_place a b differ = by_test (λ t. same_place a b ≡ t → t ≡ false) (same_place a b) (λ e p. absurd (differ (same_place_is a b e))) (λ e p. refl) refl

-- which of two places comes first doesn't matter
pub other_place_turned : (a b : Place) → same_place a b ≡ false → same_place b a ≡ false
other_place_turned a b off = other_place b a (λ e. not_both ((same_place_decides a b).1 (sym e)) off)
