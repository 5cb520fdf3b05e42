-- A node whose keys lead nowhere is apart from all that stands.
use Rattle.std.proofs.Common.{◌≡◌, ℕ, Bool, true, false, ◌&&◌, ◌||◌, not, is_some, List, [], ◌∷◌, sym, ap, ap₂, ◌∙◌, refl}
use Rattle.coll_nodes.proofs.AddedNodes.{declared_apart, entry_apart}
use Rattle.coll_nodes.proofs.BodyReads.{id_found, name_found, text_found}
use Rattle.coll_nodes.specs.KeyedNodes.{FindsAll, leads_nowhere}
use Rattle.coll_lookups.specs.NodeLookUps.{node_named, node_with}
use Rattle.coll_nodes.specs.Moving.{is_free, IsApart, MayBeLoose}
use Rattle.coll_nodes.specs.SoundBodies.{IsShaped}
use Rattle.coll_nodes.specs.Table.{has_text, is_declared, name_of, text_of}
use Rattle.coll_nodes.specs.TableLayout.{TableLayout, declared_at}
use Rattle.coll_nodes.specs.declared.contents.Content.{Content}
use Rattle.coll_nodes.specs.declared.contents.Content.TheVariants as content
use Rattle.coll_nodes.specs.declared.declarations.Declaration.TheVariants as declaration
use Rattle.coll_nodes.specs.declared.node_keys.NodeKeys.{NodeKeys}

-- a test beside one that holds
alone : (b : Bool) → (b && true) ≡ b
alone true = refl
alone false = refl

-- a test beside one that fails
single : (b : Bool) → (b || false) ≡ b
single true = refl
single false = refl

-- of two tests that hold together each holds
both : (a b : Bool) → (not a && not b) ≡ true → (a ≡ false) × (b ≡ false)
both true b e = cc
both false true e = cc
both false false e = (refl, refl)

none : (b : Bool) → not b ≡ true → b ≡ false
none true e = cc
none false e = refl

module _ (layout : TableLayout) (shaped : IsShaped layout) where
  module _ (keys : NodeKeys) (found : FindsAll layout keys) where
    -- the name of a declaration leads nowhere where it isn't declared
    name_free : (name : List ℕ) → is_some (node_named keys.names name) ≡ is_declared (declared_at layout) name
    name_free name = sym (name_found layout shaped (node_named keys.names) name found.names)

    -- and a string where no element has it
    text_free : (text : List ℕ) → is_some (node_named keys.texts text) ≡ has_text (declared_at layout) (text ∷ [])
    text_free text = sym (single _ ∙ text_found layout shaped (node_named keys.texts) text found.texts)

    -- what a node that may be loose is found by leads nowhere where it is free
    pub free_is : (it : Content) → MayBeLoose it → leads_nowhere keys it ≡ is_free layout it
    free_is (content.Declared (declaration.Symbol name)) may = ap not (name_free name) ∙ sym (alone _)
    free_is (content.Declared (declaration.Element name text)) may = ap₂ (λ a b. not a && not b) (name_free name) (text_free text)
    free_is (content.Declared (declaration.Equivalence name symbol)) may = ap not (name_free name) ∙ sym (alone _)
    free_is (content.Begun name ring) may = absurd may
    free_is (content.Placed entry) may = ap not (sym (id_found layout shaped (node_with keys.placed) entry.id found.ids))

  -- a node that is free is apart
  pub free_apart : (it : Content) → MayBeLoose it → is_free layout it ≡ true → IsApart layout it
  free_apart (content.Declared new) may free =
      let parts = both (is_declared (declared_at layout) (name_of new)) (has_text (declared_at layout) (text_of new)) free in
      declared_apart layout shaped new parts.0 parts.1
  free_apart (content.Begun name ring) may free = absurd may
  free_apart (content.Placed entry) may free = entry_apart layout shaped entry (none _ free)
