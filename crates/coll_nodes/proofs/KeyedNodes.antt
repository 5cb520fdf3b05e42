-- Nodes by their keys, where all look-ups change or stay.
use Rattle.std.proofs.Common.{◌≡◌, ℕ, List, Option, OnOk, Result, Ok, Err, sym, subst, refl}
use Rattle.coll_order.specs.declared.places.RingId.{RingId}
use Rattle.coll_order.proofs.Sameness.{not_both}
use Rattle.coll_nodes.specs.KeyedNodes.{HasKeysOf, HasKeyOfSection, KeepsKeys}
use Rattle.coll_nodes.specs.declared.contents.Content.{Content}
use Rattle.coll_nodes.specs.declared.contents.Content.TheVariants as content
use Rattle.coll_nodes.specs.declared.node_keys.NodeKeys.{NodeKeys}

-- a section is found by its name alone
pub section_keys : (keys : NodeKeys) (name : Option (List ℕ)) (ring : RingId) → HasKeyOfSection keys name → HasKeysOf keys (content.Begun name ring)
section_keys keys name ring has = record { names = λ key is. not_both is refl; texts = λ key is. not_both is refl; sections = has; ids = λ key is. not_both is refl }

-- where its name was reserved
pub section_keys_if : {X Y : Type 0} (result : Result X Y) (keys : NodeKeys) (name : Option (List ℕ)) (ring : RingId) (it : Content) → it ≡ content.Begun name ring
    → OnOk result (HasKeyOfSection keys name) → OnOk result (HasKeysOf keys it)
section_keys_if (Ok x) keys name ring it is has = subst (HasKeysOf keys) (sym is) (section_keys keys name ring has)
section_keys_if (Err e) keys name ring it is has = has

-- a node has its keys where all are kept
pub keys_stay : (old new : NodeKeys) (it : Content) → KeepsKeys old new → HasKeysOf old it → HasKeysOf new it
keys_stay old new it kept has = record {
  names = λ key is. kept.names key (has.names key is);
  texts = λ key is. kept.texts key (has.texts key is);
  sections = λ key is. kept.sections key (has.sections key is);
  ids = λ key is. kept.ids key (has.ids key is);
}

-- each key stays where nothing changes
pub all_kept : (keys : NodeKeys) → KeepsKeys keys keys
all_kept keys = record { names = λ key here. here; texts = λ key here. here; sections = λ key here. here; ids = λ key here. here }
