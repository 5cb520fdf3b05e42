-- What is written of a whole, and what is left of it.
use Rattle.std.proofs.Common.{◌≡◌, ℕ, List, [], ◌++◌, Option, Result, IsErr, sym, ap, subst, ◌∙◌, append_assoc, append-nil}
use Rattle.std.specs.Io.KnownBytes.{Appends}
use Rattle.std.proofs.KnownBytes.{Appends-trans}
use Rattle.coll_devices.specs.Devices.{AppendsPrefix, Sends}
use Rattle.coll_devices.proofs.WritingLemmas.{AppendsPrefix-before, AppendsPrefix-after, Sends-stopped, Sends-after}

-- a call that stops in the first part of a whole
pub stops_first : {T E : Type 0} (a b : Option (List ℕ)) (whole first rest : List ℕ) (r : Result T E) → whole ≡ first ++ rest → IsErr r → AppendsPrefix a b first → Sends a b whole r
stops_first a b whole first rest r same stopped part = Sends-stopped a b whole r stopped (subst (AppendsPrefix a b) (sym same) (AppendsPrefix-before a b first rest part))

-- a last call that writes the rest of a whole
pub writes_rest : {T E : Type 0} (a b c : Option (List ℕ)) (whole first rest : List ℕ) (r : Result T E) → whole ≡ first ++ rest → Appends a b first → Sends b c rest r → Sends a c whole r
writes_rest a b c whole first rest r same done last = subst (λ bytes. Sends a c bytes r) (sym same) (Sends-after a b c first rest r done last)

-- of a whole this is left, and what stands before it was written
abbrev pub IsLeft : (whole left : List ℕ) → (before now : Option (List ℕ)) → Type 0
IsLeft whole left before now = (done : List ℕ) × (whole ≡ done ++ left) × Appends before now done

-- the next part is written
pub left_less : (whole left part rest : List ℕ) (a b c : Option (List ℕ)) → left ≡ part ++ rest → IsLeft whole left a b → Appends b c part → IsLeft whole rest a c
left_less whole left part rest a b c next h more = (
  h.0 ++ part,
  h.1 ∙ ap (λ xs. h.0 ++ xs) next ∙ sym (append_assoc h.0 part rest),
  Appends-trans a b c h.0 part h.2 more,
)

-- the next part stops
pub left_prefix : (whole left part rest : List ℕ) (a b c : Option (List ℕ)) → left ≡ part ++ rest → IsLeft whole left a b → AppendsPrefix b c part → AppendsPrefix a c whole
left_prefix whole left part rest a b c next h prefix =
    subst (AppendsPrefix a c) (sym (h.1 ∙ ap (λ xs. h.0 ++ xs) next))
    (AppendsPrefix-after a b c h.0 (part ++ rest) h.2 (AppendsPrefix-before b c part rest prefix))

-- nothing is left
pub left_none : (whole left : List ℕ) (a b : Option (List ℕ)) → left ≡ [] → IsLeft whole left a b → Appends a b whole
left_none whole left a b none h = subst (Appends a b) (sym (h.1 ∙ ap (λ xs. h.0 ++ xs) none ∙ append-nil h.0)) h.2
