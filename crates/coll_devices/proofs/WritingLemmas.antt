-- How writes one after another add up to the bytes sent.
use Rattle.std.proofs.Common.{◌≡◌, ℕ, ◌-◌, ◌&&◌, nat_lt, if◌then◌else◌, List, ◌++◌, length, take, drop, Option, Result, Ok, Err, IsErr, sym, ap, ◌∙◌, append_assoc, take-append-drop}
use Rattle.std.specs.Io.KnownBytes.{Appends}
use Rattle.std.proofs.KnownBytes.{Appends-trans}
use Rattle.std.proofs.lemmas.List.{take_rest}
use Rattle.std.proofs.lemmas.Bool.{ne_eqb, false≢true}
use Rattle.coll_devices.specs.Devices.{raised, took_none, AppendsPrefix, Sends}

-- the bytes done and the rest, once n more of them are done
pub done_more : (bytes done rest : List ℕ) (n : ℕ) → bytes ≡ done ++ rest → bytes ≡ (done ++ take n rest) ++ take (length rest - n) (drop n rest)
done_more bytes done rest n is =
    is ∙ ap (λ l. done ++ l) (sym (take-append-drop n rest)) ∙ sym (append_assoc done (take n rest) (drop n rest)) ∙ ap (λ l. (done ++ take n rest) ++ l) (sym (take_rest rest n))

-- a write that took some bytes counts nothing
pub counts_nothing : (old n : ℕ) (bytes : List ℕ) → (n ≡ 0 → ⊥) → (if took_none n bytes then raised old else old) ≡ old
counts_nothing old n bytes some = ap (λ b. if b && nat_lt 0 (length bytes) then raised old else old) (ne_eqb n 0 some)

-- a prefix of what comes next is, behind what was sent, a prefix of the whole
pub AppendsPrefix-after : (a b c : Option (List ℕ)) (sent rest : List ℕ) → Appends a b sent → AppendsPrefix b c rest → AppendsPrefix a c (sent ++ rest)
AppendsPrefix-after a b c sent rest done part =
    (sent ++ part.0, part.1, ap (λ l. sent ++ l) part.2 ∙ sym (append_assoc sent part.0 part.1), Appends-trans a b c sent part.0 done part.3)

-- a prefix of what was to be sent first is a prefix of the whole
pub AppendsPrefix-before : (a b : Option (List ℕ)) (first rest : List ℕ) → AppendsPrefix a b first → AppendsPrefix a b (first ++ rest)
AppendsPrefix-before a b first rest part =
    (part.0, part.1 ++ rest, ap (λ l. l ++ rest) part.2 ∙ append_assoc part.0 part.1 rest, part.3)

-- a call that stopped sent a prefix of the whole
pub Sends-stopped : {T E : Type 0} (a b : Option (List ℕ)) (whole : List ℕ) (r : Result T E) → IsErr r → AppendsPrefix a b whole → Sends a b whole r
Sends-stopped a b whole (Ok x) stopped part = absurd (false≢true stopped)
Sends-stopped a b whole (Err e) stopped part = part

-- what a last call sends stands behind what was sent
pub Sends-after : {T E : Type 0} (a b c : Option (List ℕ)) (sent rest : List ℕ) (r : Result T E) → Appends a b sent → Sends b c rest r → Sends a c (sent ++ rest) r
Sends-after a b c sent rest (Ok x) done last = Appends-trans a b c sent rest done last
Sends-after a b c sent rest (Err e) done last = AppendsPrefix-after a b c sent rest done last
