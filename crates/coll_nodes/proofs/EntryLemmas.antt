-- Entries taken out of a list and put in: what stands there afterwards.
use Rattle.std.proofs.Common.{◌≡◌, suc, Bool, true, false, ◌||◌, not, cond, List, [], ◌∷◌, Some, None, is_some, length, All, sym, ap, subst, ◌∙◌, refl}
use Rattle.std.proofs.lemmas.Bool.{false≢true}
use Rattle.std.proofs.lemmas.List.Elements.{All-nil, All-cons, All-head, All-tail}
use Rattle.coll_order.proofs.Sameness.{by_test}
use Rattle.coll_syntax.specs.Identifier.{same_id, has_id}
use Rattle.coll_syntax.specs.declared.identifiers.Id.{Id}
use Rattle.coll_lookups.proofs.Sameness.{same_id_decides, same_id_symmetric, neither, nor}
use Rattle.coll_nodes.specs.Placement.{entry_at, entries_after, entries_without}
use Rattle.coll_nodes.specs.Table.{ids_of}
use Rattle.coll_nodes.specs.WellFormed.{AreDistinct}
use Rattle.coll_nodes.specs.declared.entries.Entry.{Entry}

-- of three tests the first two may change places
pub turned : (a b c : Bool) → (a || (b || c)) ≡ (b || (a || c))
turned true true c = refl
turned true false c = refl
turned false b c = refl

-- what is apart from each entry stays apart when others are taken out
pub absent_without : (entries : List Entry) (id other : Id) → has_id (ids_of entries) other ≡ false → has_id (ids_of (entries_without entries id)) other ≡ false
absent_without [] id other e = refl
absent_without (entry ∷ entries) id other e =
    let h = neither _ _ e in
    by_test (λ b. has_id (ids_of (cond b (entry ∷ entries_without entries id) (entries_without entries id))) other ≡ false) (not (same_id id entry.id))
    (λ _. nor _ _ h.0 (absent_without entries id other h.1))
    (λ _. absent_without entries id other h.1)

-- what is taken out is there no more
pub taken_out : (entries : List Entry) (id : Id) → has_id (ids_of (entries_without entries id)) id ≡ false
taken_out [] id = refl
taken_out (entry ∷ entries) id = by_test (λ b. has_id (ids_of (cond (not b) (entry ∷ entries_without entries id) (entries_without entries id))) id ≡ false) (same_id id entry.id)
    (λ e. taken_out entries id)
    (λ e. nor _ _ e (taken_out entries id))

-- others are there as before
pub others_without : (entries : List Entry) (id other : Id) → same_id id other ≡ false → has_id (ids_of (entries_without entries id)) other ≡ has_id (ids_of entries) other
others_without [] id other apart = refl
others_without (entry ∷ entries) id other apart = by_test (λ b. has_id (ids_of (cond (not b) (entry ∷ entries_without entries id) (entries_without entries id))) other
    ≡ (same_id other entry.id || has_id (ids_of entries) other)) (same_id id entry.id)
    (λ e. let it : id ≡ entry.id = (same_id_decides id entry.id).0 e in
    let off : same_id other entry.id ≡ false = ap (same_id other) (sym it) ∙ (same_id_symmetric other id ∙ apart) in
    others_without entries id other apart ∙ ap (λ b. b || has_id (ids_of entries) other) (sym off))
    (λ e. ap (λ b. same_id other entry.id || b) (others_without entries id other apart))

-- each still stands once
pub distinct_without : (entries : List Entry) (id : Id) → AreDistinct same_id (ids_of entries) → AreDistinct same_id (ids_of (entries_without entries id))
distinct_without [] id d = tt
distinct_without (entry ∷ entries) id d = by_test (λ b. AreDistinct same_id (ids_of (cond b (entry ∷ entries_without entries id) (entries_without entries id)))) (not (same_id id entry.id))
    (λ e. (absent_without entries id entry.id d.0, distinct_without entries id d.1))
    (λ e. distinct_without entries id d.1)

-- what holds of each holds of those that stay
pub all_without : (P : Entry → Type 0) (entries : List Entry) (id : Id) → All P entries → All P (entries_without entries id)
all_without P [] id h = h
all_without P (entry ∷ entries) id h = by_test (λ b. All P (cond b (entry ∷ entries_without entries id) (entries_without entries id))) (not (same_id id entry.id))
    (λ e. All-cons P entry _ (All-head P entry entries h) (all_without P entries id (All-tail P entry entries h)))
    (λ e. all_without P entries id (All-tail P entry entries h))

-- where it isn't there, nothing is taken out
pub none_without : (entries : List Entry) (id : Id) → has_id (ids_of entries) id ≡ false → entries_without entries id ≡ entries
none_without [] id e = refl
none_without (entry ∷ entries) id e =
    let h = neither _ _ e in
    ap (λ b. cond (not b) (entry ∷ entries_without entries id) (entries_without entries id)) h.0 ∙ ap (λ es. entry ∷ es) (none_without entries id h.1)

-- of an identifier that is there, one entry is taken out
pub length_without : (entries : List Entry) (id : Id) → AreDistinct same_id (ids_of entries) → has_id (ids_of entries) id ≡ true → suc (length (entries_without entries id)) ≡ length entries
length_without [] id d p = absurd (false≢true p)
length_without (entry ∷ entries) id d p =
    by_test (λ b. same_id id entry.id ≡ b → suc (length (cond (not b) (entry ∷ entries_without entries id) (entries_without entries id))) ≡ suc (length entries)) (same_id id entry.id)
    (λ e _. let it : id ≡ entry.id = (same_id_decides id entry.id).0 e in
    ap (λ es. suc (length es)) (none_without entries id (ap (has_id (ids_of entries)) it ∙ d.0)))
    (λ e _. ap suc (length_without entries id d.1 (ap (λ b. b || has_id (ids_of entries) id) (sym e) ∙ p))) refl

-- what is apart from all entries and from the new one stays apart when that is put in
pub absent_after : (entries : List Entry) (target : Id) (entry : Entry) (other : Id) → has_id (ids_of entries) other ≡ false → same_id other entry.id ≡ false
    → has_id (ids_of (entries_after entries target entry)) other ≡ false
absent_after [] target entry other e apart = refl
absent_after (first ∷ entries) target entry other e apart =
    let h = neither _ _ e in
    by_test (λ b. has_id (ids_of (cond b (first ∷ entry ∷ entries) (first ∷ entries_after entries target entry))) other ≡ false) (same_id target first.id)
    (λ _. nor _ _ h.0 (nor _ _ apart h.1))
    (λ _. nor _ _ h.0 (absent_after entries target entry other h.1 apart))

-- each stands once, where the new one wasn't there
pub distinct_after : (entries : List Entry) (target : Id) (entry : Entry) → AreDistinct same_id (ids_of entries) → has_id (ids_of entries) entry.id ≡ false
    → AreDistinct same_id (ids_of (entries_after entries target entry))
distinct_after [] target entry d e = tt
distinct_after (first ∷ entries) target entry d e =
    let h = neither _ _ e in
    let apart : same_id first.id entry.id ≡ false = same_id_symmetric first.id entry.id ∙ h.0 in
    by_test (λ b. AreDistinct same_id (ids_of (cond b (first ∷ entry ∷ entries) (first ∷ entries_after entries target entry)))) (same_id target first.id)
    (λ _. (nor _ _ apart d.0, (h.1, d.1)))
    (λ _. (absent_after entries target entry first.id d.0 apart, distinct_after entries target entry d.1 h.1))

-- what holds of each, and of the new one, holds of all
pub all_after : (P : Entry → Type 0) (entries : List Entry) (target : Id) (entry : Entry) → All P entries → P entry → All P (entries_after entries target entry)
all_after P [] target entry h p = h
all_after P (first ∷ entries) target entry h p =
    let one = All-head P first entries h in
    let later = All-tail P first entries h in
    by_test (λ b. All P (cond b (first ∷ entry ∷ entries) (first ∷ entries_after entries target entry))) (same_id target first.id)
    (λ _. All-cons P first (entry ∷ entries) one (All-cons P entry entries p later))
    (λ _. All-cons P first (entries_after entries target entry) one (all_after P entries target entry later p))

-- one entry more is put in, where the target is there
pub length_after : (entries : List Entry) (target : Id) (entry : Entry) → has_id (ids_of entries) target ≡ true → length (entries_after entries target entry) ≡ suc (length entries)
length_after [] target entry p = absurd (false≢true p)
length_after (first ∷ entries) target entry p =
    by_test (λ b. same_id target first.id ≡ b → length (cond b (first ∷ entry ∷ entries) (first ∷ entries_after entries target entry)) ≡ suc (suc (length entries))) (same_id target first.id)
    (λ e _. refl)
    (λ e _. ap suc (length_after entries target entry (ap (λ b. b || has_id (ids_of entries) target) (sym e) ∙ p))) refl

-- the new entry is there, and the others as before
pub has_after : (entries : List Entry) (target : Id) (entry : Entry) (other : Id) → has_id (ids_of entries) target ≡ true → has_id (ids_of (entries_after entries target entry)) other
    ≡ (same_id other entry.id || has_id (ids_of entries) other)
has_after [] target entry other p = absurd (false≢true p)
has_after (first ∷ entries) target entry other p = by_test (λ b. same_id target first.id ≡ b → has_id (ids_of (cond b (first ∷ entry ∷ entries) (first ∷ entries_after entries target entry))) other
    ≡ (same_id other entry.id || (same_id other first.id || has_id (ids_of entries) other))) (same_id target first.id)
    (λ e _. turned (same_id other first.id) (same_id other entry.id) _)
    (λ e _. ap (λ b. same_id other first.id || b) (has_after entries target entry other (ap (λ b. b || has_id (ids_of entries) target) (sym e) ∙ p))
    ∙ turned (same_id other first.id) (same_id other entry.id) _) refl

-- an identifier has an entry where it is there
pub entry_there : (entries : List Entry) (id : Id) → has_id (ids_of entries) id ≡ is_some (entry_at entries id)
entry_there [] id = refl
entry_there (entry ∷ entries) id =
    by_test (λ b. (b || has_id (ids_of entries) id) ≡ is_some (cond b (Some entry) (entry_at entries id))) (same_id id entry.id) (λ _. refl) (λ _. entry_there entries id)

-- what holds of each entry, and is asked with its identifier, holds of the one that is found
pub entry_found : (P : Entry → Type 0) (entries : List Entry) (id : Id) (found : Entry) → All P entries → entry_at entries id ≡ Some found → P found × (found.id ≡ id)
entry_found P [] id found h e = absurd (none_some e) where
  none_some : None ≡ Some found → ⊥
  none_some e = cc
entry_found P (entry ∷ entries) id found h e =
    by_test (λ b. same_id id entry.id ≡ b → cond b (Some entry) (entry_at entries id) ≡ Some found → P found × (found.id ≡ id)) (same_id id entry.id)
    (λ on _. λ is. let same : entry ≡ found = cc in (subst P same (All-head P entry entries h), ap (λ (x : Entry). x.id) (sym same) ∙ sym ((same_id_decides id entry.id).0 on)))
    (λ off _. λ is. entry_found P entries id found (All-tail P entry entries h) is) refl e

-- an entry that is found has the identifier
pub found_id : (entries : List Entry) (id : Id) (found : Entry) → entry_at entries id ≡ Some found → found.id ≡ id
found_id entries id found e = (entry_found (λ _. Unit {0}) entries id found (λ k d lt. tt) e).1

-- what holds of each identifier holds of each entry's
pub by_ids : (P : Id → Type 0) (entries : List Entry) → All P (ids_of entries) → All (λ (entry : Entry). P entry.id) entries
by_ids P [] h = All-nil (λ (entry : Entry). P entry.id)
by_ids P (entry ∷ entries) h = All-cons (λ (e : Entry). P e.id) entry entries (All-head P entry.id (ids_of entries) h) (by_ids P entries (All-tail P entry.id (ids_of entries) h))

-- and the other way round
pub to_ids : (P : Id → Type 0) (entries : List Entry) → All (λ (entry : Entry). P entry.id) entries → All P (ids_of entries)
to_ids P [] h = All-nil P
to_ids P (entry ∷ entries) h = All-cons P entry.id (ids_of entries) (All-head (λ (e : Entry). P e.id) entry entries h) (to_ids P entries (All-tail (λ (e : Entry). P e.id) entry entries h))

-- what follows from what holds of each holds of each
pub all_so : {X : Type 0} (P Q : X → Type 0) → ((x : X) → P x → Q x) → (xs : List X) → All P xs → All Q xs
all_so P Q so [] h = All-nil Q
all_so P Q so (x ∷ xs) h = All-cons Q x xs (so x (All-head P x xs h)) (all_so P Q so xs (All-tail P x xs h))
