-- What is done in each section, seen on all entries joined.
use Rattle.std.proofs.Common.{◌≡◌, suc, true, false, ◌||◌, not, List, [], ◌∷◌, ◌++◌, length, map, All, sym, ap, subst, ◌∙◌, refl}
use Rattle.std.proofs.lemmas.Bool.{false≢true}
use Rattle.std.proofs.lemmas.List.Elements.{filter-append, All-nil, All-cons, All-head, All-tail}
use Rattle.coll_order.proofs.Sameness.{by_test}
use Rattle.coll_syntax.specs.Identifier.{same_id, has_id}
use Rattle.coll_syntax.specs.declared.identifiers.Id.{Id}
use Rattle.coll_nodes.proofs.EntryLemmas.{distinct_without, none_without}
use Rattle.coll_lookups.proofs.Sameness.{same_id_decides, neither, nor}
use Rattle.coll_nodes.specs.Placement.{entries_after, entries_without, without, placed_after}
use Rattle.coll_nodes.specs.Table.{Section, ids_of, joined_entries, section_names, named}
use Rattle.coll_nodes.specs.WellFormed.{AreDistinct, IsNamed, FirstIsUnnamed}
use Rattle.coll_nodes.specs.declared.entries.Entry.{Entry}

-- a target that isn't in a list changes nothing there
after_none : (entries : List Entry) (target : Id) (entry : Entry) → has_id (ids_of entries) target ≡ false → entries_after entries target entry ≡ entries
after_none [] target entry e = refl
after_none (first ∷ entries) target entry e =
    let h = neither _ _ e in
    let off : same_id target first.id ≡ false = h.0 in
    rw off (ap (λ es. first ∷ es) (after_none entries target entry h.1))

-- a target in the first of two lists
after_left : (xs ys : List Entry) (target : Id) (entry : Entry) → has_id (ids_of xs) target ≡ true → entries_after (xs ++ ys) target entry ≡ entries_after xs target entry ++ ys
after_left [] ys target entry e = absurd (false≢true e)
after_left (first ∷ xs) ys target entry e =
    by_test (λ b. same_id target first.id ≡ b → entries_after (first ∷ (xs ++ ys)) target entry ≡ entries_after (first ∷ xs) target entry ++ ys) (same_id target first.id)
    (λ _. λ p. rw p refl)
    (λ _. λ p. rw p (ap (λ es. first ∷ es) (after_left xs ys target entry (ap (λ b. b || has_id (ids_of xs) target) (sym p) ∙ e)))) refl

-- a target that isn't in the first of two lists
pub after_right : (xs ys : List Entry) (target : Id) (entry : Entry) → has_id (ids_of xs) target ≡ false → entries_after (xs ++ ys) target entry ≡ xs ++ entries_after ys target entry
after_right [] ys target entry e = refl
after_right (first ∷ xs) ys target entry e =
    let h = neither _ _ e in
    let off : same_id target first.id ≡ false = h.0 in
    rw off (ap (λ es. first ∷ es) (after_right xs ys target entry h.1))

-- the second of two lists in which each stands once
distinct_right : (xs ys : List Entry) → AreDistinct same_id (ids_of (xs ++ ys)) → AreDistinct same_id (ids_of ys)
distinct_right [] ys d = d
distinct_right (x ∷ xs) ys d = distinct_right xs ys d.1

-- what isn't in two lists isn't in the second
absent_right : (xs ys : List Entry) (id : Id) → has_id (ids_of (xs ++ ys)) id ≡ false → has_id (ids_of ys) id ≡ false
absent_right [] ys id e = e
absent_right (x ∷ xs) ys id e = absent_right xs ys id (neither _ _ e).1

-- what is in the first of two lists isn't in the second
apart_right : (xs ys : List Entry) (id : Id) → AreDistinct same_id (ids_of (xs ++ ys)) → has_id (ids_of xs) id ≡ true → has_id (ids_of ys) id ≡ false
apart_right [] ys id d p = absurd (false≢true p)
apart_right (x ∷ xs) ys id d p =
    by_test (λ b. same_id id x.id ≡ b → has_id (ids_of ys) id ≡ false) (same_id id x.id)
    (λ _. λ e. ap (has_id (ids_of ys)) ((same_id_decides id x.id).0 e) ∙ absent_right xs ys x.id d.0)
    (λ _. λ e. apart_right xs ys id d.1 (ap (λ b. b || has_id (ids_of xs) id) (sym e) ∙ p)) refl

-- placed in each section, or in all entries joined
pub joined_after : (sections : List Section) (target : Id) (entry : Entry) → AreDistinct same_id (ids_of (joined_entries sections)) → joined_entries (placed_after sections target entry)
    ≡ entries_after (joined_entries sections) target entry
joined_after [] target entry d = refl
joined_after (section ∷ sections) target entry d =
    let entries = section.entries in
    let rest = joined_entries sections in
    let later = joined_after sections target entry (distinct_right entries rest d) in
    by_test (λ b. has_id (ids_of entries) target ≡ b → entries_after entries target entry ++ joined_entries (placed_after sections target entry) ≡ entries_after (entries ++ rest) target entry)
    (has_id (ids_of entries) target)
    (λ _. λ p. ap (λ es. entries_after entries target entry ++ es) (later ∙ after_none rest target entry (apart_right entries rest target d p)) ∙ sym (after_left entries rest target entry p))
    (λ _. λ p. ap (λ es. es ++ joined_entries (placed_after sections target entry)) (after_none entries target entry p)
    ∙ (ap (λ es. entries ++ es) later ∙ sym (after_right entries rest target entry p))) refl

-- taken out of each section, or of all entries joined
pub joined_without : (sections : List Section) (id : Id) → joined_entries (without sections id) ≡ entries_without (joined_entries sections) id
joined_without [] id = refl
joined_without (section ∷ sections) id =
    ap (λ es. entries_without section.entries id ++ es) (joined_without sections id)
    ∙ sym (filter-append (λ (entry : Entry). not (same_id id entry.id)) section.entries (joined_entries sections))

-- moved in each section, or in all entries joined
pub joined_moved : (sections : List Section) (id target : Id) (entry : Entry) → AreDistinct same_id (ids_of (joined_entries sections))
    → joined_entries (placed_after (without sections id) target entry) ≡ entries_after (entries_without (joined_entries sections) id) target entry
joined_moved sections id target entry d =
    let taken = joined_without sections id in
    let distinct : AreDistinct same_id (ids_of (joined_entries (without sections id))) = subst (λ es. AreDistinct same_id (ids_of es)) (sym taken) (distinct_without (joined_entries sections) id d) in
    joined_after (without sections id) target entry distinct ∙ ap (λ es. entries_after es target entry) taken

-- sections with other entries
module _ (change : List Entry → List Entry) where
  abbrev changed : List Section → List Section
  changed sections = map (λ (section : Section). record section { entries = change section.entries }) sections

  -- have their names
  pub names_stay : (sections : List Section) → section_names (changed sections) ≡ section_names sections
  names_stay [] = refl
  names_stay (section ∷ sections) = ap (λ names. named section.name ++ names) (names_stay sections)

  -- and are as many
  pub as_many : (sections : List Section) → length (changed sections) ≡ length sections
  as_many [] = refl
  as_many (section ∷ sections) = ap suc (as_many sections)

  named_stay : (sections : List Section) → All IsNamed sections → All IsNamed (changed sections)
  named_stay [] h = All-nil IsNamed
  named_stay (section ∷ sections) h = All-cons IsNamed _ (changed sections) (All-head IsNamed section sections h) (named_stay sections (All-tail IsNamed section sections h))

  -- the first alone has no name still
  pub first_stays : (sections : List Section) → FirstIsUnnamed sections → FirstIsUnnamed (changed sections)
  first_stays [] h = h
  first_stays (section ∷ sections) h = (h.0, named_stay sections h.1)

-- where an identifier isn't there, nothing is taken out
pub without_none : (sections : List Section) (id : Id) → has_id (ids_of (joined_entries sections)) id ≡ false → without sections id ≡ sections
without_none [] id e = refl
without_none (section ∷ sections) id e =
    let here = absent_left section.entries (joined_entries sections) id e in
    let later = absent_right section.entries (joined_entries sections) id e in
    ap (λ es. record section { entries = es } ∷ without sections id) (none_without section.entries id here) ∙ ap (λ ss. section ∷ ss) (without_none sections id later) where
      absent_left : (xs ys : List Entry) (id : Id) → has_id (ids_of (xs ++ ys)) id ≡ false → has_id (ids_of xs) id ≡ false
      absent_left [] ys id e = refl
      absent_left (x ∷ xs) ys id e = let h = neither _ _ e in nor _ _ h.0 (absent_left xs ys id h.1)
