-- A section moved after another: the sections are the same ones, in another order.
use Rattle.std.proofs.Common.{◌≡◌, ◌≤◌, ℕ, ◌+◌, Bool, true, false, ◌||◌, not, cond, if◌then◌else◌, List, [], ◌∷◌, ◌++◌}
use Rattle.std.proofs.Common.{Option, Some, None, length, All, sym, ap, subst, ◌∙◌, refl, arith, length-append}
use Rattle.std.specs.List.{list_any}
use Rattle.std.proofs.lemmas.Bool.{false≢true}
use Rattle.std.proofs.lemmas.List.{map-append}
use Rattle.std.proofs.lemmas.List.Elements.{All-nil, All-cons, All-head, All-tail, All-append, All-filter}
use Rattle.coll_order.proofs.Sameness.{by_test}
use Rattle.coll_syntax.specs.Identifier.{same_id, same_name, has_id, has_name}
use Rattle.coll_syntax.specs.declared.identifiers.Id.{Id}
use Rattle.coll_table.proofs.DeltaPlacing.{all_prefix, all_back}
use Rattle.coll_lookups.proofs.Sameness.{same_name_decides, same_name_symmetric, same_id_decides, same_id_itself, neither}
use Rattle.coll_nodes.specs.Placement.{has_section_name, sections_named, sections_without, sections_after, section_moved}
use Rattle.coll_nodes.specs.Table.{Section, ids_of, joined_entries, section_names, named}
use Rattle.coll_nodes.specs.WellFormed.{AreDistinct, IsNamed, FirstIsUnnamed}
use Rattle.coll_nodes.specs.declared.entries.Entry.{Entry}

-- Lists in which each stands once, by how often each stands there.

-- one where a test holds, and else none
abbrev pub one_if : Bool → ℕ
one_if b = if b then 1 else 0

module _ {X : Type 0} (same : X → X → Bool) where
  -- how often one stands in a list
  abbrev pub often : X → List X → ℕ
  often x [] = 0
  often x (y ∷ ys) = one_if (same x y) + often x ys

  -- in two lists it stands as often as in the one and in the other
  pub often_append : (x : X) (xs ys : List X) → often x (xs ++ ys) ≡ often x xs + often x ys
  often_append x [] ys = omega arith
  often_append x (y ∷ xs) ys = let e = often_append x xs ys in omega arith

  -- what isn't there stands nowhere
  pub often_none : (x : X) (xs : List X) → list_any (same x) xs ≡ false → often x xs ≡ 0
  often_none x [] e = refl
  often_none x (y ∷ xs) e =
      let h = neither (same x y) (list_any (same x) xs) e in
      let off : one_if (same x y) ≡ 0 = ap one_if h.0 in
      let later : often x xs ≡ 0 = often_none x xs h.1 in omega (arith, off, later)

  -- what is there stands once at least
  pub often_some : (x : X) (xs : List X) → list_any (same x) xs ≡ true → 1 ≤ often x xs
  often_some x [] e = absurd (false≢true e)
  often_some x (y ∷ xs) e = by_test (λ b. (b || list_any (same x) xs) ≡ true → 1 ≤ one_if b + often x xs) (same x y)
      (λ _ _. omega arith)
      (λ _ there. let later = often_some x xs there in omega arith) e

  -- what stands nowhere isn't there
  none_often : (x : X) (xs : List X) → often x xs ≤ 0 → list_any (same x) xs ≡ false
  none_often x xs few = by_test (λ b. list_any (same x) xs ≡ b → b ≡ false) (list_any (same x) xs)
      (λ _ e. let some = often_some x xs e in absurd (omega arith))
      (λ _ _. refl) refl

  module _ (decides : (a b : X) → same a b ≡ true → a ≡ b) (itself : (a : X) → same a a ≡ true) where
    -- where each stands once, none stands more often
    pub once_distinct : (x : X) (xs : List X) → AreDistinct same xs → often x xs ≤ 1
    once_distinct x [] d = omega arith
    once_distinct x (y ∷ xs) d = by_test (λ b. same x y ≡ b → one_if b + often x xs ≤ 1) (same x y)
        (λ _ e. let none = often_none x xs (ap (λ z. list_any (same z) xs) (decides x y e) ∙ d.0) in omega arith)
        (λ _ _. let later = once_distinct x xs d.1 in omega arith) refl

    -- where none stands more often than once, each stands once
    pub distinct_once : (xs : List X) → ((x : X) → often x xs ≤ 1) → AreDistinct same xs
    distinct_once [] h = tt
    distinct_once (y ∷ xs) h =
        let one : one_if (same y y) ≡ 1 = ap one_if (itself y) in
        let all : one_if (same y y) + often y xs ≤ 1 = h y in
        (none_often y xs (omega (arith, one, all)), distinct_once xs (λ x. at_most (one_if (same x y)) (often x xs) (h x))) where
          at_most : (a b : ℕ) → a + b ≤ 1 → b ≤ 1
          at_most a b e = omega arith

-- names of which none stands more often than once stand once each, and the other way round
names_once : (names : List (List ℕ)) → ((x : List ℕ) → often same_name x names ≤ 1) → AreDistinct same_name names
names_once = distinct_once same_name (λ a b. (same_name_decides a b).0) (λ a. (same_name_decides a a).1 refl)

name_once : (x : List ℕ) (names : List (List ℕ)) → AreDistinct same_name names → often same_name x names ≤ 1
name_once = once_distinct same_name (λ a b. (same_name_decides a b).0) (λ a. (same_name_decides a a).1 refl)

-- so do identifiers
ids_once : (ids : List Id) → ((x : Id) → often same_id x ids ≤ 1) → AreDistinct same_id ids
ids_once = distinct_once same_id (λ a b. (same_id_decides a b).0) same_id_itself

id_once : (x : Id) (ids : List Id) → AreDistinct same_id ids → often same_id x ids ≤ 1
id_once = once_distinct same_id (λ a b. (same_id_decides a b).0) same_id_itself

-- Names of sections, some of which have none.

-- a name is that of the first section, or of one behind it
has_named : (own : Option (List ℕ)) (names : List (List ℕ)) (x : List ℕ) → has_name (named own ++ names) x ≡ (has_section_name x own || has_name names x)
has_named None names x = refl
has_named (Some own) names x = refl

-- where each stands once, the first is none of those behind it
distinct_named : (own : Option (List ℕ)) (names : List (List ℕ)) → AreDistinct same_name (named own ++ names) → AreDistinct same_name names
    × ((x : List ℕ) → has_section_name x own ≡ true → has_name names x ≡ false)
distinct_named None names d = (d, λ x e. absurd (false≢true e))
distinct_named (Some own) names d = (d.1, λ x e. ap (has_name names) ((same_name_decides x own).0 e) ∙ d.0)

-- a section that has a name has no other
other_name : (own : Option (List ℕ)) (name other : List ℕ) → same_name name other ≡ false → has_section_name name own ≡ true → has_section_name other own ≡ false
other_name None name other apart on = refl
other_name (Some own) name other apart on = ap (same_name other) (sym ((same_name_decides name own).0 on)) ∙ (same_name_symmetric other name ∙ apart)

-- Sums over sections.

-- what sections measure together, each by this measure
abbrev pub total : (Section → ℕ) → List Section → ℕ
total measure [] = 0
total measure (section ∷ sections) = measure section + total measure sections

module _ (measure : Section → ℕ) where
  total_append : (xs ys : List Section) → total measure (xs ++ ys) ≡ total measure xs + total measure ys
  total_append [] ys = omega arith
  total_append (x ∷ xs) ys = let e = total_append xs ys in omega arith

  -- those of a name and the others are all
  total_split : (sections : List Section) (name : List ℕ) → total measure (sections_without sections name) + total measure (sections_named sections name) ≡ total measure sections
  total_split [] name = refl
  total_split (section ∷ sections) name =
      let later = total_split sections name in
      by_test (λ b. total measure (cond (not b) (section ∷ sections_without sections name) (sections_without sections name)) + total measure
      (cond b (section ∷ sections_named sections name) (sections_named sections name)) ≡ measure section + total measure sections) (has_section_name name section.name)
      (λ _. omega arith) (λ _. omega arith)

  -- where none has a name, nothing is put after it
  total_after_none : (sections : List Section) (after : List ℕ) (more : List Section) → has_name (section_names sections) after ≡ false → total measure (sections_after sections after more)
      ≡ total measure sections
  total_after_none [] after more e = refl
  total_after_none (section ∷ sections) after more e =
      let h = neither (has_section_name after section.name) (has_name (section_names sections) after) (sym (has_named section.name (section_names sections) after) ∙ e) in
      ap (λ b. measure section + total measure (cond b more [] ++ sections_after sections after more)) h.0 ∙ ap (λ n. measure section + n) (total_after_none sections after more h.1)

  -- where one has it, what is put after it is there once more
  total_after : (sections : List Section) (after : List ℕ) (more : List Section) → AreDistinct same_name (section_names sections) → has_name (section_names sections) after ≡ true
      → total measure (sections_after sections after more) ≡ total measure sections + total measure more
  total_after [] after more d e = absurd (false≢true e)
  total_after (section ∷ sections) after more d e =
      let apart = distinct_named section.name (section_names sections) d in
      by_test (λ b. has_section_name after section.name ≡ b → (b || has_name (section_names sections) after) ≡ true
      → measure section + total measure (cond b more [] ++ sections_after sections after more) ≡ measure section + total measure sections + total measure more)
      (has_section_name after section.name)
      (λ _ on _.
      let none = total_after_none sections after more (apart.1 after on) in
      let both = total_append more (sections_after sections after more) in omega arith)
      (λ _ _ there. let later = total_after sections after more apart.0 there in omega arith)
      refl (sym (has_named section.name (section_names sections) after) ∙ e)

-- The names that are left when one is taken out.

-- how often a name stands, counted section by section
name_counts : (x : List ℕ) (sections : List Section) → total (λ (s : Section). often same_name x (named s.name)) sections ≡ often same_name x (section_names sections)
name_counts x [] = refl
name_counts x (s ∷ sections) = let e = name_counts x sections in let l = often_append same_name x (named s.name) (section_names sections) in omega arith

-- each still stands once
distinct_stays : (sections : List Section) (name : List ℕ) → AreDistinct same_name (section_names sections) → AreDistinct same_name (section_names (sections_without sections name))
distinct_stays sections name d = names_once (section_names (sections_without sections name)) (λ x.
    let all = name_counts x sections in
    let left = name_counts x (sections_without sections name) in
    let cut = total_split (λ (s : Section). often same_name x (named s.name)) sections name in
    let once = name_once x (section_names sections) d in omega arith)

-- another name is there as before
other_stays : (sections : List Section) (name other : List ℕ) → same_name name other ≡ false → has_name (section_names sections) other ≡ true
    → has_name (section_names (sections_without sections name)) other ≡ true
other_stays [] name other apart e = absurd (false≢true e)
other_stays (section ∷ sections) name other apart e =
    let later = other_stays sections name other apart in
    by_test (λ b. has_section_name name section.name ≡ b → (has_section_name other section.name || has_name (section_names sections) other) ≡ true
    → has_name (section_names (cond (not b) (section ∷ sections_without sections name) (sections_without sections name))) other ≡ true) (has_section_name name section.name)
    (λ _ on there. later (ap (λ b. b || has_name (section_names sections) other) (sym (other_name section.name name other apart on)) ∙ there))
    (λ _ _ there. has_named section.name (section_names (sections_without sections name)) other
    ∙ by_test (λ b. (b || has_name (section_names sections) other) ≡ true → (b || has_name (section_names (sections_without sections name)) other) ≡ true) (has_section_name other section.name)
    (λ _ _. refl) (λ _ rest. later rest) there)
    refl (sym (has_named section.name (section_names sections) other) ∙ e)

-- A section moved.

module _ (sections : List Section) (name after : List ℕ) (d : AreDistinct same_name (section_names sections)) (there : has_name (section_names sections) after ≡ true)
    (apart : same_name name after ≡ false) where
  -- the sections measure together what they did, by any measure
  pub total_moved : (measure : Section → ℕ) → total measure (section_moved sections name after) ≡ total measure sections
  total_moved measure =
      total_after measure (sections_without sections name) after (sections_named sections name) (distinct_stays sections name d) (other_stays sections name after apart there)
      ∙ total_split measure sections name

  -- so their number stays
  pub section_moved_number : length (section_moved sections name after) ≡ length sections
  section_moved_number = sym (counted (section_moved sections name after)) ∙ (total_moved (λ _. 1) ∙ counted sections) where
    counted : (ss : List Section) → total (λ _. 1) ss ≡ length ss
    counted [] = refl
    counted (s ∷ ss) = let e = counted ss in omega arith

  -- and that of their entries
  pub section_moved_entries : length (joined_entries (section_moved sections name after)) ≡ length (joined_entries sections)
  section_moved_entries = sym (counted (section_moved sections name after)) ∙ (total_moved (λ (s : Section). length s.entries) ∙ counted sections) where
    counted : (ss : List Section) → total (λ (s : Section). length s.entries) ss ≡ length (joined_entries ss)
    counted [] = refl
    counted (s ∷ ss) = let e = counted ss in let l = length-append s.entries (joined_entries ss) in omega arith

  -- each name stands as often as it did
  name_often : (x : List ℕ) → often same_name x (section_names (section_moved sections name after)) ≡ often same_name x (section_names sections)
  name_often x = sym (name_counts x (section_moved sections name after)) ∙ (total_moved (λ (s : Section). often same_name x (named s.name)) ∙ name_counts x sections)

  -- so does each identifier
  id_often : (x : Id) → often same_id x (ids_of (joined_entries (section_moved sections name after))) ≡ often same_id x (ids_of (joined_entries sections))
  id_often x = sym (counted (section_moved sections name after)) ∙ (total_moved (λ (s : Section). often same_id x (ids_of s.entries)) ∙ counted sections) where
    counted : (ss : List Section) → total (λ (s : Section). often same_id x (ids_of s.entries)) ss ≡ often same_id x (ids_of (joined_entries ss))
    counted [] = refl
    counted (s ∷ ss) =
        let e = counted ss in
        let l = ap (often same_id x) (map-append (λ (entry : Entry). entry.id) s.entries (joined_entries ss)) ∙ often_append same_id x (ids_of s.entries) (ids_of (joined_entries ss)) in omega arith

  -- each name stands once
  pub section_moved_names : AreDistinct same_name (section_names (section_moved sections name after))
  section_moved_names = names_once (section_names (section_moved sections name after)) (λ x. subst (λ n. n ≤ 1) (sym (name_often x)) (name_once x (section_names sections) d))

  -- each identifier stands once
  pub section_moved_ids : AreDistinct same_id (ids_of (joined_entries sections)) → AreDistinct same_id (ids_of (joined_entries (section_moved sections name after)))
  section_moved_ids once = ids_once (ids_of (joined_entries (section_moved sections name after))) (λ x. subst (λ n. n ≤ 1) (sym (id_often x)) (id_once x (ids_of (joined_entries sections)) once))

  -- what was placed is placed
  pub section_moved_has : (x : Id) → has_id (ids_of (joined_entries sections)) x ≡ true → has_id (ids_of (joined_entries (section_moved sections name after))) x ≡ true
  section_moved_has x here = by_test (λ b. has_id (ids_of (joined_entries (section_moved sections name after))) x ≡ b → b ≡ true)
      (has_id (ids_of (joined_entries (section_moved sections name after))) x)
      (λ _ _. refl)
      (λ _ off. let none = often_none same_id x (ids_of (joined_entries (section_moved sections name after))) off in
      let some = often_some same_id x (ids_of (joined_entries sections)) here in
      let same = id_often x in absurd (omega arith)) refl

-- what holds of each section, and of each of some more, holds of each when these are put after one
all_sections_after : (P : Section → Type 0) (sections : List Section) (after : List ℕ) (more : List Section) → All P sections → All P more → All P (sections_after sections after more)
all_sections_after P [] after more h k = h
all_sections_after P (section ∷ sections) after more h k =
    let later = all_sections_after P sections after more (All-tail P section sections h) k in
    All-cons P section (cond (has_section_name after section.name) more [] ++ sections_after sections after more) (All-head P section sections h)
    (All-append P (cond (has_section_name after section.name) more []) (sections_after sections after more)
    (by_test (λ b. All P (cond b more [])) (has_section_name after section.name) (λ _. k) (λ _. All-nil P)) later)

-- what holds of each section holds of each when one is moved
pub all_sections_moved : (P : Section → Type 0) (sections : List Section) (name after : List ℕ) → All P sections → All P (section_moved sections name after)
all_sections_moved P sections name after h =
    all_sections_after P (sections_without sections name) after (sections_named sections name)
    (All-filter (λ (section : Section). not (has_section_name name section.name)) P sections h)
    (All-filter (λ (section : Section). has_section_name name section.name) P sections h)

-- so of each entry
pub all_entries_moved : (P : Entry → Type 0) (sections : List Section) (name after : List ℕ) → All P (joined_entries sections) → All P (joined_entries (section_moved sections name after))
all_entries_moved P sections name after h =
    to_entries (section_moved sections name after) (all_sections_moved (λ (section : Section). All P section.entries) sections name after (by_sections sections h)) where
      by_sections : (ss : List Section) → All P (joined_entries ss) → All (λ (section : Section). All P section.entries) ss
      by_sections [] h = All-nil (λ (section : Section). All P section.entries)
      by_sections (s ∷ ss) h = All-cons (λ (section : Section). All P section.entries) s ss (all_prefix P s.entries (joined_entries ss) h) (by_sections ss (all_back P s.entries (joined_entries ss) h))

      to_entries : (ss : List Section) → All (λ (section : Section). All P section.entries) ss → All P (joined_entries ss)
      to_entries [] h = All-nil P
      to_entries (s ∷ ss) h = All-append P s.entries (joined_entries ss) (All-head (λ (section : Section). All P section.entries) s ss h)
          (to_entries ss (All-tail (λ (section : Section). All P section.entries) s ss h))

-- the first section alone has no name still: it is neither moved nor a target
pub first_unmoved : (sections : List Section) (name after : List ℕ) → FirstIsUnnamed sections → FirstIsUnnamed (section_moved sections name after)
first_unmoved [] name after h = absurd h
first_unmoved (first ∷ others) name after h =
    let none : first.name ≡ None = h.0 in
    subst FirstIsUnnamed (sym (stays none)) (none, all_sections_moved IsNamed others name after h.1) where
      stays : first.name ≡ None → section_moved (first ∷ others) name after ≡ first ∷ section_moved others name after
      stays none = rw none refl
