-- The entry at a place, those beside it, and the place of an identifier.
use Rattle.std.proofs.Common.{◌≡◌, ℕ, zero, suc, ◌+◌, ◌-◌, ◌≤◌, true, false, cond, List, [], ◌∷◌, ◌++◌, length, drop, codes, Option, Some, None, sym, ap, ap₂, subst, ◌∙◌, refl, arith, append_assoc}
use Rattle.std.specs.List.{list_any}
use Rattle.std.specs.Option.{option_map, unwrap_or}
use Rattle.coll_order.proofs.Sameness.{by_test}
use Rattle.coll_syntax.specs.Identifier.{same_id}
use Rattle.coll_syntax.specs.declared.identifiers.Id.{Id}
use Rattle.coll_lookups.proofs.Sameness.{same_id_decides, same_id_itself, same_id_symmetric, neither}
use Rattle.coll_nodes.specs.Beside.{first_of, last_behind, last_entry, entry_between, entry_before, entry_behind, section_name}
use Rattle.coll_nodes.specs.Placement.{entry_at, place_among}
use Rattle.coll_nodes.specs.Table.{Collation, entries_of, ids_of}
use Rattle.coll_nodes.specs.WellFormed.{AreDistinct}
use Rattle.coll_nodes.specs.declared.entries.Entry.{Entry}
use Rattle.coll_edit_replies.specs.Showing.{around, entry_in, line_if, line_in, place_of, IsAround, IsEntryIn, Place}

-- The entry at a place.

-- an entry that stands further on has another identifier
other_id : (first : Id) (n : ℕ) (entries : List Entry) (entry : Entry) → list_any (same_id first) (ids_of entries) ≡ false → first_of (drop n entries) ≡ Some entry → same_id entry.id first ≡ false
other_id first zero [] entry off is = absurd (cc)
other_id first (suc n) [] entry off is = absurd (cc)
other_id first zero (next ∷ entries) entry off is =
    let same : entry ≡ next = cc in
    same_id_symmetric entry.id first ∙ (ap (λ (x : Entry). same_id first x.id) same ∙ (neither _ _ off).0)
other_id first (suc n) (next ∷ entries) entry off is = other_id first n entries entry (neither _ _ off).1 is

-- the entry at a place, where this one stands before all
abbrev in_behind : Option Entry → List Entry → ℕ → Option Entry
in_behind before entries zero = before
in_behind before entries (suc n) = first_of (drop n entries)

one_more : (before : Option Entry) (first : Entry) (entries : List Entry) (n : ℕ) → in_behind (Some first) entries n ≡ in_behind before (first ∷ entries) (suc n)
one_more before first entries zero = refl
one_more before first entries (suc n) = refl

none_first : (entries : List Entry) (place : ℕ) → in_behind None entries place ≡ entry_in entries place
none_first entries zero = refl
none_first entries (suc n) = refl

between : (before : Option Entry) (entries : List Entry) (n : ℕ) (entry : Entry) → AreDistinct same_id (ids_of entries) → first_of (drop n entries) ≡ Some entry
    → entry_between before entries entry.id ≡ in_behind before entries n
between before [] zero entry distinct is = absurd (cc)
between before [] (suc n) entry distinct is = absurd (cc)
between before (first ∷ entries) zero entry distinct is =
    let same : entry ≡ first = cc in
    ap (λ b. cond b before (entry_between (Some first) entries entry.id)) (ap (λ (x : Entry). same_id entry.id x.id) (sym same) ∙ same_id_itself entry.id)
between before (first ∷ entries) (suc n) entry distinct is =
    ap (λ b. cond b before (entry_between (Some first) entries entry.id)) (other_id first.id n entries entry distinct.0 is)
    ∙ (between (Some first) entries n entry distinct.1 is ∙ one_more before first entries n)

-- the entry before that at a place
pub before_some : (entries : List Entry) (place : ℕ) (entry : Entry) → AreDistinct same_id (ids_of entries) → Some entry ≡ entry_in entries place
    → entry_before entries entry.id ≡ entry_in entries (place - 1)
before_some entries zero entry distinct is = absurd (cc)
before_some entries (suc n) entry distinct is =
    between None entries n entry distinct (sym is) ∙ (none_first entries n ∙ ap (entry_in entries) (let less : n ≡ suc n - 1 = omega arith in less))

behind : (entries : List Entry) (n : ℕ) (entry : Entry) → AreDistinct same_id (ids_of entries) → first_of (drop n entries) ≡ Some entry
    → entry_behind entries entry.id ≡ first_of (drop (suc n) entries)
behind [] zero entry distinct is = absurd (cc)
behind [] (suc n) entry distinct is = absurd (cc)
behind (first ∷ entries) zero entry distinct is =
    let same : entry ≡ first = cc in
    ap (λ b. cond b (first_of entries) (entry_behind entries entry.id)) (ap (λ (x : Entry). same_id entry.id x.id) (sym same) ∙ same_id_itself entry.id)
behind (first ∷ entries) (suc n) entry distinct is =
    ap (λ b. cond b (first_of entries) (entry_behind entries entry.id)) (other_id first.id n entries entry distinct.0 is) ∙ behind entries n entry distinct.1 is

-- the entry behind that at a place
pub behind_some : (entries : List Entry) (place : ℕ) (entry : Entry) → AreDistinct same_id (ids_of entries) → Some entry ≡ entry_in entries place
    → entry_behind entries entry.id ≡ entry_in entries (place + 1)
behind_some entries zero entry distinct is = absurd (cc)
behind_some entries (suc n) entry distinct is =
    behind entries n entry distinct (sym is) ∙ ap (entry_in entries) (let more : suc (suc n) ≡ suc n + 1 = omega arith in more)

-- at each place up to the number of entries there is one
nowhere : (n : ℕ) (entries : List Entry) → suc n ≤ length entries → None ≡ first_of (drop n entries) → ⊥
nowhere zero [] within none = omega (arith, within)
nowhere (suc n) [] within none = omega (arith, within)
nowhere zero (entry ∷ entries) within none = absurd (cc)
nowhere (suc n) (entry ∷ entries) within none = nowhere n entries (omega (arith, within)) none

-- where none stands at a place, none stands before it
pub before_none : (entries : List Entry) (place : ℕ) → place ≤ length entries → None ≡ entry_in entries place → None ≡ entry_in entries (place - 1)
before_none entries zero within none = refl
before_none entries (suc n) within none = absurd (nowhere n entries within none)

first_none : (n : ℕ) (entries : List Entry) → None ≡ first_of (drop n entries) → None ≡ first_of (drop (suc n) entries)
first_none zero [] none = none
first_none (suc n) [] none = none
first_none zero (entry ∷ entries) none = absurd (cc)
first_none (suc n) (entry ∷ entries) none = first_none n entries none

-- nor behind it
pub behind_none : (entries : List Entry) (place : ℕ) → 1 ≤ place → None ≡ entry_in entries place → None ≡ entry_in entries (place + 1)
behind_none entries zero some none = absurd (let no : ⊥ = omega (arith, some) in no)
behind_none entries (suc n) some none = first_none n entries none ∙ ap (entry_in entries) (let more : suc (suc n) ≡ suc n + 1 = omega arith in more)

last_in : (before : Option Entry) (entries : List Entry) → last_behind before entries ≡ in_behind before entries (length entries)
last_in before [] = refl
last_in before (first ∷ entries) = last_in (Some first) entries ∙ one_more before first entries (length entries)

-- the last entry stands at the last place
pub last_is : (entries : List Entry) → last_entry entries ≡ entry_in entries (length entries)
last_is entries = last_in None entries ∙ none_first entries (length entries)

-- none stands behind the last one
none_behind_all : (entries : List Entry) → None ≡ first_of (drop (length entries) entries)
none_behind_all [] = refl
none_behind_all (first ∷ entries) = none_behind_all entries

pub behind_all : (entries : List Entry) (place : ℕ) → place ≡ length entries + 1 → None ≡ entry_in entries place
behind_all entries place is = none_behind_all entries ∙ ap (entry_in entries) (let same : suc (length entries) ≡ place = omega (arith, is) in same)

-- The place of an identifier.

-- the entry of an identifier has it
id_is : (entries : List Entry) (id : Id) (entry : Entry) → Some entry ≡ entry_at entries id → entry.id ≡ id
id_is [] id entry is = absurd (cc)
id_is (first ∷ entries) id entry is =
    by_test (λ b. Some entry ≡ cond b (Some first) (entry_at entries id) → entry.id ≡ id) (same_id id first.id)
    (λ on e. let same : entry ≡ first = cc in ap (λ (x : Entry). x.id) same ∙ sym ((same_id_decides id first.id).0 on))
    (λ off e. id_is entries id entry e) is

place_found : (entries : List Entry) (id : Id) (entry : Entry) → Some entry ≡ entry_at entries id → (n : ℕ) × (place_among entries id ≡ Some (suc n)) × (Some entry ≡ entry_in entries (suc n))
place_found [] id entry is = absurd (cc)
place_found (first ∷ entries) id entry is =
    by_test (λ b. Some entry ≡ cond b (Some first) (entry_at entries id)
    → (n : ℕ) × (cond b (Some 1) (option_map (λ place. suc place) (place_among entries id)) ≡ Some (suc n)) × (Some entry ≡ first_of (drop n (first ∷ entries)))) (same_id id first.id)
    (λ on e. (0, refl, e))
    (λ off e. let found = place_found entries id entry e in (suc found.0, ap (option_map (λ place. suc place)) found.1, found.2)) is

-- the entry of an identifier stands at the place of its own
pub own_place : (entries : List Entry) (id : Id) (entry : Entry) → Some entry ≡ entry_at entries id
    → (place : ℕ) × (place_among entries entry.id ≡ Some place) × (Some entry ≡ entry_in entries place) × (1 ≤ place) × (place ≤ length entries)
own_place entries id entry is =
    let found = place_found entries id entry is in
    (suc found.0, ap (place_among entries) (id_is entries id entry is) ∙ found.1, found.2, omega arith, within found.0 entries found.2) where
      within : (n : ℕ) (entries : List Entry) → Some entry ≡ first_of (drop n entries) → suc n ≤ length entries
      within zero [] is = absurd (cc)
      within (suc n) [] is = absurd (cc)
      within zero (first ∷ entries) is = omega arith
      within (suc n) (first ∷ entries) is = omega (arith, within n entries is)

-- The place of an identifier, counted.

-- the place of an identifier among all is its place among those that are left, behind so many others
abbrev pub IsCounted : (all left : List Entry) → (before : ℕ) → Id → Type 0
IsCounted all left before id = (place : ℕ) → place_among all id ≡ Some place → (later : ℕ) × (place_among left id ≡ Some later) × (place ≡ before + later)

pub counted_none : (all left : List Entry) (id : Id) → left ≡ all → IsCounted all left 0 id
counted_none all left id same place is = (place, ap (λ es. place_among es id) same ∙ is, omega arith)

-- it is the next
pub counted_here : (all left later : List Entry) (entry : Entry) (before : ℕ) (id : Id) → left ≡ entry ∷ later → same_id id entry.id ≡ true → IsCounted all left before id
    → (place : ℕ) → place_among all id ≡ Some place → before + 1 ≡ place
counted_here all left later entry before id first on counted place is =
    let found = counted place is in
    let here : Some found.0 ≡ Some 1 =
    sym found.1 ∙ (ap (λ es. place_among es id) first ∙ ap (λ b. cond b (Some 1) (option_map (λ place. suc place) (place_among later id))) on) in
    let one : found.0 ≡ 1 = cc in
    omega (arith, one, found.2)

-- it is none of those
pub counted_out : (all left : List Entry) (before result : ℕ) (id : Id) → left ≡ [] → IsCounted all left before id → (place : ℕ) → place_among all id ≡ Some place → result ≡ place
counted_out all left before result id none counted place is =
    let found = counted place is in
    let out : None ≡ Some found.0 = ap (λ es. place_among es id) (sym none) ∙ found.1 in
    absurd (cc)

-- it is another one
pub counted_other : (all left later : List Entry) (entry : Entry) (before : ℕ) (id : Id) → left ≡ entry ∷ later → same_id id entry.id ≡ false → IsCounted all left before id
    → IsCounted all later (before + 1) id
counted_other all left later entry before id first off counted place is =
    let found = counted place is in
    let on : Some found.0 ≡ option_map (λ place. suc place) (place_among later id) =
    sym found.1 ∙ (ap (λ es. place_among es id) first ∙ ap (λ b. cond b (Some 1) (option_map (λ place. suc place) (place_among later id))) off) in
    let less = one_less (place_among later id) found.0 on in
    (less.0, less.1, omega (arith, less.2, found.2)) where
      one_less : (o : Option ℕ) (place : ℕ) → Some place ≡ option_map (λ place. suc place) o → (n : ℕ) × (o ≡ Some n) × (place ≡ suc n)
      one_less None place e = absurd (cc)
      one_less (Some n) place e = (n, refl, let same : place ≡ suc n = cc in same)

-- Places as the code finds them.

-- the place of an entry, found by its identifier, and what stands beside it
pub spot_around : (entries : List Entry) (entry : Entry) (id : Id) (rank : ℕ) (before behind : Option Entry) → AreDistinct same_id (ids_of entries) → IsEntryIn entries entry → id ≡ entry.id
    → ((place : ℕ) → place_among entries id ≡ Some place → rank ≡ place) → before ≡ entry_before entries id → behind ≡ entry_behind entries id
    → IsAround entries rank before (Some entry) behind
spot_around entries entry id rank before behind distinct (of, at) same ranked first next =
    let (place, among, stands, some, within) = own_place entries of entry at in
    subst (λ n. IsAround entries n before (Some entry) behind) (sym (ranked place (ap (place_among entries) same ∙ among)))
    (record {
      before_is = first ∙ (ap (entry_before entries) same ∙ before_some entries place entry distinct stands);
      here_is = stands;
      behind_is = next ∙ (ap (entry_behind entries) same ∙ behind_some entries place entry distinct stands);
      some = some;
      within = omega (arith, within);
    })

-- the place is that of the entry
pub spot_placed : (table : Collation) (entry : Entry) (id : Id) (rank : ℕ) (section : Option (List ℕ)) → IsEntryIn (entries_of table) entry → id ≡ entry.id
    → ((place : ℕ) → place_among (entries_of table) id ≡ Some place → rank ≡ place) → section ≡ section_name table.sections id
    → (let place : Place = record { rank = rank; section = section } in place) ≡ place_of table (Some entry)
spot_placed table entry id rank section (of, at) same ranked named =
    let (place, among, _, _, _) = own_place (entries_of table) of entry at in
    let first : rank ≡ unwrap_or (place_among (entries_of table) entry.id) 0 =
    ranked place (ap (place_among (entries_of table)) same ∙ among) ∙ sym (ap (λ o. unwrap_or o 0) among) in
    let second : section ≡ section_name table.sections entry.id = named ∙ ap (section_name table.sections) same in
    ap₂ made first second where
      made : ℕ → Option (List ℕ) → Place
      made rank section = record { rank = rank; section = section }

-- the place behind all entries
pub spot_last : (entries : List Entry) (rank : ℕ) (last : Option Entry) → rank ≡ length entries + 1 → last ≡ last_entry entries → IsAround entries rank last None None
spot_last entries rank last is at =
    let none = behind_all entries rank is in
    record {
      before_is = at ∙ (last_is entries ∙ ap (entry_in entries) (let same : length entries ≡ rank - 1 = omega (arith, is) in same));
      here_is = none;
      behind_is = behind_none entries rank (omega (arith, is)) none;
      some = omega (arith, is);
      within = omega (arith, is);
    }

-- The lines of what stands around a place.

-- the line of an entry that stands at a place
pub line_is : (mark : List ℕ) (entries : List Entry) (place rank : ℕ) (entry : Option Entry) (line : List ℕ) → line ≡ line_if mark rank entry → rank ≡ place → entry ≡ entry_in entries place
    → line_in mark entries place ≡ line
line_is mark entries place rank entry line is at stands = sym (is ∙ ap₂ (line_if mark) at stands)

-- all seven
pub lines_around : (entries : List Entry) (place : ℕ) (l1 l2 l3 l4 l5 l6 l7 : List ℕ) → line_in (codes "  ") entries (place - 3) ≡ l1 → line_in (codes "  ") entries (place - 2) ≡ l2
    → line_in (codes "  ") entries (place - 1) ≡ l3 → line_in (codes "> ") entries place ≡ l4 → line_in (codes "  ") entries (place + 1) ≡ l5
    → line_in (codes "  ") entries (place + 2) ≡ l6 → line_in (codes "  ") entries (place + 3) ≡ l7
    → around entries place ≡ l1 ++ (l2 ++ (l3 ++ (l4 ++ (l5 ++ (l6 ++ (l7 ++ []))))))
unfolding around
lines_around entries place l1 l2 l3 l4 l5 l6 l7 i1 i2 i3 i4 i5 i6 i7 =
    rw (i1, i2, i3, i4, i5, i6, i7)
    (append_assoc l1 (l2 ++ (l3 ++ [])) (l4 ++ (l5 ++ (l6 ++ (l7 ++ []))))
    ∙ ap (λ l. l1 ++ l) (append_assoc l2 (l3 ++ []) (l4 ++ (l5 ++ (l6 ++ (l7 ++ [])))) ∙ ap (λ l. l2 ++ l) (append_assoc l3 [] (l4 ++ (l5 ++ (l6 ++ (l7 ++ [])))))))
