-- The identifiers of the first entries: one more, and what is found among them.
use denote.Ref.{Bor}
use Rattle.std.proofs.Common.{◌≡◌, ℕ, zero, suc, ◌+◌, List, [], ◌∷◌, ◌++◌, length, get_or, true, ◌<◌, Option, Some, None, refl, sym, ap, subst, ◌∙◌, arith}
use Rattle.std.specs.Prelude.{SomeIff, IfSome, slice_get}
use Rattle.std.proofs.lemmas.Option.{slice_get_read}
use Rattle.coll_syntax.specs.Identifier.{same_id}
use Rattle.coll_lookups.proofs.Sameness.{same_id_decides}
use Rattle.coll_syntax.specs.declared.identifiers.Id.{Id}
use Rattle.coll_nodes.specs.Table.{Collation}
use Rattle.coll_elements.specs.Rank.{known_rank}
use Rattle.coll_ranks.specs.RecentRanks.{AreFirst}

-- the ranks of these identifiers follow on so many others
abbrev FollowOn : Collation → (before : ℕ) → List (Bor Id) → Type 0
FollowOn table before ids = (place : ℕ) (id : Bor Id) → slice_get ids place ≡ Some id → known_rank table id.now ≡ before + place + 1

-- one more has the rank behind them
one_more : (table : Collation) (before : ℕ) (ids : List (Bor Id)) (id : Bor Id) → known_rank table id.now ≡ before + length ids + 1 → FollowOn table before ids → FollowOn table before (ids ++ id ∷ [])
one_more table before [] id rank follow zero found is = let same : id ≡ found = (let s = is in cc) in subst (λ (i : Bor Id). known_rank table i.now ≡ before + 0 + 1) same rank
one_more table before [] id rank follow (suc place) found is = absurd (let s = is in cc)
one_more table before (first ∷ ids) id rank follow zero found is = follow zero found is
one_more table before (first ∷ ids) id rank follow (suc place) found is =
    let behind : known_rank table id.now ≡ suc before + length ids + 1 = rank ∙ (let e : before + suc (length ids) + 1 ≡ suc before + length ids + 1 = omega arith in e) in
    let later : FollowOn table (suc before) ids = (λ place found is. follow (suc place) found is ∙ (let e : before + suc place + 1 ≡ suc before + place + 1 = omega arith in e)) in
    one_more table (suc before) ids id behind later place found is ∙ (let e : suc before + place + 1 ≡ before + suc place + 1 = omega arith in e)

-- the next entry is put behind the first ones
pub first_more : (table : Collation) (ids now : List (Bor Id)) (id : Bor Id) (rank : ℕ) → rank ≡ length ids + 1 → now ≡ ids ++ id ∷ [] → rank ≡ known_rank table id.now → AreFirst table ids
    → AreFirst table now
first_more table ids now id rank count put is first =
    let next : known_rank table id.now ≡ 0 + length ids + 1 = sym is ∙ (count ∙ (let e : length ids + 1 ≡ 0 + length ids + 1 = omega arith in e)) in
    let follow : FollowOn table 0 ids = (λ place found there. first place found there ∙ (let e : place + 1 ≡ 0 + place + 1 = omega arith in e)) in
    λ place found there. one_more table 0 ids id next follow place found (ap (λ (l : List (Bor Id)). slice_get l place) (sym put) ∙ there) ∙ (let e : 0 + place + 1 ≡ place + 1 = omega arith in e)

-- the entry behind so many others has the rank behind theirs
pub met_rank : (entries : List (Bor Id)) (before : ℕ) (entry : Bor Id) (id : Id) (fits : Type 0) (rank : Option ℕ) → before < length entries → entry ≡ get_or entries before entry
    → same_id entry.now id ≡ true → SomeIff rank fits (before + 1) → IfSome rank (λ rank. (table : Collation) → AreFirst table entries → rank ≡ known_rank table id)
met_rank entries before entry id fits None within is same added = tt
met_rank entries before entry id fits (Some rank) within is same added = λ table first.
    added.1 ∙ (sym (first before entry (slice_get_read entries (length entries) before entry refl within is)) ∙ ap (known_rank table) ((same_id_decides entry.now id).0 same))
