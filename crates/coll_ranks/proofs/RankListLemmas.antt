-- Lists of ranks that stand one behind another: what one more does, and where a list stands.
use Rattle.std.proofs.Common.{◌≡◌, ◌≤◌, ◌<◌, ℕ, zero, suc, ◌+◌, ◌-◌, List, [], ◌∷◌, ◌++◌, length, get_or, take, drop, sym}
use Rattle.std.proofs.Common.{ap, ap₂, subst, ◌∙◌, refl, arith, length-append, length-drop, append_assoc, map}
use Rattle.std.proofs.lemmas.List.{take-append-le, drop-append-le, map-append}
use Rattle.std.proofs.Math.Seq.{drop-append_seam, take-length, take-append_seam, take-suc}
use Rattle.coll_ranks.specs.RankLists.{lists_from, AreEnds, IsLonger}

-- the first list begins within the ranks
pub begins_within : (start : ℕ) (ranks ends : List ℕ) → AreEnds start ranks ends → start ≤ length ranks
begins_within start ranks [] h = omega (arith, h)
begins_within start ranks (end ∷ ends) h = omega (arith, h.0, begins_within end ranks ends h.1)

-- a piece of ranks is the same where more ranks follow
same_piece : (start end : ℕ) (ranks more : List ℕ) → start ≤ end → end ≤ length ranks → take (end - start) (drop start (ranks ++ more)) ≡ take (end - start) (drop start ranks)
same_piece start end ranks more below within =
    let starts : start ≤ length ranks = omega arith in
    let fits : end - start ≤ length (drop start ranks) = omega (arith, length-drop start ranks) in
    ap (take (end - start)) (drop-append-le start ranks more starts) ∙ take-append-le (end - start) (drop start ranks) more fits

-- the ranks behind the last list are one more list
pub one_more : (start : ℕ) (ranks ends more : List ℕ) → AreEnds start ranks ends → lists_from start (ranks ++ more) (ends ++ length (ranks ++ more) ∷ []) ≡ lists_from start ranks ends ++ more ∷ []
one_more start ranks [] more h = ap (λ list. list ∷ []) piece where
  rest : drop start (ranks ++ more) ≡ more
  rest = ap (λ n. drop n (ranks ++ more)) h ∙ drop-append_seam ranks more

  count : length (ranks ++ more) - start ≡ length more
  count = omega (arith, h, length-append ranks more)

  piece : take (length (ranks ++ more) - start) (drop start (ranks ++ more)) ≡ more
  piece = ap₂ (λ (n : ℕ) (l : List ℕ). take n l) count rest ∙ take-length more
one_more start ranks (end ∷ ends) more h =
    ap₂ (λ (l : List ℕ) (ls : List (List ℕ)). l ∷ ls) (same_piece start end ranks more h.0 (begins_within end ranks ends h.1)) (one_more end ranks ends more h.1)

-- and end where the ranks do
pub ends_more : (start : ℕ) (ranks ends more : List ℕ) → AreEnds start ranks ends → AreEnds start (ranks ++ more) (ends ++ length (ranks ++ more) ∷ [])
ends_more start ranks [] more h = (omega (arith, h, length-append ranks more), refl)
ends_more start ranks (end ∷ ends) more h = (h.0, ends_more end ranks ends more h.1)

-- a list stands between two ends
pub list_at : (start : ℕ) (ranks ends : List ℕ) (place : ℕ) → place < length ends → get_or (lists_from start ranks ends) place []
    ≡ take (get_or ends place 0 - get_or (start ∷ ends) place 0) (drop (get_or (start ∷ ends) place 0) ranks)
list_at start ranks [] place h = absurd (omega arith)
list_at start ranks (end ∷ ends) zero h = refl
list_at start ranks (end ∷ ends) (suc place) h = list_at end ranks ends place (omega arith)

-- there are as many lists as ends
pub count_lists : (start : ℕ) (ranks ends : List ℕ) → length ends ≡ length (lists_from start ranks ends)
count_lists start ranks [] = refl
count_lists start ranks (end ∷ ends) = ap suc (count_lists end ranks ends)

-- behind them there is none
pub no_list : (start : ℕ) (ranks ends : List ℕ) (place : ℕ) → length ends ≤ place → get_or (lists_from start ranks ends) place [] ≡ []
no_list start ranks [] place h = refl
no_list start ranks (end ∷ ends) zero h = absurd (omega arith)
no_list start ranks (end ∷ ends) (suc place) h = no_list end ranks ends place (omega arith)

-- the two ends are in order
pub in_order : (start : ℕ) (ranks ends : List ℕ) (place : ℕ) → AreEnds start ranks ends → place < length ends → get_or (start ∷ ends) place 0 ≤ get_or ends place 0
in_order start ranks [] place h l = absurd (omega arith)
in_order start ranks (end ∷ ends) zero h l = h.0
in_order start ranks (end ∷ ends) (suc place) h l = in_order end ranks ends place h.1 (omega arith)

-- and within the ranks
pub ends_within : (start : ℕ) (ranks ends : List ℕ) (place : ℕ) → AreEnds start ranks ends → place < length ends → get_or ends place 0 ≤ length ranks
ends_within start ranks [] place h l = absurd (omega arith)
ends_within start ranks (end ∷ ends) zero h l = begins_within end ranks ends h.1
ends_within start ranks (end ∷ ends) (suc place) h l = ends_within end ranks ends place h.1 (omega arith)

-- what goes on behind a list is cut off again
pub cut_off : (ranks now : List ℕ) → IsLonger ranks now → take (length ranks) now ≡ ranks
cut_off ranks now h = ap (take (length ranks)) h.1 ∙ take-append_seam ranks h.0

-- the number of one member more is put behind those of the members before it
pub one_further : {X : Type 0} (number : X → ℕ) (old before now : List ℕ) (xs : List X) (place : ℕ) (x : X) → place < length xs → x ≡ get_or xs place x → before ≡ old ++ map number (take place xs)
    → now ≡ before ++ number x ∷ [] → now ≡ old ++ map number (take (place + 1) xs)
one_further number old before now xs place x within is so_far put =
    let next : place + 1 ≡ suc place = omega arith in
    let taken : take (place + 1) xs ≡ take place xs ++ x ∷ [] = ap (λ n. take n xs) next ∙ (take-suc xs place x within ∙ ap (λ y. take place xs ++ y ∷ []) (sym is)) in
    put ∙ (ap (λ ns. ns ++ number x ∷ []) so_far
    ∙ (append_assoc old (map number (take place xs)) (number x ∷ [])
    ∙ ap (λ ns. old ++ ns) (sym (map-append number (take place xs) (x ∷ [])) ∙ ap (map number) (sym taken))))

-- what goes on behind a list that goes on behind another goes on behind that one
pub longer_still : (old more before now : List ℕ) → before ≡ old ++ more → IsLonger before now → IsLonger old now
longer_still old more before now so_far h = (more ++ h.0, h.1 ∙ (ap (λ ns. ns ++ h.0) so_far ∙ append_assoc old more h.0))

-- a list is put behind others, and ends where the ranks do
pub put_behind : (ranks ends more now last : List ℕ) (end : ℕ) → AreEnds 0 ranks ends → now ≡ ranks ++ more → end ≡ length now → last ≡ ends ++ end ∷ []
    → lists_from 0 now last ≡ lists_from 0 ranks ends ++ more ∷ []
put_behind ranks ends more now last end h n e l =
    let is : last ≡ ends ++ length (ranks ++ more) ∷ [] = l ∙ ap (λ n. ends ++ n ∷ []) (e ∙ ap length n) in
    ap₂ (λ (now last : List ℕ). lists_from 0 now last) n is ∙ one_more 0 ranks ends more h

-- and the ends are those of lists
pub put_ends : (ranks ends more now last : List ℕ) (end : ℕ) → AreEnds 0 ranks ends → now ≡ ranks ++ more → end ≡ length now → last ≡ ends ++ end ∷ [] → AreEnds 0 now last
put_ends ranks ends more now last end h n e l =
    let is : last ≡ ends ++ length (ranks ++ more) ∷ [] = l ∙ ap (λ n. ends ++ n ∷ []) (e ∙ ap length n) in
    subst (λ (now : List ℕ). AreEnds 0 now last) (sym n) (subst (λ (last : List ℕ). AreEnds 0 (ranks ++ more) last) (sym is) (ends_more 0 ranks ends more h))

-- where a list stands, as a look-up finds it
pub record StandsBetween (ranks ends : List ℕ) (place start end : ℕ) : Type 0 where
  pub order : start ≤ end
  pub within : end ≤ length ranks
  pub piece : take (end - start) (drop start ranks) ≡ get_or (lists_from 0 ranks ends) place []

pub stands_between : (ranks ends found others : List ℕ) (place start end : ℕ) → AreEnds 0 ranks ends → found ≡ ends → others ≡ ends → place < length found → end ≡ get_or found place 0
    → start ≡ get_or (0 ∷ others) place 0 → StandsBetween ranks ends place start end
stands_between ranks ends found others place start end h f o l e s =
    let there : place < length ends = subst (λ (xs : List ℕ). place < length xs) f l in
    let ends_at : end ≡ get_or ends place 0 = e ∙ ap (λ (xs : List ℕ). get_or xs place 0) f in
    let starts_at : start ≡ get_or (0 ∷ ends) place 0 = s ∙ ap (λ (xs : List ℕ). get_or (0 ∷ xs) place 0) o in
    record {
      order = subst (λ (n : ℕ). n ≤ end) (sym starts_at) (subst (λ (n : ℕ). get_or (0 ∷ ends) place 0 ≤ n) (sym ends_at) (in_order 0 ranks ends place h there));
      within = subst (λ (n : ℕ). n ≤ length ranks) (sym ends_at) (ends_within 0 ranks ends place h there);
      piece = ap₂ (λ (start end : ℕ). take (end - start) (drop start ranks)) starts_at ends_at ∙ sym (list_at 0 ranks ends place there);
    }
