-- The tallies of the kinds of change, once one more change is counted.
use Rattle.std.proofs.Common.{◌≡◌, ◌<◌, ◌≤◌, ◌==◌, ℕ, Bool, true, false, cond, nat_lt, List, [], ◌∷◌, ◌++◌, length, get_or, set, slice_get, position, find, Option, Some, None, refl, sym, ap}
use Rattle.std.proofs.Common.{◌∙◌, ⊎_elim}
use Rattle.std.specs.List.{position_or_len}
use Rattle.std.specs.Option.{option_or}
use Rattle.std.proofs.lemmas.Bool.{ne_eqb, ltb-false}
use Rattle.std.proofs.lemmas.Bool.Decides.{Decides-eqb, eqb_tells}
use Rattle.std.proofs.lemmas.List.Folds.{find_at, find-set, find_past, find-append}
use Rattle.std.proofs.lemmas.List.Quantifiers.{position-Some}
use Rattle.std.proofs.lemmas.Option.{cond_some, none-some, slice_get-get_or, slice_get_past}
use Rattle.coll_source_lines.specs.declared.places.SourcePlace.{SourcePlace}
use Rattle.coll_source_lines.specs.declared.adjustments.Adjustment.{Adjustment}
use Rattle.coll_source_lines.specs.declared.adjustments.Tally.{Tally}
use Rattle.coll_source_lines.specs.Adjustments.{kind_place}
use Rattle.coll_source_lines.specs.Reports.{is_of, tally_of, one_more, CountsOne}

-- equal numbers are the same
eqb_same : (n : ℕ) → (n == n) ≡ true
eqb_same n = (Decides-eqb n n).1 refl

-- a place that isn't found is none
none_found : (b : Bool) (n : ℕ) → cond b (Some n) None ≡ None → b ≡ false
none_found true n e = absurd (none-some n (sym e))
none_found false n e = refl

-- what is found first, or else nothing
or_none : {X : Type 0} (o : Option X) → option_or o None ≡ o
or_none None = refl
or_none (Some x) = refl

-- kinds at one place have the same tally
at_one_place : (tallies : List Tally) (kind other : Adjustment) → kind_place kind ≡ kind_place other → tally_of tallies kind ≡ tally_of tallies other
at_one_place tallies kind other e = ap (λ (n : ℕ). find (λ (tally : Tally). kind_place tally.adjustment == n) tallies) e

module _ (tallies : List Tally) (changed : Adjustment) where
  -- the tally of a kind stands where the first of that kind was found
  found_tally : (at : ℕ) (x : Tally) → position (is_of changed) tallies ≡ Some at → x ≡ get_or tallies at x → tally_of tallies changed ≡ Some x
  found_tally at x found is =
      let first : position_or_len (is_of changed) tallies ≡ at = (cond_some (nat_lt (position_or_len (is_of changed) tallies) (length tallies)) (position_or_len (is_of changed) tallies) at found).1 in
      let within : at < length tallies = (position-Some (is_of changed) tallies at x found).0 in
      find_at (is_of changed) tallies ∙ ap (λ n. slice_get tallies n) first ∙ slice_get-get_or tallies at x within ∙ ap Some (sym is)

  -- and there is none where none was found
  no_tally : position (is_of changed) tallies ≡ None → tally_of tallies changed ≡ None
  no_tally none =
      let past : length tallies ≤ position_or_len (is_of changed) tallies = ltb-false (position_or_len (is_of changed) tallies) (length tallies)
      (none_found (nat_lt (position_or_len (is_of changed) tallies) (length tallies)) (position_or_len (is_of changed) tallies) none) in
      find_at (is_of changed) tallies ∙ slice_get_past tallies (position_or_len (is_of changed) tallies) past

  -- one change more of a kind that was counted
  pub counted_again : (place : SourcePlace) (at : ℕ) (x : Tally) → position (is_of changed) tallies ≡ Some at → x ≡ get_or tallies at x
      → CountsOne tallies (set tallies at (one_more changed place (Some x))) changed place
  counted_again place at x found is kind =
      let new : Tally = one_more changed place (Some x) in
      let there = position-Some (is_of changed) tallies at x found in
      let first : position_or_len (is_of changed) tallies ≡ at = (cond_some (nat_lt (position_or_len (is_of changed) tallies) (length tallies)) (position_or_len (is_of changed) tallies) at found).1 in
      ⊎_elim
      (λ same.
      rw same.0
      (at_one_place (set tallies at new) kind changed same.1 ∙ find-set (is_of changed) tallies at new (sym first) there.0 (eqb_same (kind_place changed))
      ∙ ap (λ (o : Option Tally). Some (one_more changed place o)) (sym (at_one_place tallies kind changed same.1 ∙ found_tally at x found is))))
      (λ other.
      let is_changed : kind_place (get_or tallies at x).adjustment ≡ kind_place changed = (Decides-eqb (kind_place (get_or tallies at x).adjustment) (kind_place changed)).0 there.1 in
      rw other.0
      (find_past (is_of kind) tallies at new x
      (ne_eqb (kind_place (get_or tallies at x).adjustment) (kind_place kind) (λ e. other.1 (sym e ∙ is_changed)))
      (ne_eqb (kind_place changed) (kind_place kind) (λ e. other.1 (sym e)))))
      (eqb_tells (kind_place kind) (kind_place changed))

  -- the first change of a kind
  pub counted_first : (place : SourcePlace) → position (is_of changed) tallies ≡ None → CountsOne tallies (tallies ++ one_more changed place None ∷ []) changed place
  counted_first place none kind =
      let new : Tally = one_more changed place None in
      let nothing = no_tally none in
      ⊎_elim
      (λ same.
      rw same.0
      (at_one_place (tallies ++ new ∷ []) kind changed same.1 ∙ find-append (is_of changed) tallies (new ∷ [])
      ∙ ap (λ (o : Option Tally). option_or o (find (is_of changed) (new ∷ []))) nothing
      ∙ ap (λ (b : Bool). cond b (Some new) None) (eqb_same (kind_place changed))
      ∙ ap (λ (o : Option Tally). Some (one_more changed place o)) (sym (at_one_place tallies kind changed same.1 ∙ nothing))))
      (λ other.
      let not_kind : (kind_place changed == kind_place kind) ≡ false = ne_eqb (kind_place changed) (kind_place kind) (λ e. other.1 (sym e)) in
      rw other.0
      (find-append (is_of kind) tallies (new ∷ []) ∙ ap (λ (b : Bool). option_or (tally_of tallies kind) (cond b (Some new) None)) not_kind
      ∙ or_none (tally_of tallies kind)))
      (eqb_tells (kind_place kind) (kind_place changed))
