-- Where leads differ, the keys have the same order.
use Rattle.std.proofs.Common.{◌≡◌, ℕ, zero, suc, ◌+◌, ◌*◌, ◌-◌, ◌<◌, ◌≤◌, List, [], ◌∷◌, length, Ordering, Less, Equal, inl, inr, refl, sym, ap, subst, ◌∙◌, ⊎_elim, arith}
use Rattle.std.specs.Prelude.{slice_index}
use Rattle.std.specs.Cmp.{nat_cmp_is}
use Rattle.std.specs.List.Sorted.{IsStrictlyIncreasing}
use Rattle.std.specs.Ordering.{ordering_then}
use Rattle.std.proofs.lemmas.Bool.{cases_lt}
use Rattle.std.proofs.lemmas.List.{get_or_default}
use Rattle.std.proofs.lemmas.Nat.{mul-le}
use Rattle.coll_key.specs.TextOrder.{list_order}
use Rattle.coll_ranks.specs.WeightNumbers.{rank_step}
use Rattle.coll_words.specs.KeyLeads.{AreRising, HasDigit, LeadsTo}

-- in numbers that rise each is less than all later ones
pub rise_far : (numbers : List ℕ) → IsStrictlyIncreasing numbers → (i j : ℕ) → i < j → j < length numbers → slice_index numbers i < slice_index numbers j
rise_far numbers rising i zero low within = absurd (omega (arith, low))
rise_far numbers rising i (suc j) low within =
    let on : j + 1 ≡ suc j = omega arith in
    let next : slice_index numbers j < slice_index numbers (suc j) = subst (λ (n : ℕ). slice_index numbers j < slice_index numbers n) on (rising j (omega (arith, within))) in
    ⊎_elim
    (λ (before : i < j). omega (arith, rise_far numbers rising i j before (omega (arith, within)), next))
    (λ (same : j ≤ i). let is : j ≡ i = omega (arith, same, low) in subst (λ (n : ℕ). slice_index numbers n < slice_index numbers (suc j)) is next)
    (cases_lt i j)

-- a key with no number
pub no_numbers : (key : List ℕ) → length key ≡ 0 → key ≡ []
no_numbers [] none = refl
no_numbers (n ∷ key) none = absurd (omega (arith, none))

module _ (numbers : List ℕ) (base : ℕ) where
  -- A step of a lead.

  pub leads_ended : (room before lead : ℕ) → LeadsTo numbers base room (before * base) [] lead → LeadsTo numbers base (suc room) before [] lead
  unfolding LeadsTo
  leads_ended room before lead h = h

  pub leads_below : (room before number : ℕ) (key : List ℕ) (lead : ℕ) → number < rank_step → LeadsTo numbers base room (before * base) [] lead
      → LeadsTo numbers base (suc room) before (number ∷ key) lead
  unfolding LeadsTo
  leads_below room before number key lead below h = inl (below, h)

  pub leads_on : (room before number : ℕ) (key : List ℕ) (lead digit : ℕ) → HasDigit numbers number digit → LeadsTo numbers base room (before * base + digit) key lead
      → LeadsTo numbers base (suc room) before (number ∷ key) lead
  unfolding LeadsTo
  leads_on room before number key lead digit has h = inr (digit, has, h)

  pub leads_all : (before : ℕ) (key : List ℕ) → LeadsTo numbers base 0 before key before
  unfolding LeadsTo
  leads_all before key = refl

  -- Two leads.

  -- of keys that have ended
  same_leads : (room before lead other_lead : ℕ) → LeadsTo numbers base room before [] lead → LeadsTo numbers base room before [] other_lead → lead ≡ other_lead
  unfolding LeadsTo
  same_leads zero before lead other_lead is other_is = is ∙ sym other_is
  same_leads (suc room) before lead other_lead is other_is = same_leads room (before * base) lead other_lead is other_is

  module _ (rising : AreRising numbers) (less : length numbers < base) where
    -- what one digit more leaves
    record Next (room before : ℕ) (lead : ℕ) : Type 0 where
      after : ℕ
      key : List ℕ
      leads : LeadsTo numbers base room after key lead
      least : before * base ≤ after
      most : after < before * base + base

    next_of : (room before : ℕ) (key : List ℕ) (lead : ℕ) → LeadsTo numbers base (suc room) before key lead → Next room before lead
    unfolding LeadsTo
    next_of room before [] lead h = record { after = before * base; key = []; leads = h; least = omega arith; most = omega (arith, less) }
    next_of room before (number ∷ key) lead (inl h) = record { after = before * base; key = []; leads = h.1; least = omega arith; most = omega (arith, less) }
    next_of room before (number ∷ key) lead (inr h) =
        record { after = before * base + h.0; key = key; leads = h.2; least = omega arith; most = omega (arith, less, h.1.within) }

    -- what is less before a lead makes it less
    rises : (room before other_before : ℕ) (key other : List ℕ) (lead other_lead : ℕ) → before < other_before → LeadsTo numbers base room before key lead
        → LeadsTo numbers base room other_before other other_lead → lead < other_lead
    unfolding LeadsTo
    rises zero before other_before key other lead other_lead low is other_is = omega (arith, low, is, other_is)
    rises (suc room) before other_before key other lead other_lead low is other_is =
        let next = next_of room before key lead is in
        let other_next = next_of room other_before other other_lead other_is in
        let scaled : (before + 1) * base ≤ other_before * base = mul-le (before + 1) base other_before base (omega (arith, low)) (omega arith) in
        rises room next.after other_next.after next.key other_next.key lead other_lead (omega (arith, next.most, other_next.least, scaled)) next.leads other_next.leads

    -- digits are ordered as their numbers
    digit_less : (number other digit other_digit : ℕ) → HasDigit numbers number digit → HasDigit numbers other other_digit → digit < other_digit → number < other
    digit_less number other digit other_digit has other_has low =
        let far = rise_far numbers rising.rising (digit - 1) (other_digit - 1) (omega (arith, low, has.some)) (omega (arith, other_has.within, other_has.some)) in
        omega (arith, far, has.at, other_has.at)

    digit_same : (number other digit other_digit : ℕ) → HasDigit numbers number digit → HasDigit numbers other other_digit → digit ≡ other_digit → number ≡ other
    digit_same number other digit other_digit has other_has same =
        sym has.at ∙ ap (λ (n : ℕ). slice_index numbers (n - 1)) same ∙ other_has.at

    -- a number that has a digit is that of a rank
    digit_rank : (number digit : ℕ) → HasDigit numbers number digit → rank_step ≤ number
    digit_rank number digit has =
        let at = rising.ranks (digit - 1) 0 (omega (arith, has.within, has.some)) in
        omega (arith, at, has.at)

    first_less : (number other : ℕ) (key others : List ℕ) → number < other → list_order (number ∷ key) (other ∷ others) ≡ Less
    first_less number other key others low = ap (λ (o : Ordering). ordering_then o (list_order key others)) (sym (nat_cmp_is number other Less low))

    first_same : (number other : ℕ) (key others : List ℕ) → number ≡ other → list_order key others ≡ Less → list_order (number ∷ key) (other ∷ others) ≡ Less
    first_same number other key others same later = ap (λ (o : Ordering). ordering_then o (list_order key others)) (sym (nat_cmp_is number other Equal same)) ∙ later

    -- a lesser lead is that of a lesser key
    pub lead_less : (room before : ℕ) (key other : List ℕ) (lead other_lead : ℕ) → LeadsTo numbers base room before key lead
        → LeadsTo numbers base room before other other_lead → lead < other_lead → list_order key other ≡ Less
    unfolding LeadsTo
    lead_less zero before key other lead other_lead is other_is low = absurd (omega (arith, low, is, other_is))
    lead_less (suc room) before [] [] lead other_lead is other_is low = lead_less room (before * base) [] [] lead other_lead is other_is low
    lead_less (suc room) before [] (m ∷ other) lead other_lead is other_is low = refl
    lead_less (suc room) before (n ∷ key) [] lead other_lead (inl is) other_is low =
        absurd (omega (arith, low, same_leads room (before * base) lead other_lead is.1 other_is))
    lead_less (suc room) before (n ∷ key) [] lead other_lead (inr is) other_is low =
        absurd (omega (arith, low, rises room (before * base) (before * base + is.0) [] key other_lead lead (omega (arith, is.1.some)) other_is is.2))
    lead_less (suc room) before (n ∷ key) (m ∷ other) lead other_lead (inl is) (inl other_is) low =
        absurd (omega (arith, low, same_leads room (before * base) lead other_lead is.1 other_is.1))
    lead_less (suc room) before (n ∷ key) (m ∷ other) lead other_lead (inl is) (inr other_is) low =
        first_less n m key other (omega (arith, is.0, digit_rank m other_is.0 other_is.1))
    lead_less (suc room) before (n ∷ key) (m ∷ other) lead other_lead (inr is) (inl other_is) low =
        absurd (omega (arith, low, rises room (before * base) (before * base + is.0) [] key other_lead lead (omega (arith, is.1.some)) other_is.1 is.2))
    lead_less (suc room) before (n ∷ key) (m ∷ other) lead other_lead (inr is) (inr other_is) low =
        ⊎_elim
        (λ (less_digit : is.0 < other_is.0). first_less n m key other (digit_less n m is.0 other_is.0 is.1 other_is.1 less_digit))
        (λ (not_less : other_is.0 ≤ is.0).
        ⊎_elim
        (λ (greater : other_is.0 < is.0).
        absurd (omega (arith, low, rises room (before * base + other_is.0) (before * base + is.0) other key other_lead lead (omega (arith, greater)) other_is.2 is.2)))
        (λ (not_greater : is.0 ≤ other_is.0).
        let same : is.0 ≡ other_is.0 = omega (arith, not_less, not_greater) in
        first_same n m key other (digit_same n m is.0 other_is.0 is.1 other_is.1 same)
        (lead_less room (before * base + is.0) key other lead other_lead is.2 (subst (λ (d : ℕ). LeadsTo numbers base room (before * base + d) other other_lead) (sym same) other_is.2) low))
        (cases_lt other_is.0 is.0))
        (cases_lt is.0 other_is.0)

-- numbers that rise, of which the first is that of a rank
pub rising_from : (numbers : List ℕ) → IsStrictlyIncreasing numbers → rank_step ≤ slice_index numbers 0 → AreRising numbers
rising_from numbers rising first = record {
  rising = rising;
  ranks = λ k d within.
      let same = get_or_default numbers k 0 d within in
      let at : rank_step ≤ slice_index numbers k =
      ⊎_elim
      (λ (later : 0 < k). omega (arith, first, rise_far numbers rising 0 k later within))
      (λ (none : k ≤ 0). let is : 0 ≡ k = omega (arith, none) in subst (λ (n : ℕ). rank_step ≤ slice_index numbers n) is first)
      (cases_lt 0 k) in
      omega (arith, at, same);
}
