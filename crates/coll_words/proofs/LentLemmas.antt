-- Words that are lent with leads are those that were stored.
use Rattle.std.proofs.Common.{◌≡◌, ℕ, ◌<◌, ◌≤◌, List, [], ◌∷◌, ◌++◌, map, get_or, drop, All, ⊎_elim, Ordering, Less, Equal, Greater}
use Rattle.std.proofs.Common.{refl, sym, ap, subst, ◌∙◌, arith, true≢false, true, append_assoc, append-nil}
use Rattle.std.specs.Prelude.{◌≢◌}
use Rattle.std.specs.Cmp.{nat_cmp_is}
use Rattle.std.specs.List.Sorted.{IsPermutation}
use Rattle.std.specs.Ordering.{is_lt, nat_cmp, ordering_then}
use Rattle.std.proofs.lemmas.Bool.{cases_lt}
use Rattle.std.proofs.lemmas.List.{get_or-map, length-map, map-append}
use Rattle.std.proofs.lemmas.List.Elements.{All-append, All-cons, All-nil}
use Rattle.std.proofs.lemmas.List.Sorted.{All-permutation}
use Rattle.coll_nodes.specs.Table.{Collation}
use Rattle.coll_key.specs.TextOrder.{list_order}
use Rattle.coll_words.specs.FirstKeys.{AreFirstKeyed, packed_first_key}
use Rattle.coll_word_lists.specs.KeyedWords.{KeyedWord, texts_of}
use Rattle.coll_words.proofs.KeyLeadLemmas.{leads_all}
use Rattle.coll_words.specs.LentWords.{AreDigits, AreLedFirst, AreLent, HasLead, IsLedFirst, IsLedKey, IsLent, without_lead}

-- Leads decide.

pub leads_apart : (lead other_lead : ℕ) (key other : List ℕ) → lead ≢ other_lead → list_order (lead ∷ key) (other_lead ∷ other) ≡ nat_cmp lead other_lead
leads_apart lead other_lead key other apart =
    ⊎_elim
    (λ (less : lead < other_lead).
    ap (λ (o : Ordering). ordering_then o (list_order key other)) (sym (nat_cmp_is lead other_lead Less less)) ∙ nat_cmp_is lead other_lead Less less)
    (λ (not_less : other_lead ≤ lead).
    ⊎_elim
    (λ (more : other_lead < lead).
    ap (λ (o : Ordering). ordering_then o (list_order key other)) (sym (nat_cmp_is lead other_lead Greater more)) ∙ nat_cmp_is lead other_lead Greater more)
    (λ (not_more : lead ≤ other_lead). absurd (apart (omega (arith, not_less, not_more))))
    (cases_lt other_lead lead))
    (cases_lt lead other_lead)

pub leads_alike : (lead other_lead : ℕ) (key other : List ℕ) → lead ≡ other_lead → list_order (lead ∷ key) (other_lead ∷ other) ≡ list_order key other
leads_alike lead other_lead key other same = ap (λ (o : Ordering). ordering_then o (list_order key other)) (sym (nat_cmp_is lead other_lead Equal same))

-- what is less behind leads is less without them, where a lesser lead is that of a lesser key
pub less_behind : (lead other_lead : ℕ) (key other : List ℕ) → (lead < other_lead → list_order key other ≡ Less)
    → is_lt (list_order (lead ∷ key) (other_lead ∷ other)) ≡ true → is_lt (list_order key other) ≡ true
less_behind lead other_lead key other decides less =
    let behind = λ (o : Ordering). is_lt (ordering_then o (list_order key other)) in
    ⊎_elim
    (λ (low : lead < other_lead). ap is_lt (decides low))
    (λ (not_low : other_lead ≤ lead).
    ⊎_elim
    (λ (more : other_lead < lead). absurd (true≢false (sym (ap behind (nat_cmp_is lead other_lead Greater more) ∙ less))))
    (λ (not_more : lead ≤ other_lead). ap behind (nat_cmp_is lead other_lead Equal (omega (arith, not_low, not_more))) ∙ less)
    (cases_lt other_lead lead))
    (cases_lt lead other_lead)

-- A word more is lent.

pub led_more : (numbers : List ℕ) (base room : ℕ) (lent lent_now : List KeyedWord) (one word : KeyedWord) → IsLent numbers base room word one → lent_now ≡ lent ++ one ∷ []
    → All (HasLead numbers base room) lent → All (HasLead numbers base room) lent_now
led_more numbers base room lent lent_now one word is more all =
    let P = HasLead numbers base room in
    subst (All P) (sym more) (All-append P lent (one ∷ []) all (All-cons P one [] is.led (All-nil P)))

pub same_more : (all lent lent_now rest : List KeyedWord) (one word : KeyedWord) → all ≡ map without_lead lent ++ word ∷ rest → without_lead one ≡ word
    → lent_now ≡ lent ++ one ∷ [] → all ≡ map without_lead lent_now ++ rest
same_more all lent lent_now rest one word before same more =
    before
    ∙ ap (λ (w : KeyedWord). map without_lead lent ++ w ∷ rest) (sym same)
    ∙ sym (append_assoc (map without_lead lent) (without_lead one ∷ []) rest)
    ∙ ap (λ (list : List KeyedWord). list ++ rest) (sym (map-append without_lead lent (one ∷ [])) ∙ ap (map without_lead) (sym more))

-- all are
pub all_lent : (numbers : List ℕ) (base room : ℕ) (all lent : List KeyedWord) → AreDigits numbers base → All (HasLead numbers base room) lent
    → all ≡ map without_lead lent ++ [] → AreLent all lent
all_lent numbers base room all lent digits led same = record {
  numbers = numbers;
  base = base;
  room = room;
  digits = digits;
  led = led;
  same = sym (same ∙ append-nil (map without_lead lent));
}

-- no digits
pub no_digits : AreDigits [] 1
no_digits = record {
  rising = record { rising = λ k within. absurd (omega (arith, within)); ranks = All-nil _ };
  less = omega arith;
}

-- a word with the lead 0
pub led_zero : (word : KeyedWord) → IsLent [] 1 0 word (record { text = word.text; key = 0 ∷ word.key })
led_zero word = record {
  led = record { lead = 0; is = refl; leads = leads_all [] 1 0 word.key };
  same = refl;
}

-- They have the texts, and leads of what they are sorted by first.

texts_without : (lent : List KeyedWord) → texts_of (map without_lead lent) ≡ texts_of lent
texts_without [] = refl
texts_without (word ∷ lent) = ap (λ (texts : List (List ℕ)). word.text ∷ texts) (texts_without lent)

pub lent_texts : (words lent : List KeyedWord) → AreLent words lent → texts_of lent ≡ texts_of words
lent_texts words lent are = sym (texts_without lent) ∙ ap texts_of are.same

pub lent_first : (table : Collation) (words lent : List KeyedWord) → AreLent words lent → AreFirstKeyed table words → AreLedFirst table lent
lent_first table words lent are keyed = record {
  numbers = are.numbers;
  base = are.base;
  room = are.room;
  digits = are.digits;
  led = λ k d low.
      let word = get_or lent k d in
      let key : drop 1 word.key ≡ packed_first_key table word.text =
      subst (λ (w : KeyedWord). w.key ≡ packed_first_key table w.text) (get_or-map without_lead lent k d (without_lead d) low)
      (subst (AreFirstKeyed table) (sym are.same) keyed k (without_lead d) (omega (arith, low, length-map lent without_lead))) in
      subst (λ (key : List ℕ). IsLedKey are.numbers are.base are.room key word.key) key (are.led k d low);
}

pub led_moved : (table : Collation) (words moved : List KeyedWord) → IsPermutation words moved → AreLedFirst table words → AreLedFirst table moved
led_moved table words moved same are = record {
  numbers = are.numbers;
  base = are.base;
  room = are.room;
  digits = are.digits;
  led = All-permutation (IsLedFirst table are.numbers are.base are.room) words moved same are.led;
}
