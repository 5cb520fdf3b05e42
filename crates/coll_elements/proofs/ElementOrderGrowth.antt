-- What one more element does to elements in the order of their strings.
use Rattle.std.proofs.Common.{◌≡◌, ◌<◌, ◌≤◌, ℕ, ◌+◌, ◌-◌, ◌==◌, ◌&&◌, true, false, cond, List, [], ◌∷◌, ◌++◌, length, get_or, sym, ap, ap₂, subst, ◌∙◌, refl, arith}
use Rattle.std.proofs.Math.ListN.{get_or-append}
use Rattle.std.proofs.Math.Seq.{get_or-append_seam}
use Rattle.std.proofs.lemmas.List.{map-append, length-map, length-append}
use Rattle.std.proofs.lemmas.Bool.{ltb-false}
use Rattle.std.proofs.lemmas.Bool.Decides.{Decides-eqb, Decides-ltb}
use Rattle.std.proofs.lemmas.Str.{encodes-chars}
use Rattle.std.specs.Prelude.{chars, encode_utf8_all, nat_lt}
use Rattle.std.specs.Str.{IsUtf8}
use Rattle.coll_elements.proofs.Tests.{by_test}
use Rattle.coll_elements.proofs.StringOrder.{not_before_itself}
use Rattle.coll_elements.proofs.ElementOrder.{AreReached, strings_count}
use Rattle.coll_elements.specs.Elements.{begins_with}
use Rattle.coll_elements.specs.ElementOrder.{first_of}
use Rattle.coll_elements.specs.ElementOrder.{stands_before, string_there, AreAscending, AreLinked, AreBetween, IsLastBegun, IsOrder, IsString, strings_in, links_in, firsts_in}
use Rattle.coll_elements.specs.declared.element_order.OrderedElement.{OrderedElement}

-- what holds at each place and at the next one
at_each : (P : ℕ → Type 0) (count place : ℕ) → place < count + 1 → (place < count → P place) → P count → P place
at_each P count place below before last =
    by_test (λ _. P place) (nat_lt place count)
    (λ on. before ((Decides-ltb place count).0 on))
    (λ off. let here : count ≡ place = omega (arith, below, ltb-false place count off) in subst P here last)

one_more : {X : Type 0} (xs : List X) (x : X) → length (xs ++ x ∷ []) ≡ length xs + 1
one_more xs x = length-append xs (x ∷ [])

-- the string at a place before the last
string_before : (strings : List (List ℕ)) (text : List ℕ) (place : ℕ) → place < length strings → string_there (strings ++ text ∷ []) place ≡ string_there strings place
string_before strings text place below = get_or-append strings (text ∷ []) [] place below

string_last : (strings : List (List ℕ)) (text : List ℕ) → string_there (strings ++ text ∷ []) (length strings) ≡ text
string_last strings text = get_or-append_seam strings text [] []

ascending_with : (strings : List (List ℕ)) (text : List ℕ) → AreAscending strings → AreReached strings text (length strings) → AreAscending (strings ++ text ∷ [])
ascending_with strings text ascending reached earlier place order below =
    at_each (λ n. earlier ≤ n → stands_before (string_there all n) (string_there all earlier) ≡ false) (length strings) place (omega (arith, below, one_more strings text))
    (λ before low. ap₂ stands_before (string_before strings text place before) (string_before strings text earlier (omega (arith, low, before))) ∙ ascending earlier place low before)
    (λ low. ap (λ s. stands_before s (string_there all earlier)) (string_last strings text)
    ∙ at_each (λ n. stands_before text (string_there all n) ≡ false) (length strings) earlier (omega (arith, low))
    (λ before. ap (stands_before text) (string_before strings text earlier before) ∙ reached earlier before)
    (ap (stands_before text) (string_last strings text) ∙ not_before_itself text)) order where
      all : List (List ℕ)
      all = strings ++ text ∷ []

last_begun_with : (strings : List (List ℕ)) (added text : List ℕ) (bound among : ℕ) → bound ≤ length strings → IsLastBegun strings text bound among
    → IsLastBegun (strings ++ added ∷ []) text bound among
last_begun_with strings added text bound among within last = record {
  within = last.within;
  begun = λ some. ap (begins_with text) (string_before strings added (among - 1) (omega (arith, some, within, last.within))) ∙ last.begun some;
  apart = λ place low high. ap (begins_with text) (string_before strings added place (omega (arith, high, within))) ∙ last.apart place low high;
}

linked_with : (strings : List (List ℕ)) (links text : List ℕ) (among : ℕ) → length links ≡ length strings → AreLinked strings links → IsLastBegun strings text (length strings) among
    → AreLinked (strings ++ text ∷ []) (links ++ among ∷ [])
linked_with strings links text among counted linked last place below =
    at_each (λ n. IsLastBegun all (string_there all n) n (get_or (links ++ among ∷ []) n 0)) (length strings) place (omega (arith, below, one_more strings text))
    (λ before.
    subst (λ s. IsLastBegun all s place (get_or (links ++ among ∷ []) place 0)) (sym (string_before strings text place before))
    (subst (λ (n : ℕ). IsLastBegun all (string_there strings place) place n) (sym (get_or-append links (among ∷ []) 0 place (omega (arith, before, counted))))
    (last_begun_with strings text (string_there strings place) place (get_or links place 0) (omega (arith, before)) (linked place before))))
    (subst (λ s. IsLastBegun all s (length strings) (get_or (links ++ among ∷ []) (length strings) 0)) (sym (string_last strings text))
    (subst (λ (n : ℕ). IsLastBegun all text (length strings) n) (sym (ap (λ n. get_or (links ++ among ∷ []) n 0) (sym counted) ∙ get_or-append_seam links among [] 0))
    (last_begun_with strings text text (length strings) among (omega arith) last))) where
      all : List (List ℕ)
      all = strings ++ text ∷ []

-- the starts and ends of characters, of which one more string begins with this one
abbrev pub AreSet : (starts ends others behind : List ℕ) (first count : ℕ) → Type 0
AreSet starts ends others behind first count =
    ((c : ℕ) → get_or others c 0 ≡ cond ((c == first) && (get_or ends c 0 == 0)) count (get_or starts c 0))
    × ((c : ℕ) → get_or behind c 0 ≡ cond (c == first) (count + 1) (get_or ends c 0))

-- where they are set, a character's start isn't behind its end, and what it was about is still between them
record IsWider (starts ends others behind : List ℕ) (count c : ℕ) : Type 0 where
  order : get_or others c 0 ≤ get_or behind c 0
  bounded : get_or behind c 0 ≤ count + 1
  from : (place : ℕ) → get_or starts c 0 ≤ place → place < get_or ends c 0 → get_or others c 0 ≤ place
  to : get_or ends c 0 ≤ get_or behind c 0

wider : (starts ends others behind : List ℕ) (first count c : ℕ) → AreSet starts ends others behind first count → get_or starts c 0 ≤ get_or ends c 0 → get_or ends c 0 ≤ count
    → IsWider starts ends others behind count c
wider starts ends others behind first count c set order bounded =
    by_test (λ b. get_or others c 0 ≡ cond (b && (get_or ends c 0 == 0)) count (get_or starts c 0) → get_or behind c 0 ≡ cond b (count + 1) (get_or ends c 0)
    → IsWider starts ends others behind count c) (c == first)
    (λ same start end.
    by_test (λ b. get_or others c 0 ≡ cond b count (get_or starts c 0) → IsWider starts ends others behind count c) (get_or ends c 0 == 0)
    (λ none at.
    let empty = (Decides-eqb (get_or ends c 0) 0).0 none in
    record {
      order = omega (arith, at, end);
      bounded = omega (arith, end);
      from = λ place low high. absurd (omega (arith, high, empty));
      to = omega (arith, end, bounded);
    })
    (λ some at. record {
      order = omega (arith, at, end, order, bounded);
      bounded = omega (arith, end);
      from = λ place low high. omega (arith, at, low);
      to = omega (arith, end, bounded);
    }) start)
    (λ other start end. record {
      order = omega (arith, start, end, order);
      bounded = omega (arith, end, bounded);
      from = λ place low high. omega (arith, start, low);
      to = omega (arith, end);
    }) (set.0 c) (set.1 c)

-- the last that is added is between them
last_between : (starts ends others behind : List ℕ) (first count : ℕ) → AreSet starts ends others behind first count → get_or starts first 0 ≤ get_or ends first 0 → get_or ends first 0 ≤ count
    → (get_or others first 0 ≤ count) × (count < get_or behind first 0)
last_between starts ends others behind first count set order bounded =
    let same : (first == first) ≡ true = (Decides-eqb first first).1 refl in
    let start : get_or others first 0 ≡ cond (get_or ends first 0 == 0) count (get_or starts first 0) =
    set.0 first ∙ ap (λ b. cond (b && (get_or ends first 0 == 0)) count (get_or starts first 0)) same in
    let end : get_or behind first 0 ≡ count + 1 = set.1 first ∙ ap (λ b. cond b (count + 1) (get_or ends first 0)) same in (
      by_test (λ b. get_or others first 0 ≡ cond b count (get_or starts first 0) → get_or others first 0 ≤ count) (get_or ends first 0 == 0)
          (λ none at. omega (arith, at))
          (λ some at. omega (arith, at, order, bounded)) start,
      omega (arith, end),
    )

between_with : (firsts starts ends others behind : List ℕ) (first : ℕ) → AreBetween firsts starts ends → ((c : ℕ) → (get_or starts c 0 ≤ get_or ends c 0) × (get_or ends c 0 ≤ length firsts))
    → AreSet starts ends others behind first (length firsts) → AreBetween (firsts ++ first ∷ []) others behind
between_with firsts starts ends others behind first between bounded set c place below is =
    at_each (λ n. get_or (firsts ++ first ∷ []) n 4_294_967_296 ≡ c → (get_or others c 0 ≤ n) × (n < get_or behind c 0)) (length firsts) place (omega (arith, below, one_more firsts first))
    (λ before here.
    let old = between c place before (sym (get_or-append firsts (first ∷ []) 4_294_967_296 place before) ∙ here) in
    let wide = wider starts ends others behind first (length firsts) c set (bounded c).0 (bounded c).1 in
    (wide.from place old.0 old.1, omega (arith, old.1, wide.to)))
    (λ here.
    let same : first ≡ c = sym (get_or-append_seam firsts first [] 4_294_967_296) ∙ here in
    subst (λ (n : ℕ). (get_or others n 0 ≤ length firsts) × (length firsts < get_or behind n 0)) same
    (last_between starts ends others behind first (length firsts) set (bounded first).0 (bounded first).1)) is

-- the strings with one more
pub strings_with : (ordered all : List OrderedElement) (element : OrderedElement) (text : List ℕ) → IsUtf8 text → element.text ≡ chars text → all ≡ ordered ++ element ∷ []
    → strings_in all ≡ strings_in ordered ++ text ∷ []
strings_with ordered all element text utf8 made is =
    ap strings_in is ∙ (map-append (λ (e : OrderedElement). encode_utf8_all e.text) ordered (element ∷ [])
    ∙ ap (λ s. strings_in ordered ++ s ∷ []) (ap encode_utf8_all made ∙ encodes-chars text utf8))

-- one element more is in its order
pub order_with : (ordered all : List OrderedElement) (element : OrderedElement) (starts ends others behind text : List ℕ) (first count : ℕ) → IsOrder ordered starts ends
    → AreReached (strings_in ordered) text (length ordered) → IsUtf8 text → 0 < length (chars text) → element.text ≡ chars text → first ≡ first_of (chars text)
    → IsLastBegun (strings_in ordered) text (length ordered) element.among → AreSet starts ends others behind first count → count ≡ length ordered → all ≡ ordered ++ element ∷ []
    → IsOrder all others behind
order_with ordered all element starts ends others behind text first count order reached utf8 some made first_is last set counted is = record {
  ascending = subst AreAscending (sym strings) (ascending_with (strings_in ordered) text order.ascending (λ place below. reached place (omega (arith, below, strings_count ordered))));
  strings = λ place below.
      subst (λ ss. IsString (string_there ss place) (get_or (firsts_in all) place 4_294_967_296)) (sym strings)
      (subst (λ fs. IsString (string_there (strings_in ordered ++ text ∷ []) place) (get_or fs place 4_294_967_296)) (sym firsts)
      (at_each (λ n. IsString (string_there (strings_in ordered ++ text ∷ []) n) (get_or (firsts_in ordered ++ first ∷ []) n 4_294_967_296)) (length ordered) place
      (omega (arith, below, ap length is, one_more ordered element))
      (λ before.
      subst (λ s. IsString s (get_or (firsts_in ordered ++ first ∷ []) place 4_294_967_296)) (sym (string_before (strings_in ordered) text place (omega (arith, before, strings_count ordered))))
      (subst (λ (f : ℕ). IsString (string_there (strings_in ordered) place) f) (sym (get_or-append (firsts_in ordered) (first ∷ []) 4_294_967_296 place (omega (arith, before, firsts_count))))
      (order.strings place before)))
      (subst (λ s. IsString s (get_or (firsts_in ordered ++ first ∷ []) (length ordered) 4_294_967_296))
      (sym (ap (string_there (strings_in ordered ++ text ∷ [])) (sym (strings_count ordered)) ∙ string_last (strings_in ordered) text))
      (subst (λ (f : ℕ). IsString text f) (sym (ap (λ n. get_or (firsts_in ordered ++ first ∷ []) n 4_294_967_296) (sym firsts_count) ∙ get_or-append_seam (firsts_in ordered) first [] 4_294_967_296))
      (record { utf8 = utf8; some = some; first_is = sym first_is })))));
  linked =
      subst (λ ss. AreLinked ss (links_in all)) (sym strings)
      (subst (λ (ls : List ℕ). AreLinked (strings_in ordered ++ text ∷ []) ls) (sym links)
      (linked_with (strings_in ordered) (links_in ordered) text element.among (links_count ∙ sym (strings_count ordered)) order.linked
      (subst (λ (n : ℕ). IsLastBegun (strings_in ordered) text n element.among) (sym (strings_count ordered)) last)));
  between =
      subst (λ fs. AreBetween fs others behind) (sym firsts)
      (between_with (firsts_in ordered) starts ends others behind first order.between
      (λ c. ((order.bounded c).0, omega (arith, (order.bounded c).1, firsts_count)))
      (subst (λ (n : ℕ). AreSet starts ends others behind first n) (counted ∙ sym firsts_count) set));
  bounded = λ c.
      let wide = wider starts ends others behind first count c set (order.bounded c).0 (omega (arith, (order.bounded c).1, counted)) in
      (wide.order, omega (arith, wide.bounded, counted, ap length is, one_more ordered element));
} where
  strings : strings_in all ≡ strings_in ordered ++ text ∷ []
  strings = strings_with ordered all element text utf8 made is

  links : links_in all ≡ links_in ordered ++ element.among ∷ []
  links = ap links_in is ∙ map-append (λ (e : OrderedElement). e.among) ordered (element ∷ [])

  firsts : firsts_in all ≡ firsts_in ordered ++ first ∷ []
  firsts =
      ap firsts_in is ∙ (map-append (λ (e : OrderedElement). first_of e.text) ordered (element ∷ [])
      ∙ ap (λ (f : ℕ). firsts_in ordered ++ f ∷ []) (ap first_of made ∙ sym first_is))

  firsts_count : length (firsts_in ordered) ≡ length ordered
  firsts_count = length-map ordered (λ (e : OrderedElement). first_of e.text)

  links_count : length (links_in ordered) ≡ length ordered
  links_count = length-map ordered (λ (e : OrderedElement). e.among)
