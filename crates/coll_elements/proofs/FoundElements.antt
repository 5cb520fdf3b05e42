-- The last string that a text begins with, in their order, is that of its longest element.
use Rattle.std.proofs.Common.{◌≡◌, ◌<◌, ◌≤◌, ℕ, ◌-◌, true, cond, List, [], ◌∷◌, ◌++◌, length, get_or, Option, Some, None, sym, ap, subst, ◌∙◌, refl, append-nil, arith}
use Rattle.std.proofs.lemmas.Bool.{false≢true, ltb-false}
use Rattle.std.proofs.lemmas.Bool.Decides.{Decides-ltb}
use Rattle.std.proofs.lemmas.List.{length-append, length-map, get_or-map}
use Rattle.std.proofs.lemmas.Str.{chars-append, encodes-chars, encodes-append}
use Rattle.std.specs.Prelude.{chars, encode_utf8_all, nat_lt}
use Rattle.std.specs.Str.{IsUtf8}
use Rattle.coll_elements.proofs.Tests.{by_test}
use Rattle.coll_elements.proofs.ElementBeginnings.{goes_on, begins_so, other_first}
use Rattle.coll_elements.proofs.LongestElements.{size_of, longest_is, longest_none}
use Rattle.coll_elements.proofs.StringOrder.{begun_between, not_before_its_prefix, not_so}
use Rattle.coll_elements.proofs.ElementOrder.{strings_count}
use Rattle.coll_elements.proofs.SortedStrings.{there_is}
use Rattle.coll_elements.specs.Elements.{begins_with, longest}
use Rattle.coll_elements.specs.RankedElements.{RankedElement, ranked_text}
use Rattle.coll_elements.specs.NamedElements.{Finds, if_begun}
use Rattle.coll_elements.specs.ElementOrder.{first_of, string_there, AreAscending, AreStringsOf, IsLastBegun, IsOrder, IsSpelled, strings_in, places_in}
use Rattle.coll_elements.specs.declared.element_order.OrderedElement.{OrderedElement}
use Rattle.coll_elements.specs.declared.named_elements.FoundElement.{FoundElement}

-- a text begins with bytes where it begins with their characters
begun_chars : (text bytes : List ℕ) → IsUtf8 bytes → begins_with text bytes ≡ true → begins_with (chars text) (chars bytes) ≡ true
begun_chars text bytes utf8 on =
    let rest = goes_on text bytes on in
    ap (λ t. begins_with t (chars bytes)) (ap chars rest.1 ∙ chars-append bytes rest.0 utf8) ∙ begins_so (chars bytes) (chars rest.0)

begun_bytes : (text bytes : List ℕ) → IsUtf8 text → IsUtf8 bytes → begins_with (chars text) (chars bytes) ≡ true → begins_with text bytes ≡ true
begun_bytes text bytes utf8 spelled on =
    let rest = goes_on (chars text) (chars bytes) on in
    let whole : text ≡ bytes ++ encode_utf8_all rest.0 =
    sym (encodes-chars text utf8) ∙ (ap encode_utf8_all rest.1 ∙ (encodes-append (chars bytes) rest.0 ∙ ap (λ b. b ++ encode_utf8_all rest.0) (encodes-chars bytes spelled))) in
    ap (λ t. begins_with t bytes) whole ∙ begins_so bytes (encode_utf8_all rest.0)

-- a prefix of a string is no longer, and where it is as long it is the string
record IsPrefix (bytes prefix : List ℕ) : Type 0 where
  size : length (chars prefix) ≤ length (chars bytes)
  whole : length (chars bytes) ≤ length (chars prefix) → prefix ≡ bytes

prefix_of : (bytes prefix : List ℕ) → IsUtf8 bytes → IsUtf8 prefix → begins_with bytes prefix ≡ true → IsPrefix bytes prefix
prefix_of bytes prefix utf8 spelled on =
    let rest = goes_on bytes prefix on in
    let parts : chars bytes ≡ chars prefix ++ chars rest.0 = ap chars rest.1 ∙ chars-append prefix rest.0 spelled in
    let counted = ap length parts ∙ length-append (chars prefix) (chars rest.0) in
    record {
      size = omega (arith, counted);
      whole = λ small.
          let nothing : chars rest.0 ≡ [] = none_left (chars rest.0) (omega (arith, counted, small)) in
          sym (encodes-chars prefix spelled) ∙ (ap encode_utf8_all (sym (parts ∙ (ap (λ r. chars prefix ++ r) nothing ∙ append-nil (chars prefix)))) ∙ encodes-chars bytes utf8);
    } where
      none_left : (xs : List ℕ) → length xs ≤ 0 → xs ≡ []
      none_left [] small = refl
      none_left (x ∷ xs) small = absurd (omega (arith, small))

-- where the last string stands that a text begins with, its element is the longest
pub last_is_longest : (elements : List RankedElement) (strings : List (List ℕ)) (places : List ℕ) (text : List ℕ) (among : ℕ) (ranked : RankedElement) → AreStringsOf elements strings places
    → AreAscending strings → IsUtf8 text → IsLastBegun strings text (length strings) among → 0 < among → ranked ≡ get_or elements (get_or places (among - 1) 0) ranked
    → longest ranked_text elements (chars text) ≡ if_begun (chars text) ranked
last_is_longest elements strings places text among ranked order ascending utf8 last some is =
    longest_is elements (chars text) (get_or places last_at 0) ranked (order.within last_at there) is begun others ∙ sym (ap (λ b. cond b (Some ranked) None) begun) where
      last_at : ℕ
      last_at = among - 1

      there : last_at < length strings
      there = omega (arith, some, last.within)

      spelled : IsSpelled ranked (string_there strings last_at)
      spelled = order.each last_at ranked there is

      begun : begins_with (chars text) (ranked_text ranked) ≡ true
      begun = ap (begins_with (chars text)) (sym spelled.is) ∙ begun_chars text (string_there strings last_at) spelled.utf8 (last.begun some)

      others : (other : ℕ) (y : RankedElement) → other < length elements → y ≡ get_or elements other y → begins_with (chars text) (ranked_text y) ≡ true → (size_of y ≤ size_of ranked)
          × (get_or places last_at 0 < other → size_of y < size_of ranked)
      others other y within y_is on =
          let at = order.every other within in
          let string : IsSpelled y (string_there strings at.0) = order.each at.0 y at.1 (y_is ∙ ap (λ n. get_or elements n y) (sym at.2)) in
          let prefix : begins_with text (string_there strings at.0) ≡ true = begun_bytes text (string_there strings at.0) utf8 string.utf8 (ap (begins_with (chars text)) string.is ∙ on) in
          let not_behind : at.0 < among = by_test (λ _. at.0 < among) (nat_lt at.0 among)
          (λ before. (Decides-ltb at.0 among).0 before)
          (λ behind. absurd (false≢true (sym (last.apart at.0 (ltb-false at.0 among behind) at.1) ∙ prefix))) in
          let low : at.0 ≤ last_at = omega (arith, not_behind) in
          let of_last : IsPrefix (string_there strings last_at) (string_there strings at.0) =
          prefix_of (string_there strings last_at) (string_there strings at.0) spelled.utf8 string.utf8
          (begun_between (string_there strings at.0) (string_there strings last_at) text (ascending at.0 last_at low there)
          (not_before_its_prefix text (string_there strings last_at) (last.begun some)) prefix) in
          let small : length (chars (string_there strings at.0)) ≡ size_of y = ap length string.is in
          let large : length (chars (string_there strings last_at)) ≡ size_of ranked = ap length spelled.is in (
            omega (arith, of_last.size, small, large),
            λ later.
                by_test (λ _. size_of y < size_of ranked) (nat_lt (size_of y) (size_of ranked))
                (λ less. (Decides-ltb (size_of y) (size_of ranked)).0 less)
                (λ as_long.
                let same = of_last.whole (omega (arith, small, large, ltb-false (size_of y) (size_of ranked) as_long)) in
                absurd (omega (arith, later, order.alike at.0 last_at low there same, at.2))),
          )

-- where a text begins with no string, it begins with no element
pub none_is_longest : (elements : List RankedElement) (strings : List (List ℕ)) (places : List ℕ) (text : List ℕ) (among : ℕ) → AreStringsOf elements strings places → IsUtf8 text
    → IsLastBegun strings text (length strings) among → among ≤ 0 → longest ranked_text elements (chars text) ≡ None
none_is_longest elements strings places text among order utf8 last none =
    longest_none elements (chars text) (λ other y within y_is.
    let at = order.every other within in
    let string : IsSpelled y (string_there strings at.0) = order.each at.0 y at.1 (y_is ∙ ap (λ n. get_or elements n y) (sym at.2)) in
    not_so _ _ (λ on. begun_bytes text (string_there strings at.0) utf8 string.utf8 (ap (begins_with (chars text)) string.is ∙ on)) (last.apart at.0 (omega (arith, none)) at.1))

-- where no string stands between its start and its end, no element begins with a character
pub none_begins_so : (elements : List RankedElement) (ordered : List OrderedElement) (starts ends : List ℕ) (first end : ℕ) (rest : List ℕ)
    → AreStringsOf elements (strings_in ordered) (places_in ordered) → IsOrder ordered starts ends → end ≡ get_or ends first 0 → end ≤ 0 → longest ranked_text elements (first ∷ rest) ≡ None
none_begins_so elements ordered starts ends first end rest strings order end_is none =
    longest_none elements (first ∷ rest) (λ other y within y_is.
    let at = strings.every other within in
    let there : at.0 < length ordered = omega (arith, at.1, strings_count ordered) in
    let spelled : IsSpelled y (string_there (strings_in ordered) at.0) = strings.each at.0 y at.1 (y_is ∙ ap (λ n. get_or elements n y) (sym at.2)) in
    let string = order.strings at.0 there in
    other_first first rest (ranked_text y) spelled.some (λ same.
    let between = order.between first at.0 (omega (arith, there, length-map ordered (λ (x : OrderedElement). first_of x.text))) (sym string.first_is ∙ (ap first_of spelled.is ∙ same)) in
    omega (arith, between.1, end_is, none)))

-- The same, as it is found in code.

-- what is found in a list is found in the same
last_in : (ordered items : List OrderedElement) (text : List ℕ) (among : ℕ) → items ≡ ordered → IsLastBegun (strings_in items) text (length items) among
    → IsLastBegun (strings_in ordered) text (length (strings_in ordered)) among
last_in ordered items text among same last =
    subst (λ (n : ℕ). IsLastBegun (strings_in ordered) text n among) (sym (strings_count ordered)) (subst (λ xs. IsLastBegun (strings_in xs) text (length xs) among) same last)

-- no string is found
pub none_found : (elements : List RankedElement) (ordered items : List OrderedElement) (text : List ℕ) (among : ℕ) → AreStringsOf elements (strings_in ordered) (places_in ordered) → IsUtf8 text
    → items ≡ ordered → IsLastBegun (strings_in items) text (length items) among → among ≤ 0 → Finds (longest ranked_text elements (chars text)) (chars text) None
none_found elements ordered items text among order utf8 same last none =
    subst (λ (o : Option RankedElement). Finds o (chars text) None)
    (sym (none_is_longest elements (strings_in ordered) (places_in ordered) text among order utf8 (last_in ordered items text among same last) none)) refl

-- the place of an element in the order of the declarations
place_is : (ordered : List OrderedElement) (at place : ℕ) (element : OrderedElement) → at < length ordered → element ≡ get_or ordered at element → place ≡ element.place
    → get_or (places_in ordered) at 0 ≡ place
place_is ordered at place element there is found =
    get_or-map (λ (e : OrderedElement). e.place) ordered at element 0 there ∙ (ap (λ (e : OrderedElement). e.place) (sym is) ∙ sym found)

pub place_within : (elements : List RankedElement) (ordered : List OrderedElement) (at place : ℕ) (element : OrderedElement) → AreStringsOf elements (strings_in ordered) (places_in ordered)
    → at < length ordered → element ≡ get_or ordered at element → place ≡ element.place → place < length elements
place_within elements ordered at place element order there is found =
    omega (arith, place_is ordered at place element there is found, order.within at (omega (arith, there, strings_count ordered)))

-- an element is found
pub found_there : (elements : List RankedElement) (ordered items : List OrderedElement) (text : List ℕ) (among place : ℕ) (element : OrderedElement) (found : Option FoundElement)
    → AreStringsOf elements (strings_in ordered) (places_in ordered) → AreAscending (strings_in ordered) → IsUtf8 text → items ≡ ordered → among ≤ length items
    → IsLastBegun (strings_in items) text (length items) among → 0 < among → element ≡ get_or ordered (among - 1) element → place ≡ element.place
    → ((ranked : RankedElement) → ranked ≡ get_or elements place ranked → Finds (if_begun (chars text) ranked) (chars text) found)
    → Finds (longest ranked_text elements (chars text)) (chars text) found
found_there elements ordered items text among place element found order ascending utf8 same within last some is placed finds =
    let there : among - 1 < length ordered = omega (arith, some, within, ap length same) in
    let number = place_is ordered (among - 1) place element there is placed in
    let ranked = there_is elements place (place_within elements ordered (among - 1) place element order there is placed) in
    subst (λ (o : Option RankedElement). Finds o (chars text) found)
    (sym (last_is_longest elements (strings_in ordered) (places_in ordered) text among ranked.0 order ascending utf8 (last_in ordered items text among same last) some
    (ranked.1 ∙ ap (λ n. get_or elements n ranked.0) (sym number))))
    (finds ranked.0 ranked.1)
