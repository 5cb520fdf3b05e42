-- Elements in the order of their strings: each step of a search, and what one more element does.
use Rattle.std.proofs.Common.{◌≡◌, ◌<◌, ◌≤◌, ℕ, ◌+◌, ◌-◌, ◌/◌, Bool, true, false, List, [], ◌∷◌, ◌++◌, length, get_or, drop, None, sym, ap, subst, ◌∙◌, refl, arith}
use Rattle.std.specs.Prelude.{nat_lt}
use Rattle.std.proofs.lemmas.Bool.{ltb-false}
use Rattle.std.proofs.lemmas.Bool.Decides.{Decides-ltb, Decides-eqb}
use Rattle.coll_elements.proofs.Tests.{by_test}
use Rattle.coll_elements.proofs.StringOrder.{not_so, begun_between, not_begun_behind, not_before_all}
use Rattle.std.specs.Prelude.{chars, encode_utf8_all, MatchBool}
use Rattle.std.specs.Str.{IsUtf8}
use Rattle.coll_elements.specs.ElementOrder.{first_of}
use Rattle.std.specs.Ordering.{is_lt, nat_cmp}
use Rattle.std.specs.Cmp.Lexicographic.{slice_cmp}
use Rattle.std.specs.declared.cmp.Ordering.{Ordering}
use Rattle.std.specs.Str.Pattern.{HasPrefixMatch, FindsTextPrefix}
use Rattle.std.proofs.lemmas.Str.{chars-append}
use Rattle.std.proofs.lemmas.Str.Pattern.{starts_text}
use Rattle.std.proofs.lemmas.Slice.Eq.{starts_is}
use Rattle.std.proofs.lemmas.List.{get_or-map, length-map}
use Rattle.coll_elements.proofs.ElementBeginnings.{goes_on, begins_so}
use Rattle.coll_elements.specs.Elements.{begins_with}
use Rattle.coll_elements.specs.ElementOrder.{stands_before, string_there, AreAscending, AreLinked, IsLastBegun, IsOrder, strings_in, links_in}
use Rattle.coll_elements.specs.declared.element_order.OrderedElement.{OrderedElement}

-- a text has the first character of a string that it begins with
first_is : (text rest bytes : List ℕ) (first : ℕ) → chars text ≡ first ∷ rest → IsUtf8 bytes → 0 < length (chars bytes) → begins_with text bytes ≡ true → first_of (chars bytes) ≡ first
first_is text rest bytes first starts_so utf8 some on =
    let behind = goes_on text bytes on in
    by (chars bytes) some (sym (ap chars behind.1 ∙ chars-append bytes behind.0 utf8) ∙ starts_so) where
      by : (prefix : List ℕ) → 0 < length prefix → prefix ++ chars (goes_on text bytes on).0 ≡ first ∷ rest → first_of prefix ≡ first
      by [] none e = absurd (omega (arith, none))
      by (c ∷ prefix) some e = ap first_of e

-- a text begins with none of the strings between two places
abbrev pub NoneBegun : (strings : List (List ℕ)) → (text : List ℕ) → (from to : ℕ) → Type 0
NoneBegun strings text from to = (place : ℕ) → from ≤ place → place < to → begins_with text (string_there strings place) ≡ false

-- so many strings stand at or before a text
abbrev pub AreReached : (strings : List (List ℕ)) → (text : List ℕ) → (count : ℕ) → Type 0
AreReached strings text count = (place : ℕ) → place < count → stands_before text (string_there strings place) ≡ false

-- where a text doesn't begin with a string, what it begins with before that is among so many as its link says
pub none_to_link : (strings : List (List ℕ)) (links text : List ℕ) (among left : ℕ) → AreAscending strings → AreLinked strings links → among ≤ length strings → AreReached strings text among → 0 < left
    → left ≤ among → begins_with text (string_there strings (left - 1)) ≡ false → NoneBegun strings text left among → NoneBegun strings text (get_or links (left - 1) 0) among
none_to_link strings links text among left ascending linked within reached some below off apart place low high =
    by_test (λ b. begins_with text (string_there strings place) ≡ false) (nat_lt place (left - 1))
    (λ on.
    let before : place < left - 1 = (Decides-ltb place (left - 1)).0 on in
    not_so _ _ (begun_between (string_there strings place) (string_there strings (left - 1)) text
    (ascending place (left - 1) (omega (arith, before)) (omega arith))
    (reached (left - 1) (omega arith)))
    ((linked (left - 1) (omega arith)).apart place low before))
    (λ behind.
    let from : left - 1 ≤ place = ltb-false place (left - 1) behind in
    by_test (λ b. begins_with text (string_there strings place) ≡ false) (nat_lt place left)
    (λ here.
    let same : left - 1 ≡ place = omega (arith, from, (Decides-ltb place left).0 here) in
    ap (λ n. begins_with text (string_there strings n)) (sym same) ∙ off)
    (λ later. apart place (ltb-false place left later) high))

-- strings up to one that stands at or before a text do so too
pub reached_to : (strings : List (List ℕ)) (text : List ℕ) (middle : ℕ) → AreAscending strings → middle < length strings → stands_before text (string_there strings middle) ≡ false
    → AreReached strings text (middle + 1)
reached_to strings text middle ascending there at place low =
    not_before_all (string_there strings place) (string_there strings middle) text (ascending place middle (omega (arith, low)) there) at

-- a text begins with none from one on that it stands before
pub none_from : (strings : List (List ℕ)) (text : List ℕ) (middle high to : ℕ) → AreAscending strings → to ≤ length strings → stands_before text (string_there strings middle) ≡ true
    → NoneBegun strings text high to → NoneBegun strings text middle to
none_from strings text middle high to ascending within before apart place low below =
    none_of (begins_with text (string_there strings place))
    (λ on. not_begun_behind (string_there strings place) (string_there strings middle) text before (ascending middle place low (omega (arith, below, within))) on) where
      none_of : (b : Bool) → (b ≡ true → ⊥) → b ≡ false
      none_of true never = absurd (never refl)
      none_of false never = refl

-- what a test for a prefix says
pub begun_by_test : (found : Bool) (string text : List ℕ) → MatchBool found (HasPrefixMatch (FindsTextPrefix string) text) (FindsTextPrefix string text None) → begins_with text string ≡ found
begun_by_test found string text cases =
    let told = starts_is Decides-eqb text string found (starts_text found string text cases) in
    by found told.0 told.1 where
      by : (b : Bool) → (b ≡ true → text ≡ string ++ drop (length string) text) → ((rest : List ℕ) → text ≡ string ++ rest → b ≡ true) → begins_with text string ≡ b
      by true is so = ap (λ t. begins_with t string) (is refl) ∙ begins_so string (drop (length string) text)
      by false is so = not_so _ _ (λ on. let rest = goes_on text string on in so rest.0 rest.1) refl

-- the string and the link of the element at a place
pub string_is : (ordered : List OrderedElement) (place : ℕ) (element : OrderedElement) (bytes : List ℕ) → place < length ordered → element ≡ get_or ordered place element
    → encode_utf8_all element.text ≡ bytes → string_there (strings_in ordered) place ≡ bytes
string_is ordered place element bytes there is spelled =
    get_or-map (λ (e : OrderedElement). encode_utf8_all e.text) ordered place element [] there ∙ (ap (λ (e : OrderedElement). encode_utf8_all e.text) (sym is) ∙ spelled)

pub link_is : (ordered : List OrderedElement) (place : ℕ) (element : OrderedElement) → place < length ordered → element ≡ get_or ordered place element
    → get_or (links_in ordered) place 0 ≡ element.among
link_is ordered place element there is =
    get_or-map (λ (e : OrderedElement). e.among) ordered place element 0 there ∙ ap (λ (e : OrderedElement). e.among) (sym is)

pub strings_count : (ordered : List OrderedElement) → length (strings_in ordered) ≡ length ordered
strings_count ordered = length-map ordered (λ (e : OrderedElement). encode_utf8_all e.text)

-- one step of the walk, at the element that stands there
pub record StepsDown (ordered : List OrderedElement) (text : List ℕ) (among left link : ℕ) : Type 0 where
  pub below : link < left
  pub apart : NoneBegun (strings_in ordered) text link among

pub steps_down : (ordered : List OrderedElement) (element : OrderedElement) (text bytes : List ℕ) (found : Bool) (among left : ℕ) → among ≤ length ordered → AreAscending (strings_in ordered)
    → AreLinked (strings_in ordered) (links_in ordered) → AreReached (strings_in ordered) text among → 0 < left → left ≤ among → element ≡ get_or ordered (left - 1) element
    → encode_utf8_all element.text ≡ bytes → MatchBool found (HasPrefixMatch (FindsTextPrefix bytes) text) (FindsTextPrefix bytes text None) → found ≡ false
    → NoneBegun (strings_in ordered) text left among → StepsDown ordered text among left element.among
steps_down ordered element text bytes found among left within ascending linked reached some below is spelled cases off apart =
    let there : left - 1 < length ordered = omega (arith, within, some, below) in
    let counted = strings_count ordered in
    let string = string_is ordered (left - 1) element bytes there is spelled in
    let link = link_is ordered (left - 1) element there is in
    let not_begun : begins_with text (string_there (strings_in ordered) (left - 1)) ≡ false = ap (begins_with text) string ∙ (begun_by_test found bytes text cases ∙ off) in
    record {
      below = omega (arith, some, link, (linked (left - 1) (omega (arith, there, counted))).within);
      apart = subst (λ (n : ℕ). NoneBegun (strings_in ordered) text n among) link
          (none_to_link (strings_in ordered) (links_in ordered) text among left ascending linked (omega (arith, within, counted)) reached some below not_begun apart);
    }

-- the walk ends where the text begins with the element
pub ends_begun : (ordered : List OrderedElement) (element : OrderedElement) (text bytes : List ℕ) (found : Bool) (among left : ℕ) → among ≤ length ordered → 0 < left → left ≤ among
    → element ≡ get_or ordered (left - 1) element → encode_utf8_all element.text ≡ bytes → MatchBool found (HasPrefixMatch (FindsTextPrefix bytes) text) (FindsTextPrefix bytes text None)
    → found ≡ true → NoneBegun (strings_in ordered) text left among → IsLastBegun (strings_in ordered) text among left
ends_begun ordered element text bytes found among left within some below is spelled cases on apart = record {
  within = below;
  begun = λ _. ap (begins_with text) (string_is ordered (left - 1) element bytes (omega (arith, within, some, below)) is spelled) ∙ (begun_by_test found bytes text cases ∙ on);
  apart = apart;
}

-- the walk ends where nothing is left
pub ends_empty : (strings : List (List ℕ)) (text : List ℕ) (among left : ℕ) → left ≤ 0 → NoneBegun strings text left among → IsLastBegun strings text among 0
ends_empty strings text among left none apart = record {
  within = omega arith;
  begun = λ some. absurd (omega (arith, some));
  apart = λ place low high. apart place (omega (arith, none)) high;
}

-- half of a number that isn't 0 is less
pub half_below : (n : ℕ) → 0 < n → n / 2 < n
half_below n some = omega (arith, some)

-- a string in the middle that the text stands before, and one that it doesn't
pub halves_down : (ordered : List OrderedElement) (element : OrderedElement) (text bytes : List ℕ) (order : Ordering) (less : Bool) (middle high to : ℕ) → to ≤ length ordered
    → AreAscending (strings_in ordered) → middle < length ordered → element ≡ get_or ordered middle element → encode_utf8_all element.text ≡ bytes → order ≡ slice_cmp nat_cmp text bytes
    → less ≡ is_lt order → less ≡ true → NoneBegun (strings_in ordered) text high to → NoneBegun (strings_in ordered) text middle to
halves_down ordered element text bytes order less middle high to within ascending there is spelled compared told on apart =
    none_from (strings_in ordered) text middle high to ascending (omega (arith, within, strings_count ordered))
    (ap (stands_before text) (string_is ordered middle element bytes there is spelled) ∙ (ap is_lt (sym compared) ∙ (sym told ∙ on))) apart

pub halves_up : (ordered : List OrderedElement) (element : OrderedElement) (text bytes : List ℕ) (order : Ordering) (less : Bool) (middle : ℕ) → AreAscending (strings_in ordered)
    → middle < length ordered → element ≡ get_or ordered middle element → encode_utf8_all element.text ≡ bytes → order ≡ slice_cmp nat_cmp text bytes → less ≡ is_lt order → less ≡ false
    → AreReached (strings_in ordered) text (middle + 1)
halves_up ordered element text bytes order less middle ascending there is spelled compared told off =
    reached_to (strings_in ordered) text middle ascending (omega (arith, there, strings_count ordered))
    (ap (stands_before text) (string_is ordered middle element bytes there is spelled) ∙ (ap is_lt (sym compared) ∙ (sym told ∙ off)))

-- a text begins with no element that doesn't stand between the start and the end of its first character
pub none_beside : (ordered : List OrderedElement) (starts ends : List ℕ) (text rest : List ℕ) (first place : ℕ) → IsOrder ordered starts ends → chars text ≡ first ∷ rest → place < length ordered
    → ((get_or starts first 0 ≤ place) → (place < get_or ends first 0) → begins_with text (string_there (strings_in ordered) place) ≡ false)
    → begins_with text (string_there (strings_in ordered) place) ≡ false
none_beside ordered starts ends text rest first place order starts_so there inside =
    by_none (begins_with text (string_there (strings_in ordered) place)) (λ on.
    let string = order.strings place there in
    let same = first_is text rest (string_there (strings_in ordered) place) first starts_so string.utf8 string.some on in
    let between = order.between first place (omega (arith, there, length-map ordered (λ (x : OrderedElement). first_of x.text))) (sym string.first_is ∙ same) in
    inside between.0 between.1) where
      by_none : (b : Bool) → (b ≡ true → b ≡ false) → b ≡ false
      by_none true so = so refl
      by_none false so = refl

-- where nothing between the two stands at or before a text, it begins with none
pub none_at_start : (ordered : List OrderedElement) (starts ends : List ℕ) (text rest : List ℕ) (first start end among : ℕ) → IsOrder ordered starts ends → chars text ≡ first ∷ rest
    → start ≡ get_or starts first 0 → end ≡ get_or ends first 0 → NoneBegun (strings_in ordered) text among end → among ≡ start → IsLastBegun (strings_in ordered) text (length ordered) 0
none_at_start ordered starts ends text rest first start end among order starts_so start_is end_is apart same = record {
  within = omega arith;
  begun = λ some. absurd (omega (arith, some));
  apart = λ place low high. none_beside ordered starts ends text rest first place order starts_so high (λ from to. apart place (omega (arith, from, start_is, same)) (omega (arith, to, end_is)));
}

-- the last that a text begins with, of those up to the text, is the last of all
pub all_begun : (ordered : List OrderedElement) (starts ends : List ℕ) (text rest : List ℕ) (first start end among found : ℕ) → IsOrder ordered starts ends → chars text ≡ first ∷ rest
    → start ≡ get_or starts first 0 → end ≡ get_or ends first 0 → among ≤ end → NoneBegun (strings_in ordered) text among end → IsLastBegun (strings_in ordered) text among found
    → IsLastBegun (strings_in ordered) text (length ordered) found
all_begun ordered starts ends text rest first start end among found order starts_so start_is end_is to apart last = record {
  within = omega (arith, to, end_is, (order.bounded first).1, last.within);
  begun = last.begun;
  apart = λ place low high.
      by_test (λ b. begins_with text (string_there (strings_in ordered) place) ≡ false) (nat_lt place among)
      (λ on. last.apart place low ((Decides-ltb place among).0 on))
      (λ behind. none_beside ordered starts ends text rest first place order starts_so high (λ from below. apart place (ltb-false place among behind) (omega (arith, below, end_is))));
}
