-- Neighbours in one list and in another: as many pairs are lost as are new, and the new ones are told by what stands beside each word.
use Rattle.std.proofs.Common.{◌≡◌, ℕ, zero, suc, ◌+◌, ◌<◌, ◌≤◌, ◌==◌, ◌&&◌, ◌||◌, not, Bool, true, false, cond, if◌then◌else◌, List, [], ◌∷◌, length, refl, sym, ap, subst, ◌∙◌, arith}
use Rattle.std.proofs.Common.{eq-eqb}
use Rattle.std.specs.Prelude.{All, filter}
use Rattle.std.specs.List.{list_any}
use Rattle.std.specs.List.Sorted.{IsPermutation}
use Rattle.std.proofs.lemmas.Bool.{ne_eqb, eqb-true}
use Rattle.std.proofs.lemmas.List.Elements.{All-cons, All-nil}
use Rattle.std.proofs.lemmas.List.Sorted.{All-permutation, IsPermutation-map, length_permutation}
use Rattle.coll_elements.proofs.Tests.{by_test}
use Rattle.coll_key.proofs.KeyOrder.{All-first, All-others}
use Rattle.coll_reviews.specs.ListedWords.{all_numbered, led_by, newly_beside, numbered_of}
use Rattle.coll_word_lists.specs.Neighbours.{NumberedWord, WordPair, neighbours, is_same_pair, are_neighbours, only_in}
use Rattle.coll_word_lists.specs.NumberedWords.{HaveLines}
use Rattle.coll_word_lists.proofs.NumberedLemmas.{lines_still}
use Rattle.coll_reviews.specs.declared.listed_words.ListedWord.{ListedWord}

-- Counts.

-- one where a test holds
abbrev one : Bool → ℕ
one b = cond b 1 0

-- the sum of a number of each member
abbrev total : {X : Type 0} → (X → ℕ) → List X → ℕ
total f [] = 0
total f (x ∷ xs) = f x + total f xs

-- how many members pass a test
abbrev count : {X : Type 0} → (X → Bool) → List X → ℕ
count p xs = total (λ x. one (p x)) xs

any_step : (b a : Bool) (n : ℕ) → one b + n ≤ 1 → (n ≤ 1 → one a ≡ n) → one (b || a) ≡ one b + n
any_step true a n few ih = omega (arith, few)
any_step false a n few ih = omega (arith, ih (omega (arith, few)))

none_of : (b : Bool) → one b ≡ 0 → b ≡ false
none_of true e = absurd (omega (arith, e))
none_of false e = refl

module _ {X : Type 0} where
  total_alike : (f g : X → ℕ) (xs : List X) → ((x : X) → f x ≡ g x) → total f xs ≡ total g xs
  total_alike f g [] same = refl
  total_alike f g (x ∷ xs) same = omega (arith, same x, total_alike f g xs same)

  total_none : (xs : List X) → total (λ (x : X). 0) xs ≡ 0
  total_none [] = refl
  total_none (x ∷ xs) = omega (arith, total_none xs)

  total_both : (f g : X → ℕ) (xs : List X) → total (λ x. f x + g x) xs ≡ total f xs + total g xs
  total_both f g [] = refl
  total_both f g (x ∷ xs) = omega (arith, total_both f g xs)

  passed_one : (b : Bool) (x : X) (xs : List X) → length (cond b (x ∷ xs) xs) ≡ one b + length xs
  passed_one true x xs = omega arith
  passed_one false x xs = omega arith

  passed_count : (p : X → Bool) (xs : List X) → length (filter p xs) ≡ count p xs
  passed_count p [] = refl
  passed_count p (x ∷ xs) = omega (arith, passed_one (p x) x (filter p xs), passed_count p xs)

  failed_one : (b : Bool) (x : X) (xs : List X) → length (cond (not b) (x ∷ xs) xs) + one b ≡ suc (length xs)
  failed_one true x xs = omega arith
  failed_one false x xs = omega arith

  -- those that fail a test and those that pass it are all
  failed_count : (p : X → Bool) (xs : List X) → length (filter (λ x. not (p x)) xs) + count p xs ≡ length xs
  failed_count p [] = refl
  failed_count p (x ∷ xs) = omega (arith, failed_one (p x) x (filter (λ x. not (p x)) xs), failed_count p xs)

  -- whether one passes is told by how many do, where that is one at most
  any_count : (p : X → Bool) (xs : List X) → count p xs ≤ 1 → one (list_any p xs) ≡ count p xs
  any_count p [] few = refl
  any_count p (x ∷ xs) few = any_step (p x) (list_any p xs) (count p xs) few (any_count p xs)

  any_none : (p : X → Bool) (xs : List X) → count p xs ≡ 0 → list_any p xs ≡ false
  any_none p xs none = none_of (list_any p xs) (any_count p xs (omega (arith, none)) ∙ none)

-- the sums of rows and those of columns
crossed : {X Y : Type 0} (f : X → Y → ℕ) (xs : List X) (ys : List Y) → total (λ x. total (f x) ys) xs ≡ total (λ y. total (λ x. f x y) xs) ys
crossed f [] ys = sym (total_none ys)
crossed f (x ∷ xs) ys = ap (λ n. total (f x) ys + n) (crossed f xs ys) ∙ sym (total_both (f x) (λ y. total (λ x. f x y) xs) ys)

-- Lines.

-- how many words have a line
abbrev at_line : ℕ → List NumberedWord → ℕ
at_line line words = count (λ (word : NumberedWord). line == word.line) words

same_number : (n m : ℕ) → (n == m) ≡ (m == n)
same_number n m =
    by_test (λ b. b ≡ (m == n)) (n == m)
    (λ on. sym (eq-eqb m n (sym (eqb-true n m on))))
    (λ off. sym (ne_eqb m n (λ same. absurd (true_false (sym (eq-eqb n m (sym same)) ∙ off)))))
  where
    true_false : true ≡ false → ⊥
    true_false e = absurd cc

once_each : (words : List NumberedWord) → HaveLines words → (line : ℕ) → at_line line words ≤ 1
once_each words lines line = omega (arith, lines.once line, passed_count (λ (word : NumberedWord). line == word.line) words)

-- Pairs.

both_last : (a b : Bool) → one (a && b) ≤ one b
both_last true b = omega arith
both_last false true = omega arith
both_last false false = omega arith

-- a pair is once among neighbours, if its second word is once among those behind the first
second_counts : (pair : WordPair) (word : NumberedWord) (words : List NumberedWord) → count (is_same_pair pair) (neighbours (word ∷ words)) ≤ at_line pair.1.line words
second_counts pair word [] = omega arith
second_counts pair word (next ∷ words) = omega (arith, both_last (pair.0.line == word.line) (pair.1.line == next.line), second_counts pair next words)

pair_once : (words : List NumberedWord) → HaveLines words → (pair : WordPair) → count (is_same_pair pair) (neighbours words) ≤ 1
pair_once [] lines pair = omega arith
pair_once (word ∷ words) lines pair = omega (arith, second_counts pair word words, once_each (word ∷ words) lines pair.1.line)

same_back : (pair other : WordPair) → is_same_pair pair other ≡ is_same_pair other pair
same_back pair other =
    ap (λ b. b && (pair.1.line == other.1.line)) (same_number pair.0.line other.0.line)
    ∙ ap (λ b. (other.0.line == pair.0.line) && b) (same_number pair.1.line other.1.line)

-- the neighbours that two lists have in common, counted in either
common_alike : (words others : List NumberedWord) → HaveLines words → HaveLines others
    → count (are_neighbours others) (neighbours words) ≡ count (are_neighbours words) (neighbours others)
common_alike words others lines other_lines =
    total_alike (λ pair. one (are_neighbours others pair)) (λ pair. count (is_same_pair pair) (neighbours others)) (neighbours words)
    (λ pair. any_count (is_same_pair pair) (neighbours others) (pair_once others other_lines pair))
    ∙ crossed (λ pair other. one (is_same_pair pair other)) (neighbours words) (neighbours others)
    ∙ total_alike (λ other. total (λ pair. one (is_same_pair pair other)) (neighbours words)) (λ other. count (is_same_pair other) (neighbours words)) (neighbours others)
    (λ other. total_alike (λ pair. one (is_same_pair pair other)) (λ pair. one (is_same_pair other pair)) (neighbours words) (λ pair. ap one (same_back pair other)))
    ∙ sym (total_alike (λ other. one (are_neighbours words other)) (λ other. count (is_same_pair other) (neighbours words)) (neighbours others)
    (λ other. any_count (is_same_pair other) (neighbours words) (pair_once words lines other)))

-- one pair less than words
fewer_pairs : (word : NumberedWord) (words : List NumberedWord) → length (neighbours (word ∷ words)) ≡ length words
fewer_pairs word [] = refl
fewer_pairs word (next ∷ words) = omega (arith, fewer_pairs next words)

as_many_pairs : (words others : List NumberedWord) → length words ≡ length others → length (neighbours words) ≡ length (neighbours others)
as_many_pairs [] [] same = refl
as_many_pairs [] (other ∷ others) same = absurd (omega (arith, same))
as_many_pairs (word ∷ words) [] same = absurd (omega (arith, same))
as_many_pairs (word ∷ words) (other ∷ others) same = omega (arith, same, fewer_pairs word words, fewer_pairs other others)

-- as many pairs are neighbours no longer as are new
pub as_many_lost : (old new : List NumberedWord) → HaveLines old → HaveLines new → length old ≡ length new → length (only_in old new) ≡ length (only_in new old)
as_many_lost old new lines new_lines same =
    omega (
      arith,
      failed_count (are_neighbours new) (neighbours old),
      failed_count (are_neighbours old) (neighbours new),
      common_alike old new lines new_lines,
      as_many_pairs old new same,
    )

-- What stands beside a word.

-- the word of one line stands directly before that of another
abbrev beside : List NumberedWord → ℕ → ℕ → Bool
beside words first second = list_any (λ (pair : WordPair). (first == pair.0.line) && (second == pair.1.line)) (neighbours words)

-- beside a word stands the line of the one before it in a list
abbrev IsLedIn : List NumberedWord → ListedWord → Type 0
IsLedIn words listed = (line : ℕ) → beside words line listed.line ≡ (line == listed.leader)

-- no word has the line
absent : (first line : ℕ) (word : NumberedWord) (words : List NumberedWord) → at_line line words ≡ 0 → beside (word ∷ words) first line ≡ false
absent first line word words none =
    let pair : WordPair = (record { line = first; text = [] }, record { line = line; text = [] }) in
    any_none (is_same_pair pair) (neighbours (word ∷ words)) (omega (arith, none, second_counts pair word words))

others_lines : (line leader : ℕ) (list : List ListedWord) → at_line line (all_numbered list) ≡ 0 → All (λ (listed : ListedWord). (listed.line == line) ≡ false) (led_by leader list)
others_lines line leader [] none = All-nil (λ (listed : ListedWord). (listed.line == line) ≡ false)
others_lines line leader (listed ∷ list) none =
    All-cons (λ (listed : ListedWord). (listed.line == line) ≡ false) (record listed { leader = leader }) (led_by listed.line list)
    (same_number listed.line line ∙ none_of (line == listed.line) (omega (arith, none))) (others_lines line listed.line list (omega (arith, none)))

led_more : (before first : NumberedWord) (words : List NumberedWord) (list : List ListedWord) → All (IsLedIn (first ∷ words)) list
    → All (λ (listed : ListedWord). (listed.line == first.line) ≡ false) list → All (IsLedIn (before ∷ first ∷ words)) list
led_more before first words [] led others = All-nil (IsLedIn (before ∷ first ∷ words))
led_more before first words (listed ∷ list) led others =
    All-cons (IsLedIn (before ∷ first ∷ words)) listed list
    (λ line. ap (λ b. ((line == before.line) && b) || beside (first ∷ words) line listed.line) (All-first (λ (listed : ListedWord). (listed.line == first.line) ≡ false) listed list others)
    ∙ never (line == before.line) (beside (first ∷ words) line listed.line) ∙ All-first (IsLedIn (first ∷ words)) listed list led line)
    (led_more before first words list (All-others (IsLedIn (first ∷ words)) listed list led) (All-others (λ (listed : ListedWord). (listed.line == first.line) ≡ false) listed list others))
  where
    never : (a b : Bool) → ((a && false) || b) ≡ b
    never true b = refl
    never false b = refl

-- each word is led by the one before it, the first by this one
led_along : (before : NumberedWord) (list : List ListedWord) → ((line : ℕ) → at_line line (all_numbered list) ≤ 1) → All (IsLedIn (before ∷ all_numbered list)) (led_by before.line list)
led_along before [] once = All-nil (IsLedIn (before ∷ []))
led_along before (listed ∷ list) once =
    All-cons (IsLedIn (before ∷ all_numbered (listed ∷ list))) (record listed { leader = before.line }) (led_by listed.line list)
    (λ line. ap (λ b. ((line == before.line) && b) || beside (all_numbered (listed ∷ list)) line listed.line) itself
    ∙ ap (λ b. ((line == before.line) && true) || b) (absent line listed.line (numbered_of listed) (all_numbered list) none) ∙ only (line == before.line))
    (led_more before (numbered_of listed) (all_numbered list) (led_by listed.line list)
    (led_along (numbered_of listed) list (λ line. omega (arith, once line))) (others_lines listed.line listed.line list none))
  where
    itself : (listed.line == listed.line) ≡ true
    itself = eq-eqb listed.line listed.line refl

    none : at_line listed.line (all_numbered list) ≡ 0
    none = omega (arith, once listed.line, ap one itself)

    only : (a : Bool) → ((a && true) || false) ≡ a
    only true = refl
    only false = refl

-- a line that is no line of a word stands before none
nothing_before : (words : List NumberedWord) (line other : ℕ) → 0 < line → beside (record { line = 0; text = [] } ∷ words) line other ≡ beside words line other
nothing_before [] line other above = refl
nothing_before (word ∷ words) line other above =
    ap (λ b. (b && (other == word.line)) || beside (word ∷ words) line other) (ne_eqb line 0 (λ same. omega (arith, above, same)))

-- beside each word of a list that was led stands the line of the one before it
abbrev IsLedWithin : List NumberedWord → ListedWord → Type 0
IsLedWithin words listed = (line : ℕ) → 0 < line → beside words line listed.line ≡ (line == listed.leader)

led_within : (words : List NumberedWord) (list : List ListedWord) → All (IsLedIn (record { line = 0; text = [] } ∷ words)) list → All (IsLedWithin words) list
led_within words [] led = All-nil (IsLedWithin words)
led_within words (listed ∷ list) led =
    All-cons (IsLedWithin words) listed list
    (λ line above. sym (nothing_before words line listed.line above) ∙ All-first (IsLedIn (record { line = 0; text = [] } ∷ words)) listed list led line)
    (led_within words list (All-others (IsLedIn (record { line = 0; text = [] } ∷ words)) listed list led))

-- the pairs that are told to be new are those that are no neighbours in the old list
told_new : (words : List NumberedWord) (list : List ListedWord) → All (IsLedWithin words) list → All (λ (word : NumberedWord). 0 < word.line) (all_numbered list)
    → newly_beside list ≡ only_in (all_numbered list) words
told_new words [] led above = refl
told_new words (listed ∷ []) led above = refl
told_new words (listed ∷ next ∷ list) led above =
    let pair : WordPair = (numbered_of listed, numbered_of next) in
    let later = told_new words (next ∷ list) (All-others (IsLedWithin words) listed (next ∷ list) led)
    (All-others (λ (word : NumberedWord). 0 < word.line) (numbered_of listed) (all_numbered (next ∷ list)) above) in
    either (listed.line == next.leader) pair (newly_beside (next ∷ list))
    ∙ ap (λ (pairs : List WordPair). cond (not (listed.line == next.leader)) (pair ∷ pairs) pairs) later
    ∙ ap (λ (b : Bool). cond (not b) (pair ∷ only_in (all_numbered (next ∷ list)) words) (only_in (all_numbered (next ∷ list)) words))
    (sym (All-first (IsLedWithin words) next list (All-others (IsLedWithin words) listed (next ∷ list) led) listed.line
    (All-first (λ (word : NumberedWord). 0 < word.line) (numbered_of listed) (all_numbered (next ∷ list)) above)))
  where
    either : (b : Bool) (pair : WordPair) (pairs : List WordPair) → (if b then pairs else pair ∷ pairs) ≡ cond (not b) (pair ∷ pairs) pairs
    either true pair pairs = refl
    either false pair pairs = refl

-- a list that was led stays the same words
pub numbered_still : (leader : ℕ) (list : List ListedWord) → all_numbered (led_by leader list) ≡ all_numbered list
numbered_still leader [] = refl
numbered_still leader (listed ∷ list) = ap (λ (words : List NumberedWord). numbered_of listed ∷ words) (numbered_still listed.line list)

module _ (from new : List ListedWord) (moved : IsPermutation (led_by zero from) new) (lines : HaveLines (all_numbered from)) where
  -- the words are the same in another order
  pub moved_words : IsPermutation (all_numbered from) (all_numbered new)
  moved_words = subst (λ (words : List NumberedWord). IsPermutation words (all_numbered new)) (numbered_still zero from) (IsPermutation-map numbered_of (led_by zero from) new moved)

  new_lines : HaveLines (all_numbered new)
  new_lines = lines_still (all_numbered from) (all_numbered new) moved_words lines

  -- what is told to be new
  pub new_told : newly_beside new ≡ only_in (all_numbered new) (all_numbered from)
  new_told =
      told_new (all_numbered from) new
      (All-permutation (IsLedWithin (all_numbered from)) (led_by zero from) new moved
      (led_within (all_numbered from) (led_by zero from) (led_along (record { line = 0; text = [] }) from (once_each (all_numbered from) lines))))
      new_lines.above

  -- and how many were lost
  pub lost_told : length (newly_beside new) ≡ length (only_in (all_numbered from) (all_numbered new))
  lost_told =
      ap (λ (pairs : List WordPair). length pairs) new_told
      ∙ sym (as_many_lost (all_numbered from) (all_numbered new) lines new_lines (sym (length_permutation (all_numbered from) (all_numbered new) moved_words)))
