-- The longest prefix of a text that is an element's string is that of its longest element.
use Rattle.std.proofs.Common.{◌≡◌, ◌<◌, ◌≤◌, ◌≢◌, ℕ, zero, suc, ◌+◌, Bool, true, false, ◌||◌, cond, List, [], ◌∷◌, ◌++◌, length, take, drop}
use Rattle.std.proofs.Common.{chars, Option, Some, None, is_some, All, sym, ap, ap₂, subst, ◌∙◌, refl, arith, length-append}
use Rattle.std.specs.Prelude.{min, nat_lt}
use Rattle.std.specs.List.{flat_map, list_any}
use Rattle.std.specs.Option.{option_or}
use Rattle.std.proofs.Math.Seq.{take-append_seam}
use Rattle.std.proofs.lemmas.Bool.{false≢true, le-ltb, ltb-false}
use Rattle.std.proofs.lemmas.Bool.Decides.{Decides-ltb}
use Rattle.std.proofs.lemmas.List.{length-take-le, take-append-drop}
use Rattle.std.proofs.lemmas.List.Elements.{All-head, All-tail}
use Rattle.coll_syntax.specs.Identifier.{same_name, same_id, has_id}
use Rattle.coll_syntax.specs.Proper.{IsElementText}
use Rattle.coll_syntax.specs.declared.identifiers.Id.{Id}
use Rattle.coll_syntax.specs.declared.identifiers.Id.TheVariants.{Char, Named}
use Rattle.coll_nodes.specs.ElementTexts.{element_entry, element_name, entry_if_named}
use Rattle.coll_nodes.specs.Placement.{entry_at}
use Rattle.coll_nodes.specs.Table.{Collation, entries_of, ids_of, is_placed, texts_of}
use Rattle.coll_nodes.specs.WellFormed.{AreDistinct, IsWellFormed}
use Rattle.coll_nodes.specs.declared.declarations.Declaration.{Declaration}
use Rattle.coll_nodes.specs.declared.declarations.Declaration.TheVariants as declaration
use Rattle.coll_nodes.specs.declared.entries.Entry.{Entry}
use Rattle.coll_lookups.proofs.Sameness.{same_name_decides}
use Rattle.coll_elements.specs.Elements.{Element, beyond_first, begins_with, element_placed, element_text, elements_of, elements_placed, longer, longest, element_id, split}
use Rattle.coll_elements.specs.ElementEntries.{longest_prefix, with_length, AreElementsOf, FindsPrefix, HasNoLonger, IsElementOf}
use Rattle.coll_elements.specs.declared.element_entries.FoundPrefix.{FoundPrefix}
use Rattle.coll_elements.specs.declared.element_entries.ElementEntry.{ElementEntry}
use Rattle.coll_elements.proofs.ElementBeginnings.{begins_so, goes_on}
use Rattle.coll_elements.proofs.SplitTexts.{split_found}
use Rattle.coll_elements.proofs.Tests.{by_test}

-- what is placed has an entry
entry_placed : (entries : List Entry) (id : Id) → has_id (ids_of entries) id ≡ is_some (entry_at entries id)
entry_placed [] id = refl
entry_placed (entry ∷ entries) id =
    by_test (λ b. (b || has_id (ids_of entries) id) ≡ is_some (cond b (Some entry) (entry_at entries id))) (same_id id entry.id) (λ on. refl) (λ off. entry_placed entries id)

-- a string that no declaration has is that of no element
no_name : (declared : List Declaration) (text : List ℕ) → list_any (same_name text) (texts_of declared) ≡ false → element_name declared text ≡ None
no_name [] text none = refl
no_name (declaration.Symbol name ∷ declared) text none = no_name declared text none
no_name (declaration.Equivalence name symbol ∷ declared) text none = no_name declared text none
no_name (declaration.Element name string ∷ declared) text none =
    by_test (λ b. (b || list_any (same_name text) (texts_of declared)) ≡ false → option_or (cond b (Some name) None) (element_name declared text) ≡ None) (same_name text string)
    (λ on e. absurd (false≢true (sym e)))
    (λ off e. no_name declared text e) none

-- a prefix that is found is no longer than was asked
within : (entry_of : List ℕ → Option Entry) (text : List ℕ) (most : ℕ) (prefix : Entry × ℕ) → longest_prefix entry_of text most ≡ Some prefix → prefix.1 ≤ most
within entry_of text zero prefix is = cc
within entry_of text (suc n) prefix is = by (λ e. within entry_of text n prefix e) (entry_of (take (suc n) text)) is where
  by : (longest_prefix entry_of text n ≡ Some prefix → prefix.1 ≤ n) → (found : Option Entry) → option_or (with_length found (suc n)) (longest_prefix entry_of text n) ≡ Some prefix → prefix.1 ≤ suc n
  by shorter None e = let less = shorter e in omega (arith, less)
  by shorter (Some other) e = let same : suc n ≡ prefix.1 = size_of (other, suc n) prefix e in omega (arith, same) where
    size_of : (a b : Entry × ℕ) → Some a ≡ Some b → a.1 ≡ b.1
    size_of a b e = ap (λ (p : Option (Entry × ℕ)). size_or p) e where
      size_or : Option (Entry × ℕ) → ℕ
      size_or None = 0
      size_or (Some p) = p.1

-- the same prefixes have entries
same_prefixes : (entry_of other_of : List ℕ → Option Entry) (text : List ℕ) (most : ℕ) → ((size : ℕ) → size ≤ most → other_of (take size text) ≡ entry_of (take size text))
    → longest_prefix other_of text most ≡ longest_prefix entry_of text most
same_prefixes entry_of other_of text zero same = refl
same_prefixes entry_of other_of text (suc n) same =
    ap₂ (λ (e : Option Entry) (f : Option (Entry × ℕ)). option_or (with_length e (suc n)) f) (same (suc n) (omega arith))
    (same_prefixes entry_of other_of text n (λ size small. same size (omega (arith, small))))

-- the entry of a longest element, with the length of its string, is that of the longest prefix
abbrev IsThatOf : List Entry → (text : List ℕ) → Option Element → Option (Entry × ℕ) → Type 0
IsThatOf entries text None None = Unit {0}
IsThatOf entries text None (Some prefix) = ⊥
IsThatOf entries text (Some element) None = ⊥
IsThatOf entries text (Some element) (Some prefix) = (entry_at entries (Named element.name) ≡ Some prefix.0) × (length element.text ≡ prefix.1) × (begins_with text element.text ≡ true)
    × (0 < length element.text)

-- of an entry with its length and another prefix that may be there, the longer
abbrev longer_of : (Entry × ℕ) → Option (Entry × ℕ) → Entry × ℕ
longer_of prefix None = prefix
longer_of prefix (Some other) = cond (nat_lt other.1 prefix.1) prefix other

module _ (table : Collation) (text : List ℕ) where
  -- the entry of a prefix, if these are declared
  abbrev of_prefix : List Declaration → List ℕ → Option Entry
  of_prefix declared prefix = entry_if_named (entries_of table) (element_name declared prefix)

  module _ (name string : List ℕ) (declared : List Declaration) (apart : list_any (same_name string) (texts_of declared) ≡ false) where
    -- the prefix that is the string of one more element, and each other prefix
    its_prefix : of_prefix (declaration.Element name string ∷ declared) string ≡ entry_at (entries_of table) (Named name)
    its_prefix = ap (λ b. entry_if_named (entries_of table) (option_or (cond b (Some name) None) (element_name declared string))) ((same_name_decides string string).1 refl)

    not_before : of_prefix declared string ≡ None
    not_before = ap (entry_if_named (entries_of table)) (no_name declared string apart)

    other_prefix : (prefix : List ℕ) → prefix ≢ string → of_prefix (declaration.Element name string ∷ declared) prefix ≡ of_prefix declared prefix
    other_prefix prefix other =
        by_test (λ b. same_name prefix string ≡ b → entry_if_named (entries_of table) (option_or (cond b (Some name) None) (element_name declared prefix)) ≡ of_prefix declared prefix)
        (same_name prefix string)
        (λ on e. absurd (other ((same_name_decides prefix string).0 e)))
        (λ off e. refl) refl

    -- an element that isn't placed changes no prefix
    not_placed : entry_at (entries_of table) (Named name) ≡ None → (prefix : List ℕ) → of_prefix (declaration.Element name string ∷ declared) prefix ≡ of_prefix declared prefix
    not_placed none prefix =
        by_test (λ b. same_name prefix string ≡ b → of_prefix (declaration.Element name string ∷ declared) prefix ≡ of_prefix declared prefix) (same_name prefix string)
        (λ on e. let is : prefix ≡ string = (same_name_decides prefix string).0 e in
        ap (of_prefix (declaration.Element name string ∷ declared)) is ∙ (its_prefix ∙ (none ∙ (sym not_before ∙ ap (of_prefix declared) (sym is)))))
        (λ off e. other_prefix prefix (λ is. false≢true (sym e ∙ (same_name_decides prefix string).1 is))) refl

    module _ (rest : List ℕ) (whole : text ≡ string ++ rest) (some : 0 < length string) (entry : Entry) (placed : entry_at (entries_of table) (Named name) ≡ Some entry) where
      the_prefix : take (length string) text ≡ string
      the_prefix = ap (take (length string)) whole ∙ take-append_seam string rest

      long_enough : length string ≤ length text
      long_enough = let counted = ap length whole ∙ length-append string rest in omega (arith, counted)

      -- a prefix of another length is another
      other_size : (size : ℕ) → size ≤ length text → (size ≡ length string → ⊥) → take size text ≢ string
      other_size size small other is = other (sym (length-take-le size text small) ∙ ap length is)

      -- shorter prefixes are as before
      shorter_prefixes : (most : ℕ) → most < length string → longest_prefix (of_prefix (declaration.Element name string ∷ declared)) text most ≡ longest_prefix (of_prefix declared) text most
      shorter_prefixes most less = same_prefixes (of_prefix declared) (of_prefix (declaration.Element name string ∷ declared)) text most (λ size small.
          other_prefix (take size text) (other_size size (let long = long_enough in omega (arith, small, less, long)) (λ is. let no = is in absurd (omega (arith, no, small, less)))))

      -- where a prefix is as long as its string, the element's is found
      at_string : (n : ℕ) → suc n ≡ length string
          → longest_prefix (of_prefix (declaration.Element name string ∷ declared)) text (suc n) ≡ Some (longer_of (entry, length string) (longest_prefix (of_prefix declared) text (suc n)))
      at_string n e =
          let here : take (suc n) text ≡ string = ap (λ k. take k text) e ∙ the_prefix in
          let found : of_prefix (declaration.Element name string ∷ declared) (take (suc n) text) ≡ Some entry =
          ap (of_prefix (declaration.Element name string ∷ declared)) here ∙ (its_prefix ∙ placed) in
          let before : of_prefix declared (take (suc n) text) ≡ None = ap (of_prefix declared) here ∙ not_before in
          ap (λ f. option_or (with_length f (suc n)) (longest_prefix (of_prefix (declaration.Element name string ∷ declared)) text n)) found
          ∙ (ap (λ k. Some (pair entry k)) e
          ∙ ap Some (sym (ap (λ f. longer_of (entry, length string) (option_or (with_length f (suc n)) (longest_prefix (of_prefix declared) text n))) before
          ∙ shorter (longest_prefix (of_prefix declared) text n) refl))) where
            pair : Entry → ℕ → Entry × ℕ
            pair a b = (a, b)

            shorter : (found : Option (Entry × ℕ)) → longest_prefix (of_prefix declared) text n ≡ found → longer_of (entry, length string) found ≡ pair entry (length string)
            shorter None is = refl
            shorter (Some other) is = let less = within (of_prefix declared) text n other is in
                ap (λ b. cond b (pair entry (length string)) other) ((Decides-ltb other.1 (length string)).1 (omega (arith, less, e)))

      -- from there on it is found, or a longer one
      longer_prefixes : (size : ℕ) → length string ≤ size → size ≤ length text
          → longest_prefix (of_prefix (declaration.Element name string ∷ declared)) text size ≡ Some (longer_of (entry, length string) (longest_prefix (of_prefix declared) text size))
      longer_prefixes zero long small = absurd (omega (arith, long, some))
      longer_prefixes (suc n) long small =
          by_test (λ b. nat_lt n (length string) ≡ b → longest_prefix (of_prefix (declaration.Element name string ∷ declared)) text (suc n)
          ≡ Some (longer_of (entry, length string) (longest_prefix (of_prefix declared) text (suc n)))) (nat_lt n (length string))
          (λ on less. let below = (Decides-ltb n (length string)).0 less in at_string n (omega (arith, long, below)))
          (λ off more. let above : length string ≤ n = ltb-false n (length string) more in beyond n above small (longer_prefixes n above (omega (arith, small)))) refl where
            beyond : (n : ℕ) → length string ≤ n → suc n ≤ length text → longest_prefix (of_prefix (declaration.Element name string ∷ declared)) text n
                ≡ Some (longer_of (entry, length string) (longest_prefix (of_prefix declared) text n))
                → longest_prefix (of_prefix (declaration.Element name string ∷ declared)) text (suc n) ≡ Some (longer_of (entry, length string) (longest_prefix (of_prefix declared) text (suc n)))
            beyond n above small before =
                ap₂ (λ (f : Option Entry) (g : Option (Entry × ℕ)). option_or (with_length f (suc n)) g)
                (other_prefix (take (suc n) text) (other_size (suc n) small (λ is. let no = is in absurd (omega (arith, no, above))))) before
                ∙ by (of_prefix declared (take (suc n) text)) where
                  by : (found : Option Entry) → option_or (with_length found (suc n)) (Some (longer_of (entry, length string) (longest_prefix (of_prefix declared) text n)))
                      ≡ Some (longer_of (entry, length string) (option_or (with_length found (suc n)) (longest_prefix (of_prefix declared) text n)))
                  by None = refl
                  by (Some other) = ap (λ (b : Bool). Some (cond {A = Entry × ℕ} b (entry, length string) (other, suc n))) (sym (le-ltb (suc n) (length string) (omega (arith, above))))

  -- the longest element, and the longest prefix, one declaration after the other
  longest_among : (declared : List Declaration) → AreDistinct same_name (texts_of declared) → All IsElementText (texts_of declared)
      → IsThatOf (entries_of table) text (longest element_text (flat_map (element_placed table) declared) text) (longest_prefix (of_prefix declared) text (length text))
  longest_among [] distinct texts = subst (IsThatOf (entries_of table) text None) (sym (no_prefixes (length text))) tt where
    no_prefixes : (most : ℕ) → longest_prefix (λ prefix. None) text most ≡ None
    no_prefixes zero = refl
    no_prefixes (suc n) = no_prefixes n
  longest_among (declaration.Symbol name ∷ declared) distinct texts = longest_among declared distinct texts
  longest_among (declaration.Equivalence name symbol ∷ declared) distinct texts = longest_among declared distinct texts
  longest_among (declaration.Element name string ∷ declared) distinct texts =
      by_entry (longest_among declared distinct.1 (All-tail IsElementText string (texts_of declared) texts)) (entry_at (entries_of table) (Named name)) refl where
        later : Option Element
        later = longest element_text (flat_map (element_placed table) declared) text

        prefix : Option (Entry × ℕ)
        prefix = longest_prefix (of_prefix declared) text (length text)

        some : 0 < length string
        some = let two : 2 ≤ length string = (All-head IsElementText string (texts_of declared) texts).0 in omega (arith, two)

        here : Element
        here = record { name = name; text = string }

        both : (entry : Entry) → entry_at (entries_of table) (Named name) ≡ Some entry → begins_with text string ≡ true → (other : Option Element) (shorter : Option (Entry × ℕ))
            → IsThatOf (entries_of table) text other shorter
            → IsThatOf (entries_of table) text (Some (longer element_text here other)) (Some (longer_of (entry, length string) shorter))
        both entry is begun None None h = (is, refl, begun, some)
        both entry is begun None (Some shorter) h = absurd h
        both entry is begun (Some other) None h = absurd h
        both entry is begun (Some other) (Some shorter) h =
            ap_that (length other.text) h.1 (nat_lt (length other.text) (length string)) refl where
              ap_that : (size : ℕ) → size ≡ shorter.1 → (b : Bool) → nat_lt size (length string) ≡ b
                  → IsThatOf (entries_of table) text (Some (cond b here other)) (Some (cond (nat_lt shorter.1 (length string)) (entry, length string) shorter))
              ap_that size e true less = subst (λ b. IsThatOf (entries_of table) text (Some here) (Some (cond b (entry, length string) shorter))) (sym less ∙ ap (λ n. nat_lt n (length string)) e) (
                is,
                refl,
                begun,
                some,
              )
              ap_that size e false less = subst (λ b. IsThatOf (entries_of table) text (Some other) (Some (cond b (entry, length string) shorter))) (sym less ∙ ap (λ n. nat_lt n (length string)) e) h

        placed : (entry : Entry) → entry_at (entries_of table) (Named name) ≡ Some entry → IsThatOf (entries_of table) text later prefix → (begun : Bool) → begins_with text string ≡ begun
            → IsThatOf (entries_of table) text (cond begun (Some (longer element_text here later)) later) (longest_prefix (of_prefix (declaration.Element name string ∷ declared)) text (length text))
        placed entry is h true begun =
            let goes = goes_on text string begun in
            let long = long_enough name string declared distinct.0 goes.0 goes.1 some entry is in
            subst (IsThatOf (entries_of table) text (Some (longer element_text here later)))
            (sym (longer_prefixes name string declared distinct.0 goes.0 goes.1 some entry is (length text) long (omega arith)))
            (both entry is begun later prefix h)
        placed entry is h false begun =
            subst (IsThatOf (entries_of table) text later)
            (sym (same_prefixes (of_prefix declared) (of_prefix (declaration.Element name string ∷ declared)) text (length text)
            (λ size small. other_prefix name string declared distinct.0 (take size text) (λ same.
            false≢true (sym begun ∙ (ap (λ t. begins_with t string) (sym (take-append-drop size text) ∙ ap (λ f. f ++ drop size text) same) ∙ begins_so string (drop size text)))))))
            h

        by_entry : IsThatOf (entries_of table) text later prefix → (entry : Option Entry) → entry_at (entries_of table) (Named name) ≡ entry
            → IsThatOf (entries_of table) text (longest element_text (flat_map (element_placed table) (declaration.Element name string ∷ declared)) text)
            (longest_prefix (of_prefix (declaration.Element name string ∷ declared)) text (length text))
        by_entry h None none =
            let apart : is_placed table (Named name) ≡ false = entry_placed (entries_of table) (Named name) ∙ ap is_some none in
            subst (λ b. IsThatOf (entries_of table) text (longest element_text (cond b (here ∷ []) [] ++ flat_map (element_placed table) declared) text)
            (longest_prefix (of_prefix (declaration.Element name string ∷ declared)) text (length text))) (sym apart)
            (subst (IsThatOf (entries_of table) text later)
            (sym (same_prefixes (of_prefix declared) (of_prefix (declaration.Element name string ∷ declared)) text (length text)
            (λ size small. not_placed name string declared distinct.0 none (take size text)))) h)
        by_entry h (Some entry) is =
            let there : is_placed table (Named name) ≡ true = entry_placed (entries_of table) (Named name) ∙ ap is_some is in
            subst (λ b. IsThatOf (entries_of table) text (longest element_text (cond b (here ∷ []) [] ++ flat_map (element_placed table) declared) text)
            (longest_prefix (of_prefix (declaration.Element name string ∷ declared)) text (length text))) (sym there)
            (placed entry is h (begins_with text string) refl)

-- a string that no element may have is that of none
no_element : (declared : List Declaration) (text : List ℕ) → All IsElementText (texts_of declared) → (IsElementText text → ⊥) → element_name declared text ≡ None
no_element [] text texts not = refl
no_element (declaration.Symbol name ∷ declared) text texts not = no_element declared text texts not
no_element (declaration.Equivalence name symbol ∷ declared) text texts not = no_element declared text texts not
no_element (declaration.Element name string ∷ declared) text texts not =
    by_test (λ b. same_name text string ≡ b → option_or (cond b (Some name) None) (element_name declared text) ≡ None) (same_name text string)
    (λ on e. absurd (not (subst IsElementText (sym ((same_name_decides text string).0 e)) (All-head IsElementText string (texts_of declared) texts))))
    (λ off e. no_element declared text (All-tail IsElementText string (texts_of declared) texts) not) refl

-- a string of less than two characters, or of more than sixteen, is that of no element
no_entry : (table : Collation) → IsWellFormed table → (text : List ℕ) → (2 ≤ length text → 16 < length text) → element_entry table text ≡ None
no_entry table well text apart =
    ap (entry_if_named (entries_of table)) (no_element table.declared text well.built.texts (λ is. let long = apart is.0 in absurd (omega (arith, long, is.1))))

-- the prefix of one character is no element's string
pub one_character : (table : Collation) → IsWellFormed table → (text : List ℕ) → longest_prefix (element_entry table) text 1 ≡ None
one_character table well text = ap (λ e. option_or (with_length e 1) None) (no_entry table well (take 1 text) (λ two. absurd (omega (arith, two, one text)))) where
  one : (text : List ℕ) → length (take 1 text) ≤ 1
  one [] = omega arith
  one (c ∷ text) = omega arith

-- and neither is a string of more than sixteen
pub at_most_sixteen : (table : Collation) → IsWellFormed table → (most : ℕ) → HasNoLonger table most → HasNoLonger table (min most 16)
at_most_sixteen table well most none text long =
    by_test (λ b. nat_lt most (length text) ≡ b → element_entry table text ≡ None) (nat_lt most (length text))
    (λ on more. none text ((Decides-ltb most (length text)).0 more))
    (λ off few. let small = ltb-false most (length text) few in no_entry table well text (λ two. omega (arith, long, small))) refl

-- longer prefixes than the longest element are none
pub beyond_longest : (table : Collation) (text : List ℕ) (most n : ℕ) → HasNoLonger table most → most ≤ n → n ≤ length text
    → longest_prefix (element_entry table) text n ≡ longest_prefix (element_entry table) text most
beyond_longest table text most zero none long small = let same : 0 ≡ most = omega (arith, long) in ap (longest_prefix (element_entry table) text) same
beyond_longest table text most (suc n) none long small =
    by_test (λ b. nat_lt n most ≡ b → longest_prefix (element_entry table) text (suc n) ≡ longest_prefix (element_entry table) text most) (nat_lt n most)
    (λ on less. let below = (Decides-ltb n most).0 less in let same : suc n ≡ most = omega (arith, long, below) in ap (longest_prefix (element_entry table) text) same)
    (λ off more.
    let above : most ≤ n = ltb-false n most more in
    let size : length (take (suc n) text) ≡ suc n = length-take-le (suc n) text small in
    ap (λ e. option_or (with_length e (suc n)) (longest_prefix (element_entry table) text n)) (none (take (suc n) text) (omega (arith, size, above)))
    ∙ beyond_longest table text most n none above (omega (arith, small))) refl

-- a prefix one character longer, which is before the rest of a text
pub next_prefix : (text before rest : List ℕ) (size : ℕ) → text ≡ before ++ rest → suc size + length rest ≡ length text → take (suc size) text ≡ before
next_prefix text before rest size whole counted =
    let parts = ap length whole ∙ length-append before rest in
    let long : suc size ≡ length before = omega (arith, parts, counted) in
    ap₂ (λ n bs. take n bs) long whole ∙ take-append_seam before rest

module _ (entry_of : List ℕ → Option Entry) (text before : List ℕ) (size : ℕ) (is : take (suc size) text ≡ before) where
  -- where it is an element, it is the longest
  pub prefix_is : (entry : Entry) (found : FoundPrefix) → entry_of before ≡ Some entry → found.entry.now ≡ entry → text ≡ before ++ chars found.rest.now → suc size + length (chars found.rest.now)
      ≡ length text
      → FindsPrefix text (longest_prefix entry_of text (suc size)) (Some found)
  prefix_is entry found there same whole counted =
      subst (λ f. FindsPrefix text (option_or (with_length f (suc size)) (longest_prefix entry_of text size)) (Some found)) (sym (ap entry_of is ∙ there))
      (record { entry_is = same; size_is = counted; goes_on = whole ∙ ap (λ f. f ++ chars found.rest.now) (sym is) })

  -- where it is none, a shorter one is
  pub prefix_is_none : (shorter : Option FoundPrefix) → entry_of before ≡ None → FindsPrefix text (longest_prefix entry_of text size) shorter
      → FindsPrefix text (longest_prefix entry_of text (suc size)) shorter
  prefix_is_none shorter none found =
      subst (λ f. FindsPrefix text (option_or (with_length f (suc size)) (longest_prefix entry_of text size)) shorter) (sym (ap entry_of is ∙ none)) found

-- a text that begins with an element has it first, and then those behind it
begins_named : (table : Collation) (text : List ℕ) (element : Element) (rest : List ℕ) → longest element_text (elements_placed table) text ≡ Some element → text ≡ element.text ++ rest
    → 0 < length element.text
    → elements_of table text ≡ Named element.name ∷ elements_of table rest
unfolding elements_of
begins_named table text element rest found whole some = split_found element_text (elements_placed table) element_id element (Named element.name) text rest found (λ c. refl) whole some

-- a text that begins with none has its first character first
pub begins_alone : (table : Collation) → IsWellFormed table → (c : ℕ) (text : List ℕ) → FindsPrefix (c ∷ text) (longest_prefix (element_entry table) (c ∷ text) (length (c ∷ text))) None
    → elements_of table (c ∷ text) ≡ Char c ∷ elements_of table text
unfolding elements_of
begins_alone table well c text finds =
    by (longest element_text (elements_placed table) (c ∷ text)) refl (longest_prefix (element_entry table) (c ∷ text) (length (c ∷ text)))
    (longest_among table (c ∷ text) table.declared well.built.distinct_texts well.built.texts) finds where
      by : (element : Option Element) → longest element_text (elements_placed table) (c ∷ text) ≡ element → (prefix : Option (Entry × ℕ)) → IsThatOf (entries_of table) (c ∷ text) element prefix
          → FindsPrefix (c ∷ text) prefix None
          → element_id (longest element_text (elements_placed table) (c ∷ text)) c ∷ split element_text (elements_placed table) element_id
          (beyond_first element_text (longest element_text (elements_placed table) (c ∷ text))) text ≡ Char c ∷ split element_text (elements_placed table) element_id 0 text
      by None e None h f = ap (λ l. element_id l c ∷ split element_text (elements_placed table) element_id (beyond_first element_text l) text) e
      by None e (Some prefix) h f = absurd h
      by (Some element) e None h f = absurd h
      by (Some element) e (Some prefix) h f = absurd f

-- no text has no elements
pub no_elements : (table : Collation) → elements_of table [] ≡ []
unfolding elements_of
no_elements table = refl

-- one element more of a text is known
pub one_more : (table : Collation) (ids : List Id) (elements : List ElementEntry) (id : Id) (element : ElementEntry) → AreElementsOf table ids elements → IsElementOf table id element
    → AreElementsOf table (ids ++ id ∷ []) (elements ++ element ∷ [])
one_more table [] [] id element all one = (one, tt)
one_more table [] (e ∷ elements) id element all one = absurd all
one_more table (i ∷ ids) [] id element all one = absurd all
one_more table (i ∷ ids) (e ∷ elements) id element all one = (all.0, one_more table ids elements id element all.1 one)

-- what is found of the prefixes of a text is its first element
pub element_found : (table : Collation) → IsWellFormed table → (text : List ℕ) (found : FoundPrefix) → FindsPrefix text (longest_prefix (element_entry table) text (length text)) (Some found)
    → (id : Id) × (elements_of table text ≡ id ∷ elements_of table (chars found.rest.now)) × (entry_at (entries_of table) id ≡ Some found.entry.now) × (length (chars found.rest.now) < length text)
element_found table well text found finds =
    by (longest element_text (elements_placed table) text) refl (longest_prefix (element_entry table) text (length text))
    (longest_among table text table.declared well.built.distinct_texts well.built.texts) finds where
      by : (element : Option Element) → longest element_text (elements_placed table) text ≡ element → (prefix : Option (Entry × ℕ)) → IsThatOf (entries_of table) text element prefix
          → FindsPrefix text prefix (Some found)
          → (id : Id) × (elements_of table text ≡ id ∷ elements_of table (chars found.rest.now)) × (entry_at (entries_of table) id ≡ Some found.entry.now)
          × (length (chars found.rest.now) < length text)
      by None e None h f = absurd f
      by None e (Some prefix) h f = absurd h
      by (Some element) e None h f = absurd f
      by (Some element) e (Some prefix) h f =
          let goes = goes_on text element.text h.2 in
          let seam : take prefix.1 text ≡ element.text = ap₂ (λ n t. take n t) (sym h.1) goes.1 ∙ take-append_seam element.text goes.0 in
          let whole : text ≡ element.text ++ chars found.rest.now = f.goes_on ∙ ap (λ t. t ++ chars found.rest.now) seam in
          let counted = ap length whole ∙ length-append element.text (chars found.rest.now) in
          (Named element.name, begins_named table text element (chars found.rest.now) e whole h.3, h.0 ∙ ap Some (sym f.entry_is), omega (arith, counted, h.3))
