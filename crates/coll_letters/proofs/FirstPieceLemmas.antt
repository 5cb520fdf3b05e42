-- The longest string of an element that a text begins with is found among the prefixes that its marks leave.
use Rattle.std.proofs.Common.{◌≡◌, ◌<◌, ◌≤◌, ℕ, zero, suc, ◌+◌, ◌-◌, cond, List, [], ◌∷◌, ◌++◌, length, take, Option, None, Some, chars, refl, sym, ap, ap₂, subst, ◌∙◌, arith, length-append}
use Rattle.std.specs.Prelude.{nat_lt}
use Rattle.std.specs.Option.{option_or}
use Rattle.std.proofs.Math.Seq.{take-append_seam}
use Rattle.std.proofs.lemmas.Bool.{ltb-false}
use Rattle.std.proofs.lemmas.Bool.Decides.{Decides-ltb}
use Rattle.std.proofs.lemmas.List.{length-take-le}
use Rattle.coll_syntax.specs.Identifier.{same_name}
use Rattle.coll_syntax.specs.declared.identifiers.Id.{Id}
use Rattle.coll_lookups.proofs.Sameness.{same_name_decides}
use Rattle.coll_nodes.proofs.EntryLemmas.{found_id}
use Rattle.coll_nodes.specs.ElementTexts.{element_entry, element_name, entry_if_named}
use Rattle.coll_nodes.specs.Table.{Collation, entries_of}
use Rattle.coll_nodes.specs.WellFormed.{IsWellFormed}
use Rattle.coll_nodes.specs.declared.declarations.Declaration.{Declaration}
use Rattle.coll_nodes.specs.declared.declarations.Declaration.TheVariants as declaration
use Rattle.coll_nodes.specs.declared.entries.Entry.{Entry}
use Rattle.coll_elements.specs.Elements.{elements_of}
use Rattle.coll_elements.specs.ElementEntries.{FindsPrefix, longest_prefix, with_length}
use Rattle.coll_elements.proofs.ElementEntries.{begins_alone, element_found, one_character}
use Rattle.coll_elements.proofs.Tests.{by_test}
use Rattle.coll_letters.specs.ElementMarks.{AreMarked, AreMarks, IsMostAt, StandsAlone, TellOfAll}
use Rattle.coll_letters.proofs.LetterLemmas.{alone_first}
use Rattle.coll_letters.specs.FirstPieces.{BeginsWithLetter, BeginsWithString, HasNoLongerPrefix, IsLongestString}
use Rattle.coll_letters.specs.declared.element_marks.ElementMarks.{ElementMarks}
use Rattle.coll_letters.specs.declared.first_pieces.FoundString.{FoundString}

-- Strings that are too long for their marks.

-- a string that isn't marked is that of no element
no_name : (marks : ElementMarks) (ds : List Declaration) (string : List ℕ) → TellOfAll marks ds → (AreMarked marks string → ⊥) → element_name ds string ≡ None
no_name marks [] string told other = refl
no_name marks (declaration.Symbol name ∷ ds) string told other = no_name marks ds string told.1 other
no_name marks (declaration.Equivalence name symbol ∷ ds) string told other = no_name marks ds string told.1 other
no_name marks (declaration.Element name text ∷ ds) string told other =
    by_test (λ b. same_name string text ≡ b → option_or (cond b (Some name) None) (element_name ds string) ≡ None) (same_name string text)
    (λ on e. absurd (other (subst (AreMarked marks) (sym ((same_name_decides string text).0 e)) told.0)))
    (λ off e. no_name marks ds string told.1 other) refl

-- a prefix of more characters than the mark says isn't marked
too_long : (marks : ElementMarks) (c : ℕ) (rest : List ℕ) (most size : ℕ) → IsMostAt marks c rest most → most < size → size ≤ length (c ∷ rest) → AreMarked marks (take size (c ∷ rest)) → ⊥
too_long marks c rest most zero is more few marked = absurd (omega (arith, more))
too_long marks c [] most (suc zero) is more few marked = absurd (omega (arith, is, more))
too_long marks c [] most (suc (suc n)) is more few marked = absurd (omega (arith, few))
too_long marks c (d ∷ rest) most (suc zero) is more few marked = absurd (omega (arith, is.0, more))
too_long marks c (d ∷ rest) most (suc (suc n)) is more few marked =
    let counted : length (take n rest) ≡ n = length-take-le n rest (omega (arith, few)) in
    absurd (omega (arith, marked.1, is.1, counted, more))

-- so the marks tell that no longer prefix is an element's string
pub bounded : (table : Collation) (marks : ElementMarks) → AreMarks table marks → (text : List ℕ) (c : ℕ) (rest : List ℕ) (most : ℕ) → text ≡ c ∷ rest → IsMostAt marks c rest most
    → HasNoLongerPrefix table text most
bounded table marks are text c rest most is at size more few =
    ap (entry_if_named (entries_of table))
    (no_name marks table.declared (take size text) are (λ marked.
    too_long marks c rest most size at more (omega (arith, few, ap length is)) (subst (λ (l : List ℕ). AreMarked marks (take size l)) is marked)))

-- Prefixes, the longest first.

module _ (table : Collation) (text : List ℕ) where
  -- longer prefixes are none
  abbrev pub SameFrom : ℕ → Type 0
  SameFrom size = (n : ℕ) → size ≤ n → n ≤ length text → longest_prefix (element_entry table) text n ≡ longest_prefix (element_entry table) text (length text)

  no_longer : (most n m : ℕ) → HasNoLongerPrefix table text most → most ≤ n → n + m ≤ length text → longest_prefix (element_entry table) text (n + m) ≡ longest_prefix (element_entry table) text n
  no_longer most n zero none long small = let same : n + 0 ≡ n = omega arith in ap (longest_prefix (element_entry table) text) same
  no_longer most n (suc m) none long small =
      let next : n + suc m ≡ suc (n + m) = omega arith in
      ap (longest_prefix (element_entry table) text) next
      ∙ ap (λ (e : Option Entry). option_or (with_length e (suc (n + m))) (longest_prefix (element_entry table) text (n + m))) (none (suc (n + m)) (omega (arith, long)) (omega (arith, small)))
      ∙ no_longer most n m none long (omega (arith, small))

  pub same_from_most : (most : ℕ) → HasNoLongerPrefix table text most → SameFrom most
  same_from_most most none n long small =
      let more : n + (length text - n) ≡ length text = omega (arith, small) in
      sym (ap (longest_prefix (element_entry table) text) (sym more) ∙ no_longer most n (length text - n) none long (omega (arith, small)))

  -- one that was asked for is none either
  pub same_from_shorter : (size : ℕ) → SameFrom (suc size) → (suc size ≤ length text → element_entry table (take (suc size) text) ≡ None) → SameFrom size
  same_from_shorter size same none n long small =
      by_test (λ b. nat_lt size n ≡ b → longest_prefix (element_entry table) text n ≡ longest_prefix (element_entry table) text (length text)) (nat_lt size n)
      (λ on more. same n ((Decides-ltb size n).0 more) small)
      (λ off few.
      let here : n ≡ size = omega (arith, ltb-false size n few, long) in
      by_test (λ b. nat_lt size (length text) ≡ b → longest_prefix (element_entry table) text n ≡ longest_prefix (element_entry table) text (length text)) (nat_lt size (length text))
      (λ on more.
      let longer : suc size ≤ length text = (Decides-ltb size (length text)).0 more in
      ap (longest_prefix (element_entry table) text) here
      ∙ sym (ap (λ (e : Option Entry). option_or (with_length e (suc size)) (longest_prefix (element_entry table) text size)) (none longer))
      ∙ same (suc size) (omega arith) longer)
      (λ off least. let whole : n ≡ length text = omega (arith, ltb-false size (length text) least, here, small) in ap (longest_prefix (element_entry table) text) whole) refl)
      refl

  -- the one that is an element's string is the longest
  pub longest_found : (size : ℕ) (front rest : List ℕ) (entry : Entry) → SameFrom (suc size) → text ≡ front ++ rest → length front ≡ suc size → element_entry table front ≡ Some entry
      → longest_prefix (element_entry table) text (length text) ≡ Some (entry, length front)
  longest_found size front rest entry same whole counted placed =
      let all = ap length whole ∙ length-append front rest in
      let prefix : take (suc size) text ≡ front = ap₂ (λ (n : ℕ) (l : List ℕ). take n l) (sym counted) whole ∙ take-append_seam front rest in
      sym (same (suc size) (omega arith) (omega (arith, all, counted)))
      ∙ ap (λ (e : Option Entry). option_or (with_length e (suc size)) (longest_prefix (element_entry table) text size)) (ap (element_entry table) prefix ∙ placed)
      ∙ ap (λ (n : ℕ). sized entry n) (sym counted)
    where
      sized : Entry → ℕ → Option (Entry × ℕ)
      sized e n = Some (e, n)

  -- or none is
  pub none_left : IsWellFormed table → (size : ℕ) → size ≤ 1 → SameFrom size → longest_prefix (element_entry table) text (length text) ≡ None
  none_left well size few same =
      by_test (λ b. nat_lt 0 (length text) ≡ b → longest_prefix (element_entry table) text (length text) ≡ None) (nat_lt 0 (length text))
      (λ on some. sym (same 1 few ((Decides-ltb 0 (length text)).0 some)) ∙ one_character table well text)
      (λ off none. let empty : length text ≡ 0 = omega (arith, ltb-false 0 (length text) none) in ap (longest_prefix (element_entry table) text) empty) refl

  -- a prefix that the text doesn't have
  pub not_asked : (size : ℕ) → length text < suc size → suc size ≤ length text → element_entry table (take (suc size) text) ≡ None
  not_asked size short long = absurd (omega (arith, short, long))

  -- or that isn't one
  pub asked_for : (size : ℕ) (front rest : List ℕ) → text ≡ front ++ rest → length front ≡ suc size → element_entry table front ≡ None → suc size ≤ length text
      → element_entry table (take (suc size) text) ≡ None
  asked_for size front rest whole counted none long =
      ap (element_entry table) (ap₂ (λ (n : ℕ) (l : List ℕ). take n l) (sym counted) whole ∙ take-append_seam front rest) ∙ none

-- The first element.

-- a string that was found is the first element
pub begins_with_found : (table : Collation) → IsWellFormed table → (text : List ℕ) (found : FoundString) → IsLongestString table text found
    → BeginsWithString table text (chars found.string.now) (chars found.rest.now)
begins_with_found table well text found is =
    let string = chars found.string.now in
    let rest = chars found.rest.now in
    let counted = ap length is.whole ∙ length-append string rest in
    let front : take (length string) text ≡ string = ap (take (length string)) is.whole ∙ take-append_seam string rest in
    let finds : FindsPrefix text (longest_prefix (element_entry table) text (length text)) (Some (record { entry = found.entry; rest = found.rest })) =
    subst (λ (p : Option (Entry × ℕ)). FindsPrefix text p (Some (record { entry = found.entry; rest = found.rest }))) (sym is.longest)
    (record { entry_is = refl; size_is = omega (arith, counted); goes_on = is.whole ∙ ap (λ (l : List ℕ). l ++ rest) (sym front) }) in
    let known = element_found table well text (record { entry = found.entry; rest = found.rest }) finds in
    record {
      entry = found.entry.now;
      placed = is.placed;
      elements = known.1 ∙ ap (λ (id : Id). id ∷ elements_of table rest) (sym (found_id (entries_of table) known.0 found.entry.now known.2));
      shorter = known.3;
    }

-- where none was found the first character is
pub begins_with_letter : (table : Collation) → IsWellFormed table → (text : List ℕ) (c : ℕ) (rest : List ℕ) → text ≡ c ∷ rest
    → longest_prefix (element_entry table) text (length text) ≡ None → BeginsWithLetter table text c rest
begins_with_letter table well text c rest is none =
    let here : longest_prefix (element_entry table) (c ∷ rest) (length (c ∷ rest)) ≡ None =
    subst (λ (l : List ℕ). longest_prefix (element_entry table) l (length l) ≡ None) is none in
    record {
      elements = ap (elements_of table) is ∙ begins_alone table well c rest (subst (λ (p : Option (Entry × ℕ)). FindsPrefix (c ∷ rest) p None) (sym here) tt);
      shorter = omega (arith, ap length is);
    }

-- so it is where it stands alone
pub begins_alone_with : (table : Collation) (text : List ℕ) (c : ℕ) (rest : List ℕ) → text ≡ c ∷ rest → StandsAlone table c rest → BeginsWithLetter table text c rest
begins_alone_with table text c rest is alone = record {
  elements = ap (elements_of table) is ∙ alone_first table c rest alone;
  shorter = omega (arith, ap length is);
}
