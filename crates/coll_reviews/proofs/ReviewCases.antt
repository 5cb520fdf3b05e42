-- How a review ends, by what reading its words, reading its delta file and writing answered.
use Rattle.std.proofs.Common.{◌≡◌, inl, inr, ⊎_elim, ℕ, zero, ◌+◌, ◌≤◌, ◌==◌, ◌&&◌, Bool, true, false, if◌then◌else◌, List, [], ◌++◌, length, Option, Some, Result, Ok, Err}
use Rattle.std.proofs.Common.{refl, sym, ap, subst, ◌∙◌, arith, append-nil, eq-eqb}
use Rattle.std.specs.Prelude.{IfErr}
use Rattle.std.proofs.lemmas.Bool.{ne_eqb}
use Rattle.std.proofs.lemmas.List.{length-map}
use Rattle.std.proofs.lemmas.List.Sorted.{length_permutation}
use Rattle.coll_devices.specs.Devices.{AppendsPrefix, Sends, raised}
use Rattle.coll_nodes.specs.Table.{Collation}
use Rattle.coll_nodes.specs.TableLayout.{collation}
use Rattle.coll_bench.specs.BatchOutcome.{after_delta, statements_of}
use Rattle.coll_bench.specs.BatchReading.{DeltaFails, starved_in}
use Rattle.coll_bench.specs.BatchRuns.{ending_of}
use Rattle.coll_faults.specs.Faults.{fault_number}
use Rattle.coll_bench.specs.Serving.{write_failed}
use Rattle.coll_faults.specs.declared.faults.RunFault.{RunFault}
use Rattle.coll_reviews.specs.ListedWords.{all_numbered, numbered_of}
use Rattle.coll_word_lists.specs.Neighbours.{NumberedWord}
use Rattle.coll_word_lists.specs.NumberedWords.{AreInOrder, numbered_from}
use Rattle.coll_reviews.specs.ReviewLines.{review_line}
use Rattle.coll_reviews.specs.ReviewRuns.{CountsReadingOf, ReviewRanTo, ReviewRuns, ReviewsText}
use Rattle.coll_reviews.specs.ReviewSteps.{ListsWordsOf, ReachesAll, WritesReview, review_bytes, standing_of}
use Rattle.coll_reviews.specs.Reviews.{ArePut, Standing}
use Rattle.coll_word_lists.specs.WordReading.{ReadingFails}
use Rattle.coll_reviews.specs.declared.reviews.Review.{Review}
use Rattle.coll_reviews.proofs.ReviewLemmas.{in_order_still, all_counted}
use Rattle.coll_word_lists.proofs.NumberedLemmas.{length_numbered, numbered_lines}
use Rattle.coll_word_lists.proofs.SortCases.{appended}

-- What was told is written.

module _ (begun now : Review) (delta delta_after taken taken_after : Option (List ℕ)) where
  pub writes_review : (r : Result (Unit {0}) RunFault) → ReachesAll begun delta (collation now.table) now → Sends taken taken_after (review_bytes now) r
      → IfErr r (λ ended. ended ≡ write_failed) → WritesReview begun delta delta_after taken taken_after r
  writes_review (Ok done) reaches sent fault = (now, collation now.table, reaches, sent)
  writes_review (Err ended) reaches sent fault = inr (fault, now, collation now.table, reaches, sent)

-- the fault of the only input is that of an input with another number
pub from_first : (left left_after : Option (List ℕ)) (ended : RunFault) → ended.input ≡ 0 → ReadingFails left left_after ended → ReadingFails left left_after (record ended { input = 0 })
from_first left left_after ended first fails = subst (λ (n : ℕ). ReadingFails left left_after (record ended { input = n })) first fails

-- memory was refused behind the words
pub starved_reads : (left left_after : Option (List ℕ)) (ended : RunFault) → ended ≡ starved_in 2 → ReadingFails left left_after (record ended { input = 0 })
starved_reads left left_after ended is = subst (λ (r : RunFault). ReadingFails left left_after (record r { input = 0 })) (sym is) (λ text e. inl refl)

-- Failed reads.

both_on : (b : Bool) → (b && true) ≡ b
both_on true = refl
both_on false = refl

both_off : (b : Bool) → (b && false) ≡ false
both_off true = refl
both_off false = refl

-- a fault of another input counts nothing
pub counts_none : (input n : ℕ) (r : Result (Unit {0}) RunFault) → IfErr r (λ ended. (ended.input == input) ≡ false) → CountsReadingOf input n n r
counts_none input n (Ok done) other = refl
counts_none input n (Err ended) other =
    sym (ap (λ (b : Bool). if (fault_number ended.fault == 67) && b then raised n else n) other ∙ ap (λ (b : Bool). if b then raised n else n) (both_off (fault_number ended.fault == 67)))

-- a fault of this input counts where a read failed
pub counts_own : (input old new : ℕ) (ended : RunFault) → ended.input ≡ input → new ≡ (if fault_number ended.fault == 67 then raised old else old) → CountsReadingOf input old new (Err ended)
counts_own input old new ended same counts =
    counts
    ∙ ap (λ (b : Bool). if b then raised old else old) (sym (both_on (fault_number ended.fault == 67)) ∙ ap (λ (b : Bool). (fault_number ended.fault == 67) && b) (sym (is_it ended.input input same)))
  where
    is_it : (n m : ℕ) → n ≡ m → (n == m) ≡ true
    is_it n m e = eq-eqb n m e

pub below_two : (r : Result (Unit {0}) RunFault) → IfErr r (λ ended. ended.input ≤ 1) → IfErr r (λ ended. (ended.input == 2) ≡ false)
below_two (Ok done) h = tt
below_two (Err ended) h = ne_eqb ended.input 2 (λ same. omega (arith, h, same))

-- The whole.

module _ (table : Collation) (delta delta_after words words_after taken : Option (List ℕ)) where
  -- nothing is written where the words couldn't be read
  pub unread_reviews : (ended : RunFault) → ended.input ≡ 2 → ReadingFails words words_after (record ended { input = 0 }) → ReviewRuns table delta delta_after words words_after taken taken (Err ended)
  unread_reviews ended input fails delta_text words_text before e f t = (
    [],
    t ∙ ap Some (sym (append-nil before)),
    subst (λ (n : ℕ). ReviewRanTo n table delta_text words_text delta_after words_after [] ended) (sym input) (refl, fails words_text f),
  )

  module _ (list : List NumberedWord) (begun : Review) (lists : ListsWordsOf table words list)
      (stands : standing_of begun ≡ record { table = table; sorted = list; count = zero }) (none : begun.told.bytes.items ≡ []) where
    same_table : collation begun.table ≡ table
    same_table = ap (λ (s : Standing). s.table) stands

    -- what is written where a review stands is a review
    is_review : (now : Review) (after : Collation) → ReachesAll begun delta after now → (delta_text words_text : List ℕ) → delta ≡ Some delta_text → words ≡ Some words_text
        → ReviewsText table delta_text words_text (review_bytes now)
    is_review now after reaches delta_text words_text e f =
        let listed = lists words_text f in
        let texts = listed.0 in
        let numbered = numbered_from 1 texts in
        let statements = statements_of delta_text in
        let at = reaches delta_text e in
        let begun_ordered : AreInOrder (collation begun.table) numbered (all_numbered begun.list.items) =
        subst (λ (s : Standing). AreInOrder s.table numbered s.sorted) (sym stands) listed.2 in
        let led = at.1 numbered (numbered_lines texts) begun_ordered in
        let ordered = in_order_still numbered (standing_of begun) statements (standing_of now) led.0 begun_ordered led.1 in
        let counted : now.count ≡ length statements = all_counted numbered (standing_of begun) statements (standing_of now) led.0 led.1 ∙ ap (λ (s : Standing). s.count + length statements) stands
        ∙ none_before (length statements) in
        let long : length now.list.items ≡ length texts =
        sym (length-map now.list.items numbered_of) ∙ length_permutation numbered (all_numbered now.list.items) ordered.same ∙ length_numbered 1 texts in (
          after,
          texts,
          subst (λ (t : Collation). after_delta 1 t delta_text ≡ Ok after) same_table at.0,
          listed.1,
          (
            list,
            standing_of now,
            led.0,
            listed.2,
            subst (λ (s : Standing). ArePut numbered s statements (standing_of now) led.0) stands led.1,
            ap (λ (bytes : List ℕ). bytes ++ review_line now.count (length now.list.items)) (led.2 ∙ ap (λ (bytes : List ℕ). bytes ++ led.0) none)
                ∙ ap (λ (n : ℕ). led.0 ++ review_line n (length now.list.items)) counted
                ∙ ap (λ (n : ℕ). led.0 ++ review_line (length statements) n) long,
          ),
        )
      where
        none_before : (n : ℕ) → zero + n ≡ n
        none_before n = omega arith

    -- a write failed
    stopped_reviews : (taken_after : Option (List ℕ)) (now : Review) (after : Collation) → ReachesAll begun delta after now → AppendsPrefix taken taken_after (review_bytes now)
        → ReviewRuns table delta delta_after words words_after taken taken_after (Err write_failed)
    stopped_reviews taken_after now after reaches prefix delta_text words_text before e f t = (
      prefix.0,
      appended taken taken_after before prefix.0 t prefix.3,
      (refl, prefix.1, subst (ReviewsText table delta_text words_text) prefix.2 (is_review now after reaches delta_text words_text e f)),
    )

    -- what was written, by what putting the statements and writing answered
    pub told_reviews : (taken_after : Option (List ℕ)) (r : Result (Unit {0}) RunFault) → WritesReview begun delta delta_after taken taken_after r
        → ReviewRuns table delta delta_after words words_after taken taken_after r
    told_reviews taken_after (Ok done) h delta_text words_text before e f t =
        (review_bytes h.0, appended taken taken_after before (review_bytes h.0) t h.3, is_review h.0 h.1 h.2 delta_text words_text e f)
    told_reviews taken_after (Err ended) h delta_text words_text before e f t =
        ⊎_elim
        (λ (faulty : (ended.input ≡ 1) × (taken_after ≡ taken)
        × ((text : List ℕ) → delta ≡ Some text → DeltaFails (ending_of ended) 1 (collation begun.table) text delta_after ended)). (
          [],
          faulty.1 ∙ t ∙ ap Some (sym (append-nil before)),
          subst (λ (n : ℕ). ReviewRanTo n table delta_text words_text delta_after words_after [] ended) (sym faulty.0)
              (refl, (lists words_text f).0, (lists words_text f).1, subst (λ (t : Collation). DeltaFails (ending_of ended) 1 t delta_text delta_after ended) same_table (faulty.2 delta_text e)),
        ))
        (λ stops. subst (λ (r : RunFault). ReviewRuns table delta delta_after words words_after taken taken_after (Err r)) (sym stops.0)
        (stopped_reviews taken_after stops.1 stops.2 stops.3 stops.4) delta_text words_text before e f t)
        h
