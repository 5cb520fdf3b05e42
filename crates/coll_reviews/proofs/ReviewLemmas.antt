-- Where statements lead a review, and what it writes then.
use Rattle.std.proofs.Common.{◌≡◌, ℕ, ◌+◌, true, List, [], ◌∷◌, ◌++◌, length, map, take, Option, Some, None, Result, Ok, Err}
use Rattle.std.proofs.Common.{refl, sym, ap, subst, ◌∙◌, arith, append-nil, append_assoc}
use Rattle.std.specs.Prelude.{IfSome}
use Rattle.std.specs.List.{flat_map}
use Rattle.std.specs.List.Sorted.{IsPermutation, IsSorted}
use Rattle.std.proofs.lemmas.List.{get_or-map, length-map}
use Rattle.std.proofs.lemmas.List.Sorted.{IsPermutation-map, IsPermutation-trans}
use Rattle.coll_nodes.specs.Table.{Collation}
use Rattle.coll_nodes.specs.TableLayout.{collation}
use Rattle.coll_table.specs.Delta.{delta}
use Rattle.coll_requests.specs.declared.delta_files.StatementAt.{StatementAt}
use Rattle.coll_table.specs.declared.refusals.Refusal.{Refusal}
use Rattle.coll_bench.specs.BatchOutcome.{judged_at}
use Rattle.coll_bench.specs.Replies.{history_line}
use Rattle.coll_faults.specs.declared.faults.RunFault.{RunFault}
use Rattle.coll_nodes.specs.WellFormed.{IsWellFormed}
use Rattle.coll_word_lists.specs.KeyedWords.{KeyedWord, IsKeyed, AreKeyed, texts_of}
use Rattle.coll_reviews.specs.KeptWords.{AreLinesByKeys, keyed_line}
use Rattle.coll_reviews.specs.ListedWords.{IsSortedAnew, all_numbered, newly_beside}
use Rattle.coll_word_lists.specs.Neighbours.{NumberedWord, WordPair, only_in}
use Rattle.coll_word_lists.specs.NumberedWords.{AreInOrder, HaveLines, line_order, numbered_from}
use Rattle.coll_reviews.specs.ReviewLines.{joined_line, most_told, parted_line, statement_told}
use Rattle.coll_reviews.specs.ReviewSteps.{LeadsTo, SortsLines, SortsListed, standing_of}
use Rattle.coll_reviews.specs.Reviews.{ArePut, IsPut, Standing}
use Rattle.coll_reviews.specs.declared.listed_words.ListedWord.{ListedWord}
use Rattle.coll_reviews.specs.declared.numbered_words.KeyedLine.{KeyedLine}
use Rattle.coll_reviews.specs.declared.reviews.Review.{Review}
use Rattle.coll_reviews.specs.Declaring.{declares_alone}
use Rattle.coll_reviews.proofs.DeclaredLemmas.{nothing_new, ordered_alike, sorted_still}
use Rattle.coll_reviews.proofs.NeighbourLemmas.{moved_words, new_told, lost_told}
use Rattle.coll_word_lists.proofs.NumberedLemmas.{lines_still}

-- The list.

-- words that are numbered have the keys that they had
keyed_lines : (table : Collation) (list : List KeyedLine) → AreKeyed table (map (λ (keyed : KeyedLine). keyed.word) list) → AreLinesByKeys table list
keyed_lines table list keyed = λ k d within.
    subst (IsKeyed table) (get_or-map (λ (keyed : KeyedLine). keyed.word) list k d d.word within)
    (keyed k d.word (omega (arith, within, length-map list (λ (keyed : KeyedLine). keyed.word))))

-- words that were numbered, and then sorted
sorts_listed : (words : List KeyedWord) (lines : List KeyedLine) (list : List NumberedWord) → map keyed_line lines ≡ numbered_from 1 (texts_of words)
    → map (λ (keyed : KeyedLine). keyed.word) lines ≡ words → SortsLines lines list → SortsListed words list
sorts_listed words lines list numbers same sorts = λ table well keyed.
    subst (λ (l : List NumberedWord). AreInOrder table l list) numbers (sorts table well (keyed_lines table lines (subst (AreKeyed table) (sym same) keyed)))

-- the same where memory may have been refused
pub sorts_some : {X : Type 0} (kept : Option X) (list_of : X → List NumberedWord) (words : List KeyedWord) (lines : List KeyedLine) → map keyed_line lines ≡ numbered_from 1 (texts_of words)
    → map (λ (keyed : KeyedLine). keyed.word) lines ≡ words → IfSome kept (λ some. SortsLines lines (list_of some)) → IfSome kept (λ some. SortsListed words (list_of some))
sorts_some (Some some) list_of words lines numbers same sorts = sorts_listed words lines (list_of some) numbers same sorts
sorts_some None list_of words lines numbers same sorts = tt

-- words that were sorted by their keys, and then kept
pub sorts_lines : (lines sorted : List KeyedLine) (list : List NumberedWord) → IsPermutation lines sorted
    → ((table : Collation) → IsWellFormed table → AreLinesByKeys table lines → IsSorted (line_order table) (map keyed_line sorted)) → list ≡ map keyed_line sorted → SortsLines lines list
sorts_lines lines sorted list moved orders is = λ table well keyed.
    subst (AreInOrder table (map keyed_line lines)) (sym is) (record { same = IsPermutation-map keyed_line lines sorted moved; ordered = orders table well keyed })

-- Statements.

module _ (words : List NumberedWord) where
  -- the words are in order where statements led
  pub in_order_still : (old : Standing) (given : List StatementAt) (new : Standing) (told : List ℕ) → AreInOrder old.table words old.sorted → ArePut words old given new told
      → AreInOrder new.table words new.sorted
  in_order_still old [] new told ordered put = subst (λ (s : Standing). AreInOrder s.table words s.sorted) (sym put.0) ordered
  in_order_still old (at ∷ later) new told ordered put = in_order_still put.0 later new put.2 put.3.sorted put.4

  -- each statement was counted
  pub all_counted : (old : Standing) (given : List StatementAt) (new : Standing) (told : List ℕ) → ArePut words old given new told → new.count ≡ old.count + length given
  all_counted old [] new told put = omega (arith, ap (λ (s : Standing). s.count) put.0)
  all_counted old (at ∷ later) new told put = omega (arith, all_counted put.0 later new put.2 put.4, put.3.count)

  -- one statement more
  put_behind : (old : Standing) (given : List StatementAt) (now : Standing) (told : List ℕ) (at : StatementAt) (new : Standing) (more : List ℕ)
      → ArePut words old given now told → IsPut words now at new more → ArePut words old (given ++ at ∷ []) new (told ++ more)
  put_behind old [] now told at new more put one =
      (new, more, [], subst (λ (s : Standing). IsPut words s at new more) put.0 one, (refl, refl), ap (λ (l : List ℕ). l ++ more) put.1 ∙ sym (append-nil more))
  put_behind old (first ∷ later) now told at new more put one = (
    put.0,
    put.1,
    put.2 ++ more,
    put.3,
    put_behind put.0 later now put.2 at new more put.4 one,
    ap (λ (l : List ℕ). l ++ more) put.5 ∙ append_assoc put.1 put.2 more,
  )

-- what a statement did to the words, where their list was sorted anew behind it
told_so : (number : ℕ) (at : StatementAt) (table : Collation) (old new : List ListedWord) → HaveLines (all_numbered old) → IsSortedAnew table old new
    → history_line number at.statement ++ (parted_line (length (newly_beside new)) ++ flat_map joined_line (take most_told (newly_beside new)))
    ≡ statement_told number at.statement (all_numbered old) (all_numbered new)
unfolding statement_told
told_so number at table old new lines anew =
    ap (λ (n : ℕ). history_line number at.statement ++ (parted_line n ++ flat_map joined_line (take most_told (newly_beside new)))) (lost_told old new anew.moved lines)
    ∙ ap (λ (pairs : List WordPair). history_line number at.statement ++ (parted_line (length (only_in (all_numbered old) (all_numbered new))) ++ flat_map joined_line (take most_told pairs)))
    (new_told old new anew.moved lines)

-- what is told of a statement that leaves all words where they stand
unmoved_so : (number : ℕ) (at : StatementAt) (words : List NumberedWord) → history_line number at.statement ++ parted_line 0 ≡ statement_told number at.statement words words
unfolding statement_told
unmoved_so number at words =
    ap (λ (l : List ℕ). history_line number at.statement ++ l) (sym (append-nil (parted_line 0)))
    ∙ ap (λ (pairs : List WordPair). history_line number at.statement ++ (parted_line (length pairs) ++ flat_map joined_line (take most_told pairs))) (sym (nothing_new words))

-- a statement that was judged well gives the table
pub judged_well : (input line : ℕ) (r : Result Collation Refusal) (table : Collation) → judged_at input line r ≡ Ok table → r ≡ Ok table
judged_well input line (Ok t) table e = ap (λ (r : Result Collation RunFault). given_or t r) e
  where
    given_or : Collation → Result Collation RunFault → Result Collation Refusal
    given_or other (Ok t) = Ok t
    given_or other (Err f) = Ok other
judged_well input line (Err refusal) table e = absurd cc

-- a statement was put to a review, whichever words its list has in order
abbrev pub PutsOne : (old : Review) → StatementAt → (new : Review) → Type 0
PutsOne old at new =
    (words : List NumberedWord) → HaveLines words → AreInOrder (collation old.table) words (all_numbered old.list.items)
    → (more : List ℕ) × IsPut words (standing_of old) at (standing_of new) more × (new.told.bytes.items ≡ old.told.bytes.items ++ more)

-- one statement more leads on
pub leads_on : (begun old new : Review) (given : List StatementAt) (at : StatementAt) → LeadsTo begun given old → PutsOne old at new → LeadsTo begun (given ++ at ∷ []) new
leads_on begun old new given at leads puts words lines ordered =
    let so_far = leads words lines ordered in
    let now_ordered = in_order_still words (standing_of begun) given (standing_of old) so_far.0 ordered so_far.1 in
    let one = puts words lines now_ordered in (
      so_far.0 ++ one.0,
      put_behind words (standing_of begun) given (standing_of old) so_far.0 at (standing_of new) one.0 so_far.1 one.1,
      one.2 ∙ ap (λ (l : List ℕ). l ++ one.0) so_far.2 ∙ append_assoc begun.told.bytes.items so_far.0 one.0,
    )

module _ (old new : Review) (at : StatementAt) (rewritten : delta (collation old.table) at.statement ≡ Ok (collation new.table)) (counted : new.count ≡ old.count + 1) where
  abbrev told_of : List ℕ
  told_of = statement_told new.count at.statement (all_numbered old.list.items) (all_numbered new.list.items)

  puts : (words : List NumberedWord) → AreInOrder (collation new.table) words (all_numbered new.list.items) → IsPut words (standing_of old) at (standing_of new) told_of
  puts words sorted = record { rewritten = rewritten; sorted = sorted; count = omega (arith, counted); lines = refl }

  -- the words were sorted anew
  pub puts_sorted : IsSortedAnew (collation new.table) old.list.items new.list.items
      → new.told.bytes.items ≡ old.told.bytes.items ++ (history_line new.count at.statement
      ++ (parted_line (length (newly_beside new.list.items)) ++ flat_map joined_line (take most_told (newly_beside new.list.items))))
      → PutsOne old at new
  puts_sorted anew told words lines ordered =
      let old_lines = lines_still words (all_numbered old.list.items) ordered.same lines in (
        told_of,
        puts words (record {
          same = IsPermutation-trans words (all_numbered old.list.items) (all_numbered new.list.items) ordered.same
              (moved_words old.list.items new.list.items anew.moved old_lines);
          ordered = anew.ordered;
        }),
        told ∙ ap (λ (l : List ℕ). old.told.bytes.items ++ l) (told_so new.count at (collation new.table) old.list.items new.list.items old_lines anew),
      )

  -- the words stay, since the statement declares alone
  pub puts_declared : IsWellFormed (collation old.table) → declares_alone at.statement ≡ true → new.list.items ≡ old.list.items
      → new.told.bytes.items ≡ old.told.bytes.items ++ (history_line new.count at.statement ++ parted_line 0) → PutsOne old at new
  puts_declared well alone same told words lines ordered =
      let alike = ordered_alike (collation old.table) (collation new.table) well at.statement alone rewritten in
      let items : all_numbered old.list.items ≡ all_numbered new.list.items = ap (λ (l : List ListedWord). all_numbered l) (sym same) in (
        told_of,
        puts words (subst (AreInOrder (collation new.table) words) items
            (record { same = ordered.same; ordered = sorted_still (collation old.table) (collation new.table) alike (all_numbered old.list.items) ordered.ordered })),
        told ∙ ap (λ (l : List ℕ). old.told.bytes.items ++ l) (unmoved_so new.count at (all_numbered old.list.items) ∙ ap (statement_told new.count at.statement (all_numbered old.list.items)) items),
      )
