-- The words of an input are read, put in order and written.
use Rattle.std.proofs.Common.{◌≡◌, inl, ℕ, Bool, false, List, length, ◌++◌, codes, Option, Some, Result, Ok, Err, sym, ap, subst, ◌∙◌}
use Rattle.std.specs.Prelude.{IfOk, IfErr}
use Rattle.std.specs.List.{flat_map}
use Rattle.std.proofs.lemmas.List.{length-map}
use Rattle.coll_devices.specs.Devices.{Sends}
use Rattle.coll_history.specs.Histories.{History, table_now}
use Rattle.coll_bench.specs.Replies.{counted_line}
use Rattle.coll_bench.specs.Serving.{write_failed}
use Rattle.coll_faults.specs.declared.faults.RunFault.{RunFault}
use Rattle.coll_word_lists.specs.Neighbours.{NumberedWord}
use Rattle.coll_word_lists.specs.NumberedWords.{HaveLines, numbered_from}
use Rattle.coll_word_lists.specs.WordTexts.{AreTextsOf}
use Rattle.coll_word_lists.proofs.NumberedLemmas.{lines_still, numbered_lines}
use Rattle.coll_edit_replies.specs.ToldLists.{AreLinesOf, AreListedBy, IsListed, ListsAnew, ListsWordsOf, all_numbered, list_bytes, numbered_of}
use Rattle.coll_edit_replies.specs.WordLists.{ListsText, ListsWords, table_before, word_line}
use Rattle.coll_edit_replies.specs.declared.word_lists.ListedWord.{ListedWord}
use Rattle.coll_edit_replies.proofs.ToldLemmas.{marked_all}

-- an answer that is good says more, and one that is a fault
pub ok_then : {A E : Type 0} (P Q : A → Type 0) (r : Result A E) → ((a : A) → P a → Q a) → IfOk r P → IfOk r Q
ok_then P Q (Ok a) f p = f a p
ok_then P Q (Err e) f p = tt

pub err_then : {A E : Type 0} (P Q : E → Type 0) (r : Result A E) → ((e : E) → P e → Q e) → IfErr r P → IfErr r Q
err_then P Q (Ok a) f p = tt
err_then P Q (Err e) f p = f e p

-- words that were read are numbered
pub lines_read : (left : Option (List ℕ)) (texts : List (List ℕ)) (list : List ListedWord) → AreTextsOf left texts → all_numbered list ≡ numbered_from 1 texts → AreLinesOf left list
lines_read left texts list read is text e = (texts, read text e, is)

-- words that were read are put in order
pub lists_words : (h : History) (left : Option (List ℕ)) (changed : Bool) (words list : List ListedWord) → AreLinesOf left words → AreListedBy (table_before h) words
    → ListsAnew (table_now h) changed words list → (changed ≡ false → table_before h ≡ table_now h) → ListsWordsOf h left list
lists_words h left changed words list lines by anew same text e =
    let read = lines text e in (
      read.0,
      read.1,
      subst (λ (l : List NumberedWord). IsListed (table_before h) (table_now h) l list) read.2
          (anew (table_before h) by (subst HaveLines (sym read.2) (numbered_lines read.0)) same),
    )

-- and are then written
module _ (h : History) (left : Option (List ℕ)) (list : List ListedWord) (lists : ListsWordsOf h left list) where
  written_so : (text : List ℕ) → left ≡ Some text → ListsText h text (list_bytes list)
  written_so text e =
      let words = lists text e in
      let listed : IsListed (table_before h) (table_now h) (numbered_from 1 words.0) list = words.2 in
      let lines : HaveLines (all_numbered list) = lines_still (numbered_from 1 words.0) (all_numbered list) listed.is.same (numbered_lines words.0) in (
        words.0,
        words.1,
        (
          listed.old,
          all_numbered list,
          listed.was,
          listed.is,
          ap (λ (bytes : List ℕ). bytes ++ counted_line (codes "words") (length list)) (marked_all listed.old list lines.once listed.told_in)
              ∙ ap (λ (n : ℕ). flat_map (word_line listed.old (all_numbered list)) (all_numbered list) ++ counted_line (codes "words") n) (sym (length-map list numbered_of)),
        ),
      )

  pub list_written : (left_after taken taken_after : Option (List ℕ)) (r : Result (Unit {0}) RunFault) → Sends taken taken_after (list_bytes list) r → IfErr r (λ ended. ended ≡ write_failed)
      → ListsWords h left left_after taken taken_after r
  list_written left_after taken taken_after (Ok done) sent fault = λ text e. (list_bytes list, written_so text e, sent)
  list_written left_after taken taken_after (Err ended) sent fault = inl (fault, λ text e. (list_bytes list, written_so text e, sent))
