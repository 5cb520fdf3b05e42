-- How a sort ends, by what reading its words and writing them answered.
use Rattle.std.proofs.Common.{◌≡◌, inl, inr, ⊎_elim, ℕ, Bool, if◌then◌else◌, List, [], ◌∷◌, ◌++◌, Option, Some, None, Result, Ok, Err, refl, sym, ap, ◌∙◌, subst, append-nil, ◌+◌, ◌<◌, ◌≤◌, drop, get_or, length}
use Rattle.std.specs.Prelude.{IfErr}
use Rattle.std.specs.Io.KnownBytes.{Appends}
use Rattle.std.specs.List.{flat_map}
use Rattle.std.proofs.lemmas.List.{drop_all}
use Rattle.coll_devices.specs.Devices.{AppendsPrefix, Sends, raised}
use Rattle.coll_nodes.specs.Table.{Collation}
use Rattle.coll_bench.specs.BatchReading.{starved_in}
use Rattle.coll_bench.specs.BatchRuns.{Ending, ReadFailed, WriteFailed, Starved, Refused, ending_of}
use Rattle.coll_bench.specs.Serving.{ReadsNone, write_failed}
use Rattle.coll_faults.specs.declared.faults.RunFault.{RunFault}
use Rattle.coll_texts.proofs.PrintedParts.{HasWritten, left_begins, written_prefix, written_more, written_all}
use Rattle.coll_word_lists.specs.KeyedWords.{KeyedWord, texts_of}
use Rattle.coll_word_lists.specs.SortRuns.{SortsText, SortRanTo, SortRuns, WritesSorted}
use Rattle.coll_word_lists.specs.SortedWords.{AreSorted}
use Rattle.coll_word_lists.specs.Words.{written_word, written_words}
use Rattle.coll_word_lists.specs.WordReading.{CountsReading, ReadingFails, WordsFail}
use Rattle.coll_word_lists.specs.WordTexts.{AreTextsOf}

-- the bytes of a word with its key
abbrev pub line_of : KeyedWord → List ℕ
line_of word = written_word word.text

-- words are written one by one
pub written_texts : (words : List KeyedWord) → written_words (texts_of words) ≡ flat_map line_of words
written_texts [] = refl
written_texts (word ∷ words) = ap (λ (bytes : List ℕ). written_word word.text ++ bytes) (written_texts words)

module _ (words : List KeyedWord) (index : ℕ) (start now : Option (List ℕ)) (so_far : HasWritten line_of words (drop index words) start now) where
  -- a write fails within the next word
  pub word_stops : (word : KeyedWord) → index < length words → word ≡ get_or words index word → (new : Option (List ℕ)) → AppendsPrefix now new (line_of word)
      → AppendsPrefix start new (written_words (texts_of words))
  word_stops word within is new prefix =
      subst (AppendsPrefix start new) (sym (written_texts words))
      (written_prefix line_of words (drop index words) (drop (index + 1) words) word start now new (left_begins words index word within is) so_far prefix)

  -- the next word is written
  pub word_more : (word : KeyedWord) → index < length words → word ≡ get_or words index word → (new : Option (List ℕ)) → Appends now new (line_of word)
      → HasWritten line_of words (drop (index + 1) words) start new
  word_more word within is new more =
      written_more line_of words (drop index words) (drop (index + 1) words) word start now new (left_begins words index word within is) so_far more

  -- or there is none
  pub words_end : length words ≤ index → Appends start now (written_words (texts_of words))
  words_end over =
      subst (Appends start now) (sym (written_texts words)) (written_all line_of words (drop index words) start now (drop_all index words over) so_far)

-- texts that were sorted are written
pub writes : (table : Collation) (texts sorted : List (List ℕ)) (taken taken_after : Option (List ℕ)) (r : Result (Unit {0}) RunFault)
    → AreSorted table texts sorted → Sends taken taken_after (written_words sorted) r → IfErr r (λ ended. ended ≡ write_failed) → WritesSorted table texts taken taken_after r
writes table texts sorted taken taken_after (Ok done) sorts sent fault = (sorted, sorts, sent)
writes table texts sorted taken taken_after (Err ended) sorts sent fault = inr (fault, sorted, sorts, sent)

-- bytes behind those that are known
pub appended : (a c : Option (List ℕ)) (before bytes : List ℕ) → a ≡ Some before → Appends a c bytes → c ≡ Some (before ++ bytes)
appended None c before bytes e h = absurd (cc)
appended (Some l) None before bytes e h = absurd h
appended (Some l) (Some m) before bytes e h = let same : l ≡ before = cc in ap Some (h ∙ ap (λ l. l ++ bytes) same)

module _ (table : Collation) (left left_after taken : Option (List ℕ)) where
  -- nothing is written where the words couldn't be read
  pub unread_runs : (ended : RunFault) → ReadingFails left left_after ended → SortRuns table left left_after taken taken (Err ended)
  unread_runs ended h text before e t = ([], t ∙ ap Some (sym (append-nil before)), by_kind (ending_of ended) (h text e))
    where
      by_kind : (kind : Ending) → WordsFail kind text left_after ended → SortRanTo kind table text left_after [] ended
      by_kind ReadFailed h = (refl, h)
      by_kind WriteFailed h = absurd h
      by_kind Starved h = (refl, h)
      by_kind Refused h = (refl, h)

  module _ (texts : List (List ℕ)) (read : AreTextsOf left texts) where
    -- the words of the text, sorted
    sorts_text : (sorted : List (List ℕ)) → AreSorted table texts sorted → (text : List ℕ) → left ≡ Some text → SortsText table text sorted
    sorts_text sorted sorts text e = (texts, read text e, sorts)

    -- memory was refused to the sort
    starved_runs : (taken_after : Option (List ℕ)) → taken_after ≡ taken → SortRuns table left left_after taken taken_after (Err (starved_in 0))
    starved_runs taken_after same text before e t = ([], same ∙ t ∙ ap Some (sym (append-nil before)), (refl, inl refl))

    -- a write failed
    stopped_runs : (taken_after : Option (List ℕ)) (sorted : List (List ℕ)) → AreSorted table texts sorted → AppendsPrefix taken taken_after (written_words sorted)
        → SortRuns table left left_after taken taken_after (Err write_failed)
    stopped_runs taken_after sorted sorts prefix text before e t =
        (prefix.0, appended taken taken_after before prefix.0 t prefix.3, (refl, sorted, prefix.1, sorts_text sorted sorts text e, prefix.2))

    -- what was written, by what writing answered
    pub written_runs : (taken_after : Option (List ℕ)) (r : Result (Unit {0}) RunFault) → WritesSorted table texts taken taken_after r → SortRuns table left left_after taken taken_after r
    written_runs taken_after (Ok done) h text before e t =
        (written_words h.0, appended taken taken_after before (written_words h.0) t h.2, (h.0, sorts_text h.0 h.1 text e, refl))
    written_runs taken_after (Err ended) h text before e t =
        ⊎_elim
        (λ (lack : (ended ≡ starved_in 0) × (taken_after ≡ taken)).
        subst (λ (f : RunFault). SortRuns table left left_after taken taken_after (Err f)) (sym lack.0) (starved_runs taken_after lack.1) text before e t)
        (λ stops. subst (λ (f : RunFault). SortRuns table left left_after taken taken_after (Err f)) (sym stops.0) (stopped_runs taken_after stops.1 stops.2 stops.3) text before e t)
        h

-- an answer to the output counts no read
pub counts_read : (old new : ℕ) (r : Result (Unit {0}) RunFault) → new ≡ old → IfErr r (λ ended. ReadsNone ended) → CountsReading old new r
counts_read old new (Ok done) same none = same
counts_read old new (Err ended) same none = same ∙ ap (λ (b : Bool). if b then raised old else old) (sym none)
