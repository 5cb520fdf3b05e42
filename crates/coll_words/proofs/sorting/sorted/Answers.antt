-- What was sorted by the keys, and then run by run, is sorted.
use Rattle.std.proofs.Common.{◌∙◌, List, ℕ, length, drop, sym, subst}
use Rattle.std.proofs.lemmas.List.{length-map, take_at}
use Rattle.std.proofs.lemmas.List.Sorted.{length_permutation}
use Rattle.coll_nodes.specs.TableLayout.{collation}
use Rattle.coll_word_lists.specs.KeyedWords.{KeyedWord, texts_of}
use Rattle.coll_words.specs.LentWords.{AreLedFirst}
use Rattle.coll_word_lists.specs.SortedWords.{AreSorted}
use Rattle.coll_words.proofs.LentLemmas.{led_moved, lent_first, lent_texts}
use Rattle.coll_words.proofs.TiedLemmas.{sorted_through}
use Rattle.coll_words.proofs.sorting.sorted.Goals as goal

pub sort_ties-requires-clause-led : goal.sort_ties-requires-clause-led
sort_ties-requires-clause-led c =
    let table = collation c.args.table.now in
    let lent = c.in_ok-lent.lent.items in
    let first = c.sort_lent_words.new.words.items in
    subst (AreLedFirst table) (sym c.deref_mut.ensures.value)
    (led_moved table lent first c.in_ok-sort_lent_words.ensures.same (lent_first table c.args.words.now lent c.in_ok-lent.ensures c.requires.keyed))

pub returns : goal.returns
returns c =
    let table = collation c.args.table.now in
    let words = c.args.words.now in
    let lent = c.in_ok-lent.lent.items in
    let first = c.sort_lent_words.new.words.items in
    let now = c.sort_ties.new.words in
    let text = λ (word : KeyedWord). word.text in
    let led = lent_first table words lent c.in_ok-lent.ensures c.requires.keyed in
    let after : AreSorted table (texts_of first) (texts_of now) =
    subst (λ (old : List KeyedWord). AreSorted table (texts_of old) (texts_of now)) c.deref_mut.ensures.value c.in_ok-sort_ties.ensures in
    let long = sym (length-map now text) ∙ length_permutation (texts_of first) (texts_of now) after.same ∙ length-map first text ∙ sym c.sort_lent_words.new.words.ok.0 in
    subst (λ (list : List KeyedWord). AreSorted table (texts_of words) (texts_of list)) (sym (take_at now (drop (length now) first) c.sort_lent_words.new.words.len long))
    (subst (λ (old : List (List ℕ)). AreSorted table old (texts_of now)) (lent_texts words lent c.in_ok-lent.ensures)
    (sorted_through table c.lemma_well_formed.ensures.well_formed led.numbers led.base led.room led.digits lent first led.led c.in_ok-sort_lent_words.ensures (texts_of now) after))
