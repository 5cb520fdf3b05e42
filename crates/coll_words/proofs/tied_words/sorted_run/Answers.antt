-- The closure answers the order of two keys, and words that are sorted by their keys are sorted by the table.
use Rattle.std.proofs.Common.{List, ℕ, ap, subst, rules}
use Rattle.std.specs.Ordering.{is_lt}
use Rattle.std.proofs.lemmas.Cmp.{nat_list_cmp_total}
use Rattle.std.proofs.lemmas.List.Sorted.{answers_always, ranks_by}
use Rattle.coll_nodes.specs.TableLayout.{collation}
use Rattle.coll_word_lists.specs.KeyedWords.{KeyedWord, has_less_key, texts_of}
use Rattle.coll_word_lists.specs.SortedWords.{AreSorted}
use Rattle.coll_word_lists.proofs.SortedLemmas.{sorted_texts}
use Rattle.coll_words.proofs.tied_words.sorted_run.Goals as goal

pub returns : goal.returns
returns c =
    let table = collation c.args.table.now in
    let order = ranks_by nat_list_cmp_total (λ (word : KeyedWord). word.key) in
    let compares = answers_always _ _ _ (λ f a r g h. ap is_lt (search rules)) in
    subst (λ (texts : List (List ℕ)). AreSorted table texts (texts_of c.sort_by.new.self.items)) c.in_ok-tied.ensures.texts
    (sorted_texts table c.lemma_well_formed.ensures.well_formed c.in_ok-tied.tied.items c.sort_by.new.self.items c.in_ok-tied.ensures.keyed c.sort_by.ensures.permutation
    (c.in_ok-sort_by.ensures.sorted has_less_key order compares) (c.sort_by.ensures.stable has_less_key order compares))
