-- The closure answers the order of two keys, so the sort is one by these.
use Rattle.std.proofs.Common.{ap, rules}
use Rattle.std.specs.Ordering.{is_lt}
use Rattle.std.proofs.lemmas.Cmp.{nat_list_cmp_total}
use Rattle.std.proofs.lemmas.List.Sorted.{answers_always, ranks_by}
use Rattle.coll_word_lists.specs.KeyedWords.{KeyedWord, has_less_key}
use Rattle.coll_word_lists.proofs.SortedLemmas.{keyed_still, sorts_words}
use Rattle.coll_word_lists.proofs.words.sort_by_keys.Goals as goal

pub returns-clause-sorted : goal.returns-clause-sorted
returns-clause-sorted c =
    let order = ranks_by nat_list_cmp_total (λ (word : KeyedWord). word.key) in
    let compares = answers_always _ _ _ (λ f a r g h. ap is_lt (search rules)) in
    sorts_words c.args.words.now.items c.sort_by.new.self.items c.sort_by.ensures.permutation (c.in_ok-sort_by.ensures.sorted has_less_key order compares)
    (c.sort_by.ensures.stable has_less_key order compares)

pub returns-clause-keyed : goal.returns-clause-keyed
returns-clause-keyed c = keyed_still c.args.words.now.items c.sort_by.new.self.items c.sort_by.ensures.permutation
