-- The closure answers the order of two keys, so the sort is one by these.
use Rattle.std.proofs.Common.{ap, rules}
use Rattle.std.specs.Ordering.{is_lt}
use Rattle.std.proofs.lemmas.Cmp.{nat_list_cmp_total}
use Rattle.std.proofs.lemmas.List.Sorted.{answers_always, ranks_by}
use Rattle.coll_word_lists.specs.KeyedWords.{KeyedWord, has_less_key}
use Rattle.coll_words.proofs.lent_words.sort_lent_words.Goals as goal

pub returns : goal.returns
returns c =
    let order = ranks_by nat_list_cmp_total (λ (word : KeyedWord). word.key) in
    let compares = answers_always _ _ _ (λ f a r g h. ap is_lt (search rules)) in
    record {
      same = c.sort_by.ensures.permutation;
      ordered = c.in_ok-sort_by.ensures.sorted has_less_key order compares;
      stable = c.sort_by.ensures.stable has_less_key order compares;
    }
