-- The closure answers the order of two keys, and of two lines where these are the same.
use Rattle.std.proofs.Common.{ℕ, List, ap, rules}
use Rattle.std.specs.Ordering.{is_lt}
use Rattle.std.proofs.lemmas.Cmp.{nat_cmp_total, nat_list_cmp_total, on_total, then_total}
use Rattle.std.proofs.lemmas.List.Sorted.{All-permutation, answers_always, ranks_by}
use Rattle.coll_word_lists.specs.KeyedWords.{IsKeyed}
use Rattle.coll_reviews.specs.declared.numbered_words.KeyedLine.{KeyedLine}
use Rattle.coll_reviews.proofs.KeptLemmas.{has_less_line, lines_in_order}
use Rattle.coll_reviews.proofs.numbered_words.sort_numbered.Goals as goal

pub returns-clause-sorted : goal.returns-clause-sorted
returns-clause-sorted c =
    let order = ranks_by (then_total (on_total (λ (rank : List ℕ × ℕ). rank.0) nat_list_cmp_total) (on_total (λ (rank : List ℕ × ℕ). rank.1) nat_cmp_total))
    (λ (keyed : KeyedLine). (keyed.word.key, keyed.line)) in
    let compares = answers_always _ _ _ (λ f a r g h. ap is_lt (search rules)) in
    λ table well keyed. lines_in_order table well c.sort_by.new.self.items
    (All-permutation (λ (keyed : KeyedLine). IsKeyed table keyed.word) c.args.list.now.items c.sort_by.new.self.items c.sort_by.ensures.permutation keyed)
    (c.in_ok-sort_by.ensures.sorted has_less_line order compares)
