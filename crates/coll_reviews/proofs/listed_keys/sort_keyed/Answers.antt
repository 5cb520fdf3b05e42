-- The closure answers the order of two keys, and of two lines where these are the same.
use Rattle.std.proofs.Common.{ℕ, List, ap, rules}
use Rattle.std.specs.Ordering.{is_lt}
use Rattle.std.proofs.lemmas.Cmp.{nat_cmp_total, nat_list_cmp_total, on_total, then_total}
use Rattle.std.proofs.lemmas.List.Sorted.{All-permutation, answers_always, ranks_by}
use Rattle.coll_reviews.specs.ListedKeys.{HasKey}
use Rattle.coll_reviews.specs.declared.listed_keys.KeyedListed.{KeyedListed}
use Rattle.coll_reviews.proofs.ListedKeyLemmas.{comes_by_key, sorted_by_keys}
use Rattle.coll_reviews.proofs.listed_keys.sort_keyed.Goals as goal

pub returns-clause-sorted : goal.returns-clause-sorted
returns-clause-sorted c =
    let order = ranks_by (then_total (on_total (λ (rank : List ℕ × ℕ). rank.0) nat_list_cmp_total) (on_total (λ (rank : List ℕ × ℕ). rank.1) nat_cmp_total))
    (λ (keyed : KeyedListed). (keyed.key.key, keyed.listed.line)) in
    let compares = answers_always _ _ _ (λ f a r g h. ap is_lt (search rules)) in
    λ table well keyed. sorted_by_keys table well c.sort_by.new.self.items
    (All-permutation (HasKey table) c.args.keyed.now.items c.sort_by.new.self.items c.sort_by.ensures.permutation keyed)
    (c.in_ok-sort_by.ensures.sorted comes_by_key order compares)
