-- The closure answers the order of two keys, and of two lines where these are the same.
use Rattle.std.proofs.Common.{ℕ, List, ap, rules}
use Rattle.std.specs.Ordering.{is_lt}
use Rattle.std.proofs.lemmas.Cmp.{nat_cmp_total, nat_list_cmp_total, on_total, then_total}
use Rattle.std.proofs.lemmas.List.Sorted.{answers_always, ranks_by}
use Rattle.coll_edit_replies.specs.declared.word_lists.ListedWord.{ListedWord}
use Rattle.coll_edit_replies.proofs.ToldOrders.{has_less_line, lines_sorted}
use Rattle.coll_edit_replies.proofs.word_lists.sort_listed.Goals as goal

pub returns-clause-sorted : goal.returns-clause-sorted
returns-clause-sorted c =
    let order = ranks_by (then_total (on_total (λ (rank : List ℕ × ℕ). rank.0) nat_list_cmp_total) (on_total (λ (rank : List ℕ × ℕ). rank.1) nat_cmp_total))
    (λ (listed : ListedWord). (listed.word.key, listed.line)) in
    let compares = answers_always _ _ _ (λ f a r g h. ap is_lt (search rules)) in
    lines_sorted c.args.list.now.items c.sort_by.new.self.items c.sort_by.ensures.permutation (c.in_ok-sort_by.ensures.sorted has_less_line order compares)
