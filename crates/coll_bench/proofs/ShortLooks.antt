-- Whether a look is a short one, where characters are counted up to the largest number of 64 bits.
use Rattle.std.proofs.Common.{◌≡◌, ◌<◌, ◌≤◌, ◌+◌, ◌-◌, ◌/◌, ◌^◌, ℕ, min, cond, Some, None, length, sym, ap, ◌∙◌, arith}
use Rattle.std.proofs.lemmas.Bool.{le-leb}
use Rattle.coll_nodes.specs.Table.{Collation, entries_of}
use Rattle.coll_bench.specs.Ranked.{most_looked, with_look}

module _ (table : Collation) (counted some looked characters others entries limit : ℕ) (part : some ≡ min (looked + characters) (2 ^ 64 - 1))
    (sum : counted ≡ min (some + others) (2 ^ 64 - 1)) (of : entries ≡ length (entries_of table))
    (most : limit ≡ 64 + entries / 32) (few : entries < 2 ^ 64) where
  -- the limit of the definition
  is_most : limit ≡ most_looked table
  is_most = most ∙ ap (λ n. 64 + n / 32) of

  -- few enough
  pub few_enough : counted ≤ limit → Some counted ≡ with_look table looked (characters + others)
  few_enough small =
      let small_limit : limit < 2 ^ 64 - 1 = omega (arith, most, few) in
      let same : counted ≡ looked + (characters + others) = omega (arith, part, sum, small, small_limit) in
      ap Some same ∙ sym (ap (λ b. cond b (Some (looked + (characters + others))) None) (le-leb (looked + (characters + others)) (most_looked table) (omega (arith, same, is_most, small))))
