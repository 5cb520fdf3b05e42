-- What is written goes in word by word.
use Rattle.std.proofs.Common.{◌-◌, List, ℕ, take, drop, length, sym, ap, ◌∙◌}
use Rattle.coll_lookups.specs.WordHashing.{with_word, written}
use Rattle.coll_lookups.proofs.WordHashing.{first_written, last_written}
use Rattle.coll_lookups.proofs.word_hashing.WordHasherHasher.write.Goals as goal

pub loop-rest-preserved : goal.loop-rest-preserved
loop-rest-preserved c =
    let rest = c.loop-rest.rest.now in
    let later : List ℕ = take (length rest - 8) (drop 8 rest) in
    let taken = c.take.ensures ∙ ap (with_word c.loop-rest.self) c.from_le_bytes.ensures in
    ap (λ s. written s later) taken ∙ (sym (first_written c.loop-rest.self rest c.in-len8-up.len_at_least) ∙ c.loop-rest.invariant)

pub returns : goal.returns
returns c =
    let last = last_written c.loop-rest.self c.loop-rest.rest.now c.in_default.len_below in
    c.take-2.ensures ∙ (ap (with_word c.loop-rest.self) c.last_word.ensures ∙ (sym last ∙ c.loop-rest.invariant))
