-- The numbers of the first level are what the text is sorted by first.
use Rattle.std.proofs.Common.{◌≡◌, ◌∙◌, ◌++◌, ℕ, List, true, chars, sym, ap}
use Rattle.coll_nodes.specs.TableLayout.{collation}
use Rattle.coll_words.specs.FirstKeys.{begins_plainly}
use Rattle.coll_word_lists.specs.PackedKeys.{packed_key}
use Rattle.coll_words.proofs.FirstLemmas.{first_is_plain}
use Rattle.coll_words.proofs.first_keys.with_first_key.Goals as goal

pub returns-then-begins_plainly-clause-key : goal.returns-then-begins_plainly-clause-key
returns-then-begins_plainly-clause-key c =
    let table = collation c.args.table.now in
    let plain : begins_plainly table.rules ≡ true = ap begins_plainly (sym c.rules.ensures) ∙ sym c.begins_plainly.ensures ∙ c.if-begins_plainly.true in
    c.in_ok-with.ensures
    ∙ ap (λ (ns : List ℕ). c.args.keys.items ++ packed_key ns)
    (first_is_plain c.args.ranks.now table c.requires c.lemma_well_formed.ensures.well_formed (chars c.args.text.now) plain)
