-- The key of the rows of a text's elements is that of the text.
use Rattle.std.proofs.Common.{◌≡◌, ◌∙◌, chars, length, map, refl, sym, ap, arith}
use Rattle.std.specs.List.{flat_map}
use Rattle.std.proofs.lemmas.List.{length-map}
use Rattle.coll_nodes.specs.TableLayout.{collation}
use Rattle.coll_ranks.specs.LevelWeights.{row_of}
use Rattle.coll_ranks.specs.Ranks.{elements_by_ranks}
use Rattle.coll_key.specs.SortKey.{ended}
use Rattle.coll_key.specs.WrittenKey.{has_key_form}
use Rattle.coll_key.proofs.KeyForm.{key_form}
use Rattle.coll_key.proofs.LevelLemmas.{few_by_ranks, few_bytes, known_anyway}
use Rattle.coll_key.proofs.OrderLemmas.{key_is_made}
use Rattle.coll_key.proofs.RowLemmas.{lists_by_rows}
use Rattle.coll_key.proofs.keys.key.Goals as goal

pub key_of_rows-requires : goal.key_of_rows-requires
key_of_rows-requires c =
    let ranks = c.args.ranks.now in
    omega (
      arith,
      ap length (c.deref.ensures.value ∙ c.in_ok-rows.ensures.ok),
      length-map (elements_by_ranks ranks (chars c.args.text.now)) (row_of ranks.compiled),
      few_by_ranks ranks (chars c.args.text.now) c.in_ok-rows.ensures.short,
    )

pub returns-clause-ok : goal.returns-clause-ok
returns-clause-ok c =
    let ranks = c.args.ranks.now in
    let elements = elements_by_ranks ranks (chars c.args.text.now) in
    let are : c.deref.result.now ≡ map (row_of c.weights.result.now) elements = c.deref.ensures.value ∙ c.in_ok-rows.ensures.ok ∙ ap (λ w. map (row_of w) elements) (sym c.weights.ensures) in
    let made = c.in_ok-key-2.ensures ∙ ap (flat_map ended) (lists_by_rows c.weights.result.now c.deref.result.now elements are c.rules-2.result.now) in
    key_is_made ranks (collation c.args.table.now) c.requires c.lemma_well_formed.ensures.well_formed (chars c.args.text.now) c.weights.result.now c.rules-2.result.now elements c.in_ok-key-2.key.items
    c.weights.ensures c.rules-2.ensures refl made

pub returns-clause-form : goal.returns-clause-form
returns-clause-form c =
    let table = collation c.args.table.now in
    ap (has_key_form table.rules) (returns-clause-ok c) ∙ key_form table c.lemma_well_formed.ensures.well_formed (chars c.args.text.now)

pub returns-then-text-le-MOST_WORD_BYTES-clause-ok : goal.returns-then-text-le-MOST_WORD_BYTES-clause-ok
returns-then-text-le-MOST_WORD_BYTES-clause-ok c =
    let ranks = c.args.ranks.now in
    let text = chars c.args.text.now in
    key_is_made ranks (collation c.args.table.now) c.requires c.lemma_well_formed.ensures.well_formed text ranks.compiled c.rules.result.now (elements_by_ranks ranks text) c.in_ok-key.key.items refl
    c.rules.ensures refl c.in_ok-key.ensures

pub returns-then-text-le-MOST_WORD_BYTES-clause-form : goal.returns-then-text-le-MOST_WORD_BYTES-clause-form
returns-then-text-le-MOST_WORD_BYTES-clause-form c =
    let table = collation c.args.table.now in
    ap (has_key_form table.rules) (returns-then-text-le-MOST_WORD_BYTES-clause-ok c) ∙ key_form table c.lemma_well_formed.ensures.well_formed (chars c.args.text.now)

pub returns-then-text-le-MOST_WORD_BYTES-clause-short : goal.returns-then-text-le-MOST_WORD_BYTES-clause-short
returns-then-text-le-MOST_WORD_BYTES-clause-short c = few_bytes c.args.text.now c.utf8.text c.if-text-le-MOST_WORD_BYTES.true

pub returns-in_err-key-clause-memory : goal.returns-in_err-key-clause-memory
returns-in_err-key-clause-memory c = known_anyway c.from_residual.result _ (few_bytes c.args.text.now c.utf8.text c.if-text-le-MOST_WORD_BYTES.true)
