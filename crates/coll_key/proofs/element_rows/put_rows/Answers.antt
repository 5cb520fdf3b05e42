-- The row of the element at hand is put in. There is a place for it, since each element has a character.
use Rattle.std.proofs.Common.{◌≡◌, ◌<◌, length, map, take, ◌∷◌, ◌++◌, [], ◌∙◌, sym, ap, append_assoc, arith, chars, rules}
use Rattle.std.proofs.lemmas.List.{take_more_set, length-set}
use Rattle.std.proofs.lemmas.Str.{length-le-encodes, encodes-chars}
use Rattle.coll_ranks.specs.LevelWeights.{row_of}
use Rattle.coll_ranks.specs.Ranks.{elements_by_ranks}
use Rattle.coll_key.proofs.element_rows.put_rows.Goals as goal

pub bounds-rows-count : goal.bounds-rows-count
bounds-rows-count c =
    let bytes = length-le-encodes (chars c.args.text.now) in
    let all = ap length (encodes-chars c.args.text.now c.utf8.text) in
    omega (arith, bytes, all, c.requires.places, c.elements.invariant.places, c.elements.invariant.few, c.in-Some.ensures.characters, c.in-Some.ensures.some)

pub offset_bounds-rows-count : goal.offset_bounds-rows-count
offset_bounds-rows-count c =
    let bytes = length-le-encodes (chars c.args.text.now) in
    let all = ap length (encodes-chars c.args.text.now c.utf8.text) in
    omega (arith, bytes, all, c.requires.places, c.requires.few, c.elements.invariant.few, c.in-Some.ensures.characters, c.in-Some.ensures.some)

pub overflow_add-count : goal.overflow_add-count
overflow_add-count c =
    let bytes = length-le-encodes (chars c.args.text.now) in
    let all = ap length (encodes-chars c.args.text.now c.utf8.text) in
    omega (arith, bytes, all, c.requires.places, c.requires.few, c.elements.invariant.few, c.in-Some.ensures.characters, c.in-Some.ensures.some)

pub elements-preserved : goal.elements-preserved
elements-preserved c =
    let bytes = length-le-encodes (chars c.args.text.now) in
    let all = ap length (encodes-chars c.args.text.now c.utf8.text) in
    let below : c.elements.count < length c.elements.rows =
    omega (arith, bytes, all, c.requires.places, c.elements.invariant.places, c.elements.invariant.few, c.in-Some.ensures.characters, c.in-Some.ensures.some) in
    let rows = map (row_of c.args.ranks.now.compiled) in
    let rest = rows (elements_by_ranks c.args.ranks.now (chars c.in-Some.first.rest.now)) in
    let before = take c.elements.count c.elements.rows in
    let row : row_of c.args.ranks.now.compiled c.in-Some.first.element ≡ c.row.result = ap (λ w. row_of w c.in-Some.first.element) (sym c.weights.ensures) ∙ sym c.row.ensures in
    record {
      text = search rules;
      places = length-set c.elements.rows c.elements.count c.row.result ∙ c.elements.invariant.places;
      rows =
          c.elements.invariant.rows
          ∙ ap (λ ps. before ++ rows ps) c.in-Some.ensures.elements
          ∙ ap (λ r. before ++ r ∷ rest) row
          ∙ sym (append_assoc before (c.row.result ∷ []) rest)
          ∙ ap (λ rs. rs ++ rest) (sym (take_more_set c.elements.rows c.elements.count c.row.result below));
      few = omega (arith, c.elements.invariant.few, c.in-Some.ensures.characters, c.in-Some.ensures.some);
    }

pub returns-clause-within : goal.returns-clause-within
returns-clause-within c =
    let bytes = length-le-encodes (chars c.args.text.now) in
    let all = ap length (encodes-chars c.args.text.now c.utf8.text) in
    omega (arith, bytes, all, c.requires.places, c.elements.invariant.places, c.elements.invariant.few)
