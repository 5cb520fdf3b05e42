-- The row of the element at hand is kept, and its characters are counted. There is room for it, since each element has a character.
use Rattle.std.proofs.Common.{◌≡◌, ◌≤◌, ◌+◌, length, map, ◌∷◌, ◌++◌, [], ◌∙◌, sym, ap, append_assoc, arith, chars, rules}
use Rattle.std.specs.Prelude.{vec_len}
use Rattle.std.proofs.lemmas.Str.{length-le-encodes, encodes-chars}
use Rattle.coll_ranks.specs.LevelWeights.{row_of}
use Rattle.coll_ranks.specs.Ranks.{elements_by_ranks}
use Rattle.coll_key.proofs.element_rows.split_rows.Goals as goal

pub push_reserved-requires : goal.push_reserved-requires
push_reserved-requires c =
    let bytes = length-le-encodes (chars c.args.text.now) in
    let all = ap length (encodes-chars c.args.text.now c.utf8.text) in
    let within : vec_len c.elements.rows + 1 ≤ length c.args.text.now = omega (arith, bytes, all, c.elements.invariant.few, c.in-Some.ensures.characters, c.in-Some.ensures.some) in
    let few : vec_len c.elements.rows + 1 ≤ 65_536 = omega (arith, c.elements.invariant.few, c.elements.invariant.counted, c.in-Some.ensures.some, c.if-room-first.false) in
    omega (arith, c.most_elements.ensures.enough (vec_len c.elements.rows + 1) within few, c.in_ok-rows.ensures.capacity, c.elements.invariant.room)

pub elements-preserved : goal.elements-preserved
elements-preserved c =
    let rows = map (row_of c.args.ranks.now.compiled) in
    let rest = rows (elements_by_ranks c.args.ranks.now (chars c.in-Some.first.rest.now)) in
    let row : row_of c.args.ranks.now.compiled c.in-Some.first.element ≡ c.row.result = ap (λ w. row_of w c.in-Some.first.element) (sym c.weights.ensures) ∙ sym c.row.ensures in
    record {
      text = search rules;
      rows =
          c.elements.invariant.rows
          ∙ ap (λ ps. c.elements.rows.items ++ rows ps) c.in-Some.ensures.elements
          ∙ ap (λ r. c.elements.rows.items ++ r ∷ rest) row
          ∙ sym (append_assoc c.elements.rows.items (c.row.result ∷ []) rest)
          ∙ ap (λ rs. rs ++ rest) (sym c.push_reserved.ensures.items);
      counted = omega (arith, c.elements.invariant.counted, c.in-Some.ensures.characters, c.if-room-first.false);
      few = omega (arith, c.elements.invariant.few, c.in-Some.ensures.characters, c.in-Some.ensures.some, c.push_reserved.ensures.len);
      room = c.push_reserved.ensures.capacity ∙ c.elements.invariant.room;
    }
