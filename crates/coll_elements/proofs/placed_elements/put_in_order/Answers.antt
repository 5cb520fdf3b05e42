-- The next string stands behind those before it.
use Rattle.std.proofs.Common.{arith}
use Rattle.coll_elements.specs.ElementOrder.{strings_in}
use Rattle.coll_elements.proofs.ElementOrder.{strings_count}
use Rattle.coll_elements.proofs.SortedStrings.{so_many, next_behind, next_has_one, next_texts, next_numbers}
use Rattle.coll_elements.proofs.placed_elements.put_in_order.Goals as goal

pub push_ordered-requires-clause-few : goal.push_ordered-requires-clause-few
push_ordered-requires-clause-few c =
    let ordered = c.loop-at.ordered in
    omega (
      arith,
      ordered.ok.0,
      strings_count ordered.items,
      so_many c.in_ok-strings.strings.items c.loop-at.at (strings_in ordered.items) c.loop-at.invariant.strings,
      c.loop-at-test.true,
      c.len-at-end.ensures,
      c.in_ok-strings.ensures.count,
      c.requires.few,
    )

pub push_ordered-requires-clause-behind : goal.push_ordered-requires-clause-behind
push_ordered-requires-clause-behind c = λ place below.
    next_behind c.in_ok-strings.strings.items c.loop-at.at c.index.result.now (omega (arith, c.loop-at-test.true, c.len-at-end.ensures, c.in_ok-strings.strings.ok.0)) c.index.ensures _
    c.in_ok-strings.ensures.ascending c.loop-at.invariant.strings place (omega (arith, below, strings_count c.loop-at.ordered.items))

pub push_ordered-requires-clause-some : goal.push_ordered-requires-clause-some
push_ordered-requires-clause-some c = next_has_one c.in_ok-strings.strings.items c.loop-at.at c.index.result.now
    (omega (arith, c.loop-at-test.true, c.len-at-end.ensures, c.in_ok-strings.strings.ok.0)) c.index.ensures c.args.named.now c.in_ok-strings.ensures.strings

pub loop-at-preserved : goal.loop-at-preserved
loop-at-preserved c = record {
  order = c.in_ok-push_ordered.ensures.order;
  strings = next_texts c.in_ok-strings.strings.items c.loop-at.at c.index.result.now (omega (arith, c.loop-at-test.true, c.len-at-end.ensures, c.in_ok-strings.strings.ok.0)) c.index.ensures _ _
      c.loop-at.invariant.strings c.in_ok-push_ordered.ensures.strings;
  places = next_numbers c.in_ok-strings.strings.items c.loop-at.at c.index.result.now (omega (arith, c.loop-at-test.true, c.len-at-end.ensures, c.in_ok-strings.strings.ok.0)) c.index.ensures _ _
      c.loop-at.invariant.places c.in_ok-push_ordered.ensures.places;
}
