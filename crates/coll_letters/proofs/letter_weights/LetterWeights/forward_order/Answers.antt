-- Each step decides, or leaves it to what is left.
use Rattle.std.proofs.Common.{chars, false, refl, rules}
use Rattle.coll_syntax.specs.declared.rules.Rule.{Rule}
use Rattle.coll_nodes.specs.TableLayout.{collation}
use Rattle.coll_letters.proofs.LetterLemmas.{alike_at, level_orders_behind, level_orders_left}
use Rattle.coll_letters.proofs.letter_weights.LetterWeights.forward_order.Goals as goal
use Rattle.coll_letters.proofs.letter_weights.LetterWeights.forward_order.Goals.{in-Later, in-PassedFirst, in-PassedSecond}

pub letters-init : goal.letters-init
letters-init c = record {
  left = search rules;
  right = search rules;
  same = c.behind_front.ensures.same c.args.level c.args.position;
}

pub letters-preserved : goal.letters-preserved
letters-preserved c =
    let table = collation c.args.table.now in
    let level = c.args.level in
    let position = c.args.position in
    let left = chars c.letters.left.now in
    let right = chars c.letters.right.now in
    let last = chars c.behind_same.result.0.now in
    let last_other = chars c.behind_same.result.1.now in
    record {
      left = search rules;
      right = search rules;
      same = alike_at table level position (chars c.args.text.now) (chars c.args.other.now) left right last last_other c.letters.invariant.same
          (elim c.match-step.branch [
            | in-Later w ↦ alike_at table level position left right (chars w.in-Later.later.now) (chars w.in-Later.others.now) last last_other (w.in-Later.ensures.same position)
                ((rw w.t-30-is at c.behind_same.ensures.same) level position)
            | in-PassedFirst w ↦ alike_at table level position left right (chars w.in-PassedFirst.later.now) right last last_other w.in-PassedFirst.ensures.same
                ((rw w.t-30-is at c.behind_same.ensures.same) level position)
            | in-PassedSecond w ↦ alike_at table level position left right left (chars w.in-PassedSecond.others.now) last last_other w.in-PassedSecond.ensures.same
                ((rw w.t-30-is at c.behind_same.ensures.same) level position)
          ]);
    }

pub returns-in-Decided : goal.returns-in-Decided
returns-in-Decided c =
    let rule : Rule = record { backward = false; position = c.args.position } in
    level_orders_left (collation c.args.table.now) c.args.level rule (chars c.args.text.now) (chars c.args.other.now) (chars c.letters.left.now) (chars c.letters.right.now) c.in-Decided.order refl
    c.letters.invariant.same c.in-Decided.ensures

pub returns-in-Unknown : goal.returns-in-Unknown
returns-in-Unknown c =
    let rule : Rule = record { backward = false; position = c.args.position } in
    let table = collation c.args.table.now in
    let text = chars c.args.text.now in
    let other = chars c.args.other.now in
    let later = chars c.behind_sure.result.0.now in
    let others = chars c.behind_sure.result.1.now in
    level_orders_behind table c.args.level rule text other later others c.order_by_numbers.result refl
    (alike_at table c.args.level c.args.position text other (chars c.letters.left.now) (chars c.letters.right.now) later others c.letters.invariant.same
    (c.behind_sure.ensures.same c.args.level c.args.position)) c.order_by_numbers.ensures
