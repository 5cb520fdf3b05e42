-- Where both texts have ended no level that is left tells them apart.
use Rattle.std.proofs.Common.{◌∙◌, ap, arith, chars, false, length, rules, sym}
use Rattle.std.proofs.lemmas.Bool.{eqb-true}
use Rattle.std.proofs.lemmas.List.{nil_from_length}
use Rattle.coll_nodes.specs.TableLayout.{collation}
use Rattle.coll_letters.proofs.LetterLemmas.{alike_at, alike_ended}
use Rattle.coll_letters.proofs.alike_levels.alike_levels.Goals as goal

pub letters-init : goal.letters-init
letters-init c = record {
  left = search rules;
  right = search rules;
  levels = omega (arith, ap length c.rules-levels.ensures);
  same = λ level within. c.behind_front.ensures.same level false;
}

pub letters-preserved : goal.letters-preserved
letters-preserved c =
    let table = collation c.args.table.now in
    let passed = c.in-Some.passed in
    let left = chars c.letters.left.now in
    let right = chars c.letters.right.now in
    let last = chars c.behind_same.result.0.now in
    let last_other = chars c.behind_same.result.1.now in
    record {
      left = search rules;
      right = search rules;
      levels = omega (arith, c.in-Some.ensures.levels, c.letters.invariant.levels);
      same = λ level within. alike_at table level false (chars c.args.text.now) (chars c.args.other.now) left right last last_other
          (c.letters.invariant.same level (omega (arith, within, c.in-Some.ensures.levels)))
          (alike_at table level false left right (chars passed.first.now) (chars passed.second.now) last last_other (c.in-Some.ensures.same level within) (c.behind_same.ensures.same level false));
    }

pub returns-then-is_empty-2 : goal.returns-then-is_empty-2
returns-then-is_empty-2 c =
    alike_ended (collation c.args.table.now) c.letters.levels (chars c.args.text.now) (chars c.args.other.now) c.letters.left.now c.letters.right.now
    (nil_from_length c.letters.left.now (eqb-true (length c.letters.left.now) 0 (sym c.is_empty.ensures ∙ c.if-is_empty.true)))
    (nil_from_length c.letters.right.now (eqb-true (length c.letters.right.now) 0 (sym c.is_empty-then-is_empty.ensures ∙ c.if-is_empty-2.true))) c.letters.invariant.same

pub returns-in_default : goal.returns-in_default
returns-in_default c = λ level within. absurd (omega (arith, within))
