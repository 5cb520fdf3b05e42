-- One character more is passed.
use Rattle.std.proofs.Common.{◌++◌, [], ◌∙◌, refl, sym, ap, append_assoc, arith, length, length-append, chars, rules}
use Rattle.coll_letters.proofs.first_pieces.split_characters.Goals as goal

pub loop-passed-init : goal.loop-passed-init
loop-passed-init c = record { text = search rules; prefix = ([], refl); counted = omega arith }

pub loop-passed-preserved : goal.loop-passed-preserved
loop-passed-preserved c =
    let before = c.loop-passed.invariant.prefix in
    let here = c.in_ok-rest.ensures.rest in
    record {
      text = search rules;
      prefix = (before.0 ++ here.0, before.1 ∙ (ap (λ t. before.0 ++ t) here.1 ∙ sym (append_assoc before.0 here.0 c.in_ok-rest.rest.now)));
      counted = omega (arith, c.in_ok-rest.ensures.none, c.loop-passed.invariant.counted);
    }

pub returns : goal.returns
returns c =
    record {
      whole = c.before-2.ensures;
      size = let counted = ap length c.before-2.ensures ∙ length-append (chars c.before-2.result.now) (chars c.loop-passed.rest.now) in omega (arith, counted, c.loop-passed.invariant.counted, c.loop-passed-test.false);
    }
