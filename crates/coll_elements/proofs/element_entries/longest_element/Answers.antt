-- One prefix more is asked for, up to the longest that an element may have.
use Rattle.std.proofs.Common.{◌≡◌, ◌++◌, ◌+◌, None, suc, sym, ap, subst, ◌∙◌, append_assoc, arith, length, chars, rules}
use Rattle.coll_nodes.specs.ElementTexts.{element_entry}
use Rattle.coll_nodes.specs.TableLayout.{collation}
use Rattle.coll_elements.specs.ElementEntries.{longest_prefix, FindsPrefix, HasNoLonger}
use Rattle.coll_elements.proofs.ElementEntries.{one_character, beyond_longest}
use Rattle.coll_elements.proofs.element_entries.longest_element.Goals as goal

pub prefixes-init : goal.prefixes-init
prefixes-init c =
    let none = one_character (collation c.args.table.now) c.lemma_well_formed.ensures.well_formed (chars c.args.text.now) in
    record {
      text = search rules;
      prefix = c.in_ok-rest.ensures.rest;
      counted = omega (arith, c.in_ok-rest.ensures.none);
      found = subst (λ found. FindsPrefix (chars c.args.text.now) found None) (sym none) tt;
    }

pub longer_prefix-longest-requires : goal.longer_prefix-longest-requires
longer_prefix-longest-requires c =
    let before = c.prefixes.invariant.prefix in
    let here = c.in-Some.ensures.rest in
    (before.0 ++ here.0, before.1 ∙ (ap (λ t. before.0 ++ t) here.1 ∙ sym (append_assoc before.0 here.0 c.in-Some.later.now)))

pub prefixes-preserved : goal.prefixes-preserved
prefixes-preserved c =
    let before = c.prefixes.invariant.prefix in
    let here = c.in-Some.ensures.rest in
    let one = c.in-Some.ensures.none in
    let next : suc c.prefixes._size ≡ c.prefixes._size + 1 = omega arith in
    record {
      text = search rules;
      prefix = (before.0 ++ here.0, before.1 ∙ (ap (λ t. before.0 ++ t) here.1 ∙ sym (append_assoc before.0 here.0 c.in-Some.later.now)));
      counted = omega (arith, one, c.prefixes.invariant.counted);
      found = subst (λ size. FindsPrefix (chars c.args.text.now) (longest_prefix (element_entry (collation c.args.table.now)) (chars c.args.text.now) size) c.longer_prefix-longest.result) next
          (c.longer_prefix-longest.ensures c.prefixes._size (omega (arith, one, c.prefixes.invariant.counted)) c.prefixes.invariant.found);
    }

pub returns : goal.returns
returns c =
    let table = collation c.args.table.now in
    let text = chars c.args.text.now in
    let asked = c.prefixes-test.false in
    let none : HasNoLonger table c.prefixes._size = λ t long. c.requires t (omega (arith, asked, long)) in
    let further = beyond_longest table text c.prefixes._size (length text) none (omega (arith, c.prefixes.invariant.counted)) (omega arith) in
    subst (λ found. FindsPrefix text found c.prefixes.longest) (sym further) c.prefixes.invariant.found
