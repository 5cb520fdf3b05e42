-- Each part, one behind another.
use Rattle.std.proofs.Common.{ℕ, List, [], ◌∷◌, ◌++◌, codes, refl, rules}
use Rattle.coll_devices.specs.PhysicalLines.{line_feed}
use Rattle.coll_devices.proofs.WritingLemmas.{Sends-after}
use Rattle.coll_nodes.specs.Table.{Collation}
use Rattle.coll_bench.specs.Replies.{order_word}
use Rattle.coll_texts.proofs.PrintedParts.{stops_first}
use Rattle.coll_explanations.specs.Explanations.{elements_line, level_lines}
use Rattle.coll_explanations.specs.declared.explaining.Compared.{Compared}
use Rattle.coll_explanations.proofs.explaining.write_explanation.Goals as goal

-- the parts of an explanation
abbrev first_line : Compared → List ℕ
first_line made = elements_line (codes "A") made.elements.items

abbrev second_line : Compared → List ℕ
second_line made = elements_line (codes "B") made.others.items

abbrev levels_of : Collation → Compared → List ℕ
levels_of table made = level_lines table 0 table.rules made.elements.items made.others.items

abbrev last_line : Compared → List ℕ
last_line made = order_word made.order ++ line_feed ∷ []

-- and what stands behind the first, and behind the second
abbrev behind_second : Collation → Compared → List ℕ
behind_second table made = levels_of table made ++ last_line made

abbrev behind_first : Collation → Compared → List ℕ
behind_first table made = second_line made ++ behind_second table made

pub returns-in_err-write_elements : goal.returns-in_err-write_elements
returns-in_err-write_elements g c =
    let taken = g.W.Sink.taken in
    let made = c.args.compared.now in
    let table = c.args.weighing.now in
    let part1 = rw c.deref.ensures.value at c.in_err-write_elements.ensures.sent in
    record {
      sent = stops_first (taken c.args.out.now) (taken c.write_elements.new.out) _ (first_line made) (behind_first table made) c.from_residual.result refl c.from_residual.ensures.0 part1;
      errors = search rules;
    }

pub returns-in_err-write_elements-2 : goal.returns-in_err-write_elements-2
returns-in_err-write_elements-2 g c =
    let taken = g.W.Sink.taken in
    let made = c.args.compared.now in
    let table = c.args.weighing.now in
    let part1 = rw c.deref.ensures.value at c.in_ok-write_elements.ensures.sent in
    let part2 = rw c.deref-2.ensures.value at c.in_err-write_elements-2.ensures.sent in
    record {
      sent = Sends-after (taken c.args.out.now) (taken c.write_elements.new.out) (taken c.write_elements-2.new.out) (first_line made) (behind_first table made)
          c.from_residual-in_err-write_elements-2.result part1
          (stops_first (taken c.write_elements.new.out) (taken c.write_elements-2.new.out) _ (second_line made) (behind_second table made)
          c.from_residual-in_err-write_elements-2.result refl
          c.from_residual-in_err-write_elements-2.ensures.0 part2);
      errors = search rules;
    }

pub returns-in_err-write_levels : goal.returns-in_err-write_levels
returns-in_err-write_levels g c =
    let taken = g.W.Sink.taken in
    let made = c.args.compared.now in
    let table = c.args.weighing.now in
    let part1 = rw c.deref.ensures.value at c.in_ok-write_elements.ensures.sent in
    let part2 = rw c.deref-2.ensures.value at c.in_ok-write_elements-2.ensures.sent in
    let part3 = rw (c.deref-3.ensures.value, c.deref-4.ensures.value, c.requires.rules) at c.in_err-write_levels.ensures.sent in
    record {
      sent = Sends-after (taken c.args.out.now) (taken c.write_elements.new.out) (taken c.write_levels.new.out) (first_line made) (behind_first table made)
          c.from_residual-in_err-write_levels.result part1
          (Sends-after (taken c.write_elements.new.out) (taken c.write_elements-2.new.out) (taken c.write_levels.new.out) (second_line made) (behind_second table made)
          c.from_residual-in_err-write_levels.result part2
          (stops_first (taken c.write_elements-2.new.out) (taken c.write_levels.new.out) _ (levels_of table made) (last_line made) c.from_residual-in_err-write_levels.result refl
          c.from_residual-in_err-write_levels.ensures.0 part3));
      errors = search rules;
    }

pub returns : goal.returns
returns g c =
    let taken = g.W.Sink.taken in
    let made = c.args.compared.now in
    let table = c.args.weighing.now in
    let part1 = rw c.deref.ensures.value at c.in_ok-write_elements.ensures.sent in
    let part2 = rw c.deref-2.ensures.value at c.in_ok-write_elements-2.ensures.sent in
    let part3 = rw (c.deref-3.ensures.value, c.deref-4.ensures.value, c.requires.rules) at c.in_ok-write_levels.ensures.sent in
    record {
      sent = Sends-after (taken c.args.out.now) (taken c.write_elements.new.out) (taken c.write_order.new.out) (first_line made) (behind_first table made) c.write_order.result part1
          (Sends-after (taken c.write_elements.new.out) (taken c.write_elements-2.new.out) (taken c.write_order.new.out) (second_line made) (behind_second table made) c.write_order.result part2
          (Sends-after (taken c.write_elements-2.new.out) (taken c.write_levels.new.out) (taken c.write_order.new.out) (levels_of table made) (last_line made)
          c.write_order.result part3 c.write_order.ensures.sent));
      errors = search rules;
    }
