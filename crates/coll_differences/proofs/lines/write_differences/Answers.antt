-- Each part, one behind another.
use Rattle.std.proofs.Common.{◌++◌, refl, rules}
use Rattle.std.specs.List.{flat_map}
use Rattle.coll_differences.specs.Lines.{rules_told, change_told, lent_weights_told, counts_told, differences_told}
use Rattle.coll_devices.proofs.WritingLemmas.{Sends-after}
use Rattle.coll_texts.proofs.PrintedParts.{stops_first}
use Rattle.coll_differences.proofs.lines.write_differences.Goals as goal

pub returns-in_err-write_rules : goal.returns-in_err-write_rules
unfolding differences_told
returns-in_err-write_rules g c =
    let taken = g.W.Sink.taken in
    let d = c.args.told.now in
    record {
      sent = stops_first (taken c.args.out.now) (taken c.write_rules.new.out) _ (rules_told d.rules)
          ((flat_map change_told d.declarations.items) ++ ((flat_map change_told d.changes.items) ++
          ((flat_map lent_weights_told d.weights.items) ++ (counts_told d)))) c.from_residual.result refl c.from_residual.ensures.0 c.in_err-write_rules.ensures.sent;
      errors = search rules;
    }

pub returns-in_err-write_changes : goal.returns-in_err-write_changes
unfolding differences_told
returns-in_err-write_changes g c =
    let taken = g.W.Sink.taken in
    let d = c.args.told.now in
    let part1 = rw c.as_slice.ensures.value at c.in_err-write_changes.ensures.sent in
    record {
      sent = Sends-after (taken c.args.out.now) (taken c.write_rules.new.out) (taken c.write_changes.new.out) (rules_told d.rules)
          ((flat_map change_told d.declarations.items) ++ ((flat_map change_told d.changes.items) ++
          ((flat_map lent_weights_told d.weights.items) ++ (counts_told d)))) c.from_residual-in_err-write_changes.result c.in_ok-write_rules.ensures.sent
          (stops_first (taken c.write_rules.new.out) (taken c.write_changes.new.out) _ (flat_map change_told d.declarations.items)
          ((flat_map change_told d.changes.items) ++ ((flat_map lent_weights_told d.weights.items) ++
          (counts_told d))) c.from_residual-in_err-write_changes.result refl c.from_residual-in_err-write_changes.ensures.0 part1);
      errors = search rules;
    }

pub returns-in_err-write_changes-2 : goal.returns-in_err-write_changes-2
unfolding differences_told
returns-in_err-write_changes-2 g c =
    let taken = g.W.Sink.taken in
    let d = c.args.told.now in
    let part1 = rw c.as_slice.ensures.value at c.in_ok-write_changes.ensures.sent in
    let part2 = rw c.as_slice-2.ensures.value at c.in_err-write_changes-2.ensures.sent in
    record {
      sent = Sends-after (taken c.args.out.now) (taken c.write_rules.new.out) (taken c.write_changes-2.new.out) (rules_told d.rules)
          ((flat_map change_told d.declarations.items) ++ ((flat_map change_told d.changes.items) ++
          ((flat_map lent_weights_told d.weights.items) ++ (counts_told d)))) c.from_residual-in_err-write_changes-2.result c.in_ok-write_rules.ensures.sent
          (Sends-after (taken c.write_rules.new.out) (taken c.write_changes.new.out) (taken c.write_changes-2.new.out) (flat_map change_told d.declarations.items)
          ((flat_map change_told d.changes.items) ++ ((flat_map lent_weights_told d.weights.items) ++ (counts_told d))) c.from_residual-in_err-write_changes-2.result part1
          (stops_first (taken c.write_changes.new.out) (taken c.write_changes-2.new.out) _ (flat_map change_told d.changes.items) ((flat_map lent_weights_told d.weights.items) ++ (counts_told d))
          c.from_residual-in_err-write_changes-2.result refl c.from_residual-in_err-write_changes-2.ensures.0 part2));
      errors = search rules;
    }

pub returns-in_err-write_all_weights : goal.returns-in_err-write_all_weights
unfolding differences_told
returns-in_err-write_all_weights g c =
    let taken = g.W.Sink.taken in
    let d = c.args.told.now in
    let part1 = rw c.as_slice.ensures.value at c.in_ok-write_changes.ensures.sent in
    let part2 = rw c.as_slice-2.ensures.value at c.in_ok-write_changes-2.ensures.sent in
    let part3 = rw c.as_slice-3.ensures.value at c.in_err-write_all_weights.ensures.sent in
    record {
      sent = Sends-after (taken c.args.out.now) (taken c.write_rules.new.out) (taken c.write_all_weights.new.out) (rules_told d.rules)
          ((flat_map change_told d.declarations.items) ++ ((flat_map change_told d.changes.items) ++
          ((flat_map lent_weights_told d.weights.items) ++ (counts_told d)))) c.from_residual-in_err-write_all_weights.result c.in_ok-write_rules.ensures.sent
          (Sends-after (taken c.write_rules.new.out) (taken c.write_changes.new.out) (taken c.write_all_weights.new.out) (flat_map change_told d.declarations.items)
          ((flat_map change_told d.changes.items) ++ ((flat_map lent_weights_told d.weights.items) ++ (counts_told d))) c.from_residual-in_err-write_all_weights.result part1
          (Sends-after (taken c.write_changes.new.out) (taken c.write_changes-2.new.out) (taken c.write_all_weights.new.out) (flat_map change_told d.changes.items)
          ((flat_map lent_weights_told d.weights.items) ++ (counts_told d)) c.from_residual-in_err-write_all_weights.result part2
          (stops_first (taken c.write_changes-2.new.out) (taken c.write_all_weights.new.out) _ (flat_map lent_weights_told d.weights.items) (counts_told d)
          c.from_residual-in_err-write_all_weights.result refl c.from_residual-in_err-write_all_weights.ensures.0 part3)));
      errors = search rules;
    }

pub returns : goal.returns
unfolding differences_told
returns g c =
    let taken = g.W.Sink.taken in
    let d = c.args.told.now in
    let part1 = rw c.as_slice.ensures.value at c.in_ok-write_changes.ensures.sent in
    let part2 = rw c.as_slice-2.ensures.value at c.in_ok-write_changes-2.ensures.sent in
    let part3 = rw c.as_slice-3.ensures.value at c.in_ok-write_all_weights.ensures.sent in
    record {
      sent = Sends-after (taken c.args.out.now) (taken c.write_rules.new.out) (taken c.write_counts.new.out) (rules_told d.rules)
          ((flat_map change_told d.declarations.items) ++ ((flat_map change_told d.changes.items) ++
          ((flat_map lent_weights_told d.weights.items) ++ (counts_told d)))) c.write_counts.result c.in_ok-write_rules.ensures.sent
          (Sends-after (taken c.write_rules.new.out) (taken c.write_changes.new.out) (taken c.write_counts.new.out) (flat_map change_told d.declarations.items)
          ((flat_map change_told d.changes.items) ++ ((flat_map lent_weights_told d.weights.items) ++ (counts_told d))) c.write_counts.result part1
          (Sends-after (taken c.write_changes.new.out) (taken c.write_changes-2.new.out) (taken c.write_counts.new.out) (flat_map change_told d.changes.items)
          ((flat_map lent_weights_told d.weights.items) ++ (counts_told d)) c.write_counts.result part2
          (Sends-after (taken c.write_changes-2.new.out) (taken c.write_all_weights.new.out) (taken c.write_counts.new.out) (flat_map lent_weights_told d.weights.items) (counts_told d)
          c.write_counts.result part3
          c.write_counts.ensures.sent)));
      errors = search rules;
    }
