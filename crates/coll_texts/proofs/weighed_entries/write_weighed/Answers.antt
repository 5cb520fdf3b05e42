-- The identifier, the weights, and the line's end.
use Rattle.std.proofs.Common.{codes, ◌++◌, refl, rules}
use Rattle.coll_texts.specs.PrintedParts.{id_bytes}
use Rattle.coll_devices.proofs.WritingLemmas.{Sends-after}
use Rattle.coll_texts.proofs.PrintedParts.{stops_first}
use Rattle.coll_texts.specs.WeighedEntries.{all_weights}
use Rattle.coll_texts.proofs.weighed_entries.write_weighed.Goals as goal

pub returns-in_err-write_id : goal.returns-in_err-write_id
returns-in_err-write_id g c =
    let taken = g.W.Sink.taken in
    let e = c.args.entry.now in
    let id = rw c.id-id.ensures at c.in_err-write_id.ensures.sent in
    record {
      sent = stops_first (taken c.args.out.now) (taken c.write_id.new.out) _ (id_bytes e.id) (all_weights e.id e.weights ++ codes "\n") c.from_residual.result refl
          c.from_residual.ensures.0 id;
      errors = search rules;
    }

pub returns-in_err-write_all_weights : goal.returns-in_err-write_all_weights
returns-in_err-write_all_weights g c =
    let taken = g.W.Sink.taken in
    let e = c.args.entry.now in
    let id = rw c.id-id.ensures at c.in_ok-write_id.ensures.sent in
    let weights = rw (c.weights.ensures, c.id-id.ensures) at c.in_err-write_all_weights.ensures.sent in
    let result = c.from_residual-in_err-write_all_weights.result in
    record {
      sent = Sends-after (taken c.args.out.now) (taken c.write_id.new.out) (taken c.write_all_weights.new.out) (id_bytes e.id) (all_weights e.id e.weights ++ codes "\n") result id
          (stops_first (taken c.write_id.new.out) (taken c.write_all_weights.new.out) _ (all_weights e.id e.weights) (codes "\n") result refl
          c.from_residual-in_err-write_all_weights.ensures.0 weights);
      errors = search rules;
    }

pub returns : goal.returns
returns g c =
    let taken = g.W.Sink.taken in
    let e = c.args.entry.now in
    let id = rw c.id-id.ensures at c.in_ok-write_id.ensures.sent in
    let weights = rw (c.weights.ensures, c.id-id.ensures) at c.in_ok-write_all_weights.ensures.sent in
    record {
      sent = Sends-after (taken c.args.out.now) (taken c.write_id.new.out) (taken c.write_bytes.new.out) (id_bytes e.id) (all_weights e.id e.weights ++ codes "\n") c.write_bytes.result id
          (Sends-after (taken c.write_id.new.out) (taken c.write_all_weights.new.out) (taken c.write_bytes.new.out) (all_weights e.id e.weights) (codes "\n") c.write_bytes.result weights
          c.write_bytes.ensures.sent);
      errors = search rules;
    }
