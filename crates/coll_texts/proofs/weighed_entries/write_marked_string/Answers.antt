-- The marks, the identifiers, and the mark.
use Rattle.std.proofs.Common.{codes, ◌++◌, refl, rules}
use Rattle.std.specs.List.{flat_map}
use Rattle.coll_texts.specs.PrintedParts.{id_bytes}
use Rattle.coll_devices.proofs.WritingLemmas.{Sends-after}
use Rattle.coll_texts.proofs.PrintedParts.{stops_first}
use Rattle.coll_texts.proofs.weighed_entries.write_marked_string.Goals as goal

pub returns-in_err-write_bytes : goal.returns-in_err-write_bytes
returns-in_err-write_bytes g c =
    let taken = g.W.Sink.taken in
    record {
      sent = stops_first (taken c.args.out.now) (taken c.write_bytes.new.out) _ c.args.mark.now ((codes "\"") ++ ((flat_map id_bytes c.args.ids.now) ++ (codes "\""))) c.from_residual.result refl
          c.from_residual.ensures.0 c.in_err-write_bytes.ensures.sent;
      errors = search rules;
    }

pub returns-in_err-write_bytes-2 : goal.returns-in_err-write_bytes-2
returns-in_err-write_bytes-2 g c =
    let taken = g.W.Sink.taken in
    record {
      sent = Sends-after (taken c.args.out.now) (taken c.write_bytes.new.out) (taken c.write_bytes-2.new.out) c.args.mark.now ((codes "\"") ++ ((flat_map id_bytes c.args.ids.now) ++ (codes "\"")))
          c.from_residual-in_err-write_bytes-2.result c.in_ok-write_bytes.ensures.sent
          (stops_first (taken c.write_bytes.new.out) (taken c.write_bytes-2.new.out) _ (codes "\"") ((flat_map id_bytes c.args.ids.now) ++ (codes "\"")) c.from_residual-in_err-write_bytes-2.result
          refl
          c.from_residual-in_err-write_bytes-2.ensures.0 c.in_err-write_bytes-2.ensures.sent);
      errors = search rules;
    }

pub returns-in_err-write_ids : goal.returns-in_err-write_ids
returns-in_err-write_ids g c =
    let taken = g.W.Sink.taken in
    record {
      sent = Sends-after (taken c.args.out.now) (taken c.write_bytes.new.out) (taken c.write_ids.new.out) c.args.mark.now ((codes "\"") ++ ((flat_map id_bytes c.args.ids.now) ++ (codes "\"")))
          c.from_residual-in_err-write_ids.result c.in_ok-write_bytes.ensures.sent
          (Sends-after (taken c.write_bytes.new.out) (taken c.write_bytes-2.new.out) (taken c.write_ids.new.out) (codes "\"") ((flat_map id_bytes c.args.ids.now) ++ (codes "\""))
          c.from_residual-in_err-write_ids.result c.in_ok-write_bytes-2.ensures.sent
          (stops_first (taken c.write_bytes-2.new.out) (taken c.write_ids.new.out) _ (flat_map id_bytes c.args.ids.now) (codes "\"") c.from_residual-in_err-write_ids.result refl
          c.from_residual-in_err-write_ids.ensures.0 c.in_err-write_ids.ensures.sent));
      errors = search rules;
    }

pub returns : goal.returns
returns g c =
    let taken = g.W.Sink.taken in
    record {
      sent = Sends-after (taken c.args.out.now) (taken c.write_bytes.new.out) (taken c.write_bytes-3.new.out) c.args.mark.now ((codes "\"") ++ ((flat_map id_bytes c.args.ids.now) ++ (codes "\"")))
          c.write_bytes-3.result c.in_ok-write_bytes.ensures.sent
          (Sends-after (taken c.write_bytes.new.out) (taken c.write_bytes-2.new.out) (taken c.write_bytes-3.new.out) (codes "\"") ((flat_map id_bytes c.args.ids.now) ++ (codes "\""))
          c.write_bytes-3.result c.in_ok-write_bytes-2.ensures.sent
          (Sends-after (taken c.write_bytes-2.new.out) (taken c.write_ids.new.out) (taken c.write_bytes-3.new.out) (flat_map id_bytes c.args.ids.now) (codes "\"") c.write_bytes-3.result
          c.in_ok-write_ids.ensures.sent
          c.write_bytes-3.ensures.sent));
      errors = search rules;
    }
