-- The letter, the elements, and the line's end.
use Rattle.std.proofs.Common.{◌++◌, codes, refl, rules}
use Rattle.std.specs.List.{flat_map}
use Rattle.coll_devices.proofs.WritingLemmas.{Sends-after}
use Rattle.coll_texts.proofs.PrintedParts.{stops_first, writes_rest}
use Rattle.coll_explanations.specs.Explanations.{element_word, elements_line}
use Rattle.coll_explanations.proofs.lines.write_elements.Goals as goal

pub returns-in_err-write_bytes : goal.returns-in_err-write_bytes
returns-in_err-write_bytes g c =
    let taken = g.W.Sink.taken in
    let words = flat_map element_word c.args.elements.now in
    record {
      sent = stops_first (taken c.args.out.now) (taken c.write_bytes.new.out) (elements_line c.args.letter.now c.args.elements.now) c.args.letter.now (words ++ codes "\n") c.from_residual.result refl
          c.from_residual.ensures.0 c.in_err-write_bytes.ensures.sent;
      errors = search rules;
    }

pub returns-in_err-write_each : goal.returns-in_err-write_each
returns-in_err-write_each g c =
    let taken = g.W.Sink.taken in
    let words = flat_map element_word c.args.elements.now in
    record {
      sent = writes_rest (taken c.args.out.now) (taken c.write_bytes.new.out) (taken c.write_each.new.out) (elements_line c.args.letter.now c.args.elements.now) c.args.letter.now (words ++ codes "\n")
          c.from_residual-in_err-write_each.result refl c.in_ok-write_bytes.ensures.sent
          (stops_first (taken c.write_bytes.new.out) (taken c.write_each.new.out) _ words (codes "\n") c.from_residual-in_err-write_each.result refl c.from_residual-in_err-write_each.ensures.0
          c.in_err-write_each.ensures.sent);
      errors = search rules;
    }

pub returns : goal.returns
returns g c =
    let taken = g.W.Sink.taken in
    let words = flat_map element_word c.args.elements.now in
    record {
      sent = writes_rest (taken c.args.out.now) (taken c.write_bytes.new.out) (taken c.write_bytes-2.new.out) (elements_line c.args.letter.now c.args.elements.now) c.args.letter.now
          (words ++ codes "\n")
          c.write_bytes-2.result refl c.in_ok-write_bytes.ensures.sent
          (Sends-after (taken c.write_bytes.new.out) (taken c.write_each.new.out) (taken c.write_bytes-2.new.out) words (codes "\n") c.write_bytes-2.result c.in_ok-write_each.ensures.sent
          c.write_bytes-2.ensures.sent);
      errors = search rules;
    }
