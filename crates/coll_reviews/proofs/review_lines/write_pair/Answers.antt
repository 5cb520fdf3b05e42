-- Each part, one behind another.
use Rattle.std.proofs.Common.{◌++◌, chars, refl, rules}
use Rattle.std.specs.Prelude.{codes}
use Rattle.std.specs.List.{flat_map}
use Rattle.coll_devices.proofs.WritingLemmas.{Sends-after}
use Rattle.coll_texts.proofs.PrintedParts.{stops_first}
use Rattle.coll_reviews.specs.ReviewLines.{quoted_char}
use Rattle.coll_reviews.proofs.review_lines.write_pair.Goals as goal

pub returns-in_err-write_bytes : goal.returns-in_err-write_bytes
returns-in_err-write_bytes g c =
    let taken = g.W.Sink.taken in
    record {
      sent = stops_first (taken c.args.out.now) (taken c.write_bytes.new.out) _ (codes "joined \"")
          ((flat_map quoted_char (chars c.args.first.now.text.now)) ++ ((codes "\" \"") ++ ((flat_map quoted_char (chars c.args.second.now.text.now)) ++ (codes "\"\n")))) c.from_residual.result refl
          c.from_residual.ensures.0 c.in_err-write_bytes.ensures.sent;
      errors = search rules;
    }

pub returns-in_err-write_quoted : goal.returns-in_err-write_quoted
returns-in_err-write_quoted g c =
    let taken = g.W.Sink.taken in
    let part = c.in_err-write_quoted.ensures.sent in
    record {
      sent = Sends-after (taken c.args.out.now) (taken c.write_bytes.new.out) (taken c.write_quoted.new.out) (codes "joined \"")
          ((flat_map quoted_char (chars c.args.first.now.text.now)) ++ ((codes "\" \"") ++ ((flat_map quoted_char (chars c.args.second.now.text.now)) ++ (codes "\"\n")))) c.from_residual-in_err-write_quoted.result
          c.in_ok-write_bytes.ensures.sent
          (stops_first (taken c.write_bytes.new.out) (taken c.write_quoted.new.out) _ (flat_map quoted_char (chars c.args.first.now.text.now))
          ((codes "\" \"") ++ ((flat_map quoted_char (chars c.args.second.now.text.now)) ++ (codes "\"\n"))) c.from_residual-in_err-write_quoted.result refl c.from_residual-in_err-write_quoted.ensures.0
          part);
      errors = search rules;
    }

pub returns-in_err-write_bytes-2 : goal.returns-in_err-write_bytes-2
returns-in_err-write_bytes-2 g c =
    let taken = g.W.Sink.taken in
    let first = c.in_ok-write_quoted.ensures.sent in
    record {
      sent = Sends-after (taken c.args.out.now) (taken c.write_bytes.new.out) (taken c.write_bytes-2.new.out) (codes "joined \"")
          ((flat_map quoted_char (chars c.args.first.now.text.now)) ++ ((codes "\" \"") ++ ((flat_map quoted_char (chars c.args.second.now.text.now)) ++ (codes "\"\n")))) c.from_residual-in_err-write_bytes-2.result
          c.in_ok-write_bytes.ensures.sent
          (Sends-after (taken c.write_bytes.new.out) (taken c.write_quoted.new.out) (taken c.write_bytes-2.new.out) (flat_map quoted_char (chars c.args.first.now.text.now))
          ((codes "\" \"") ++ ((flat_map quoted_char (chars c.args.second.now.text.now)) ++ (codes "\"\n"))) c.from_residual-in_err-write_bytes-2.result first
          (stops_first (taken c.write_quoted.new.out) (taken c.write_bytes-2.new.out) _ (codes "\" \"") ((flat_map quoted_char (chars c.args.second.now.text.now)) ++ (codes "\"\n"))
          c.from_residual-in_err-write_bytes-2.result refl c.from_residual-in_err-write_bytes-2.ensures.0 c.in_err-write_bytes-2.ensures.sent));
      errors = search rules;
    }

pub returns-in_err-write_quoted-2 : goal.returns-in_err-write_quoted-2
returns-in_err-write_quoted-2 g c =
    let taken = g.W.Sink.taken in
    let first = c.in_ok-write_quoted.ensures.sent in
    let part = c.in_err-write_quoted-2.ensures.sent in
    record {
      sent = Sends-after (taken c.args.out.now) (taken c.write_bytes.new.out) (taken c.write_quoted-2.new.out) (codes "joined \"")
          ((flat_map quoted_char (chars c.args.first.now.text.now)) ++ ((codes "\" \"") ++ ((flat_map quoted_char (chars c.args.second.now.text.now)) ++
          (codes "\"\n")))) c.from_residual-in_err-write_quoted-2.result
          c.in_ok-write_bytes.ensures.sent
          (Sends-after (taken c.write_bytes.new.out) (taken c.write_quoted.new.out) (taken c.write_quoted-2.new.out) (flat_map quoted_char (chars c.args.first.now.text.now))
          ((codes "\" \"") ++ ((flat_map quoted_char (chars c.args.second.now.text.now)) ++ (codes "\"\n"))) c.from_residual-in_err-write_quoted-2.result first
          (Sends-after (taken c.write_quoted.new.out) (taken c.write_bytes-2.new.out) (taken c.write_quoted-2.new.out) (codes "\" \"")
          ((flat_map quoted_char (chars c.args.second.now.text.now)) ++ (codes "\"\n")) c.from_residual-in_err-write_quoted-2.result c.in_ok-write_bytes-2.ensures.sent
          (stops_first (taken c.write_bytes-2.new.out) (taken c.write_quoted-2.new.out) _ (flat_map quoted_char (chars c.args.second.now.text.now)) (codes "\"\n") c.from_residual-in_err-write_quoted-2.result
          refl c.from_residual-in_err-write_quoted-2.ensures.0 part)));
      errors = search rules;
    }

pub returns : goal.returns
returns g c =
    let taken = g.W.Sink.taken in
    let first = c.in_ok-write_quoted.ensures.sent in
    let second = c.in_ok-write_quoted-2.ensures.sent in
    record {
      sent = Sends-after (taken c.args.out.now) (taken c.write_bytes.new.out) (taken c.write_bytes-3.new.out) (codes "joined \"")
          ((flat_map quoted_char (chars c.args.first.now.text.now)) ++ ((codes "\" \"") ++ ((flat_map quoted_char (chars c.args.second.now.text.now)) ++ (codes "\"\n")))) c.write_bytes-3.result
          c.in_ok-write_bytes.ensures.sent
          (Sends-after (taken c.write_bytes.new.out) (taken c.write_quoted.new.out) (taken c.write_bytes-3.new.out) (flat_map quoted_char (chars c.args.first.now.text.now))
          ((codes "\" \"") ++ ((flat_map quoted_char (chars c.args.second.now.text.now)) ++ (codes "\"\n"))) c.write_bytes-3.result first
          (Sends-after (taken c.write_quoted.new.out) (taken c.write_bytes-2.new.out) (taken c.write_bytes-3.new.out) (codes "\" \"") ((flat_map quoted_char (chars c.args.second.now.text.now)) ++
          (codes "\"\n"))
          c.write_bytes-3.result c.in_ok-write_bytes-2.ensures.sent
          (Sends-after (taken c.write_bytes-2.new.out) (taken c.write_quoted-2.new.out) (taken c.write_bytes-3.new.out) (flat_map quoted_char (chars c.args.second.now.text.now)) (codes "\"\n")
          c.write_bytes-3.result second
          c.write_bytes-3.ensures.sent)));
      errors = search rules;
    }
