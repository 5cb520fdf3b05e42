-- The lines that open the category, and then the declarations.
use Rattle.std.proofs.Common.{codes, refl, rules}
use Rattle.std.specs.List.{flat_map}
use Rattle.coll_devices.proofs.WritingLemmas.{Sends-after}
use Rattle.coll_texts.specs.PrintedParts.{declaration_bytes, opening_bytes}
use Rattle.coll_texts.proofs.PrintedParts.{stops_first}
use Rattle.coll_texts.proofs.canonical_texts.write_opening.Goals as goal

pub returns-in_err-write_bytes : goal.returns-in_err-write_bytes
returns-in_err-write_bytes g c =
    let taken = g.W.Sink.taken in
    let declared = c.args.declared in
    record {
      sent = stops_first (taken c.args.out.now) (taken c.write_bytes.new.out) (opening_bytes declared) (codes "comment_char %\nescape_char /\nLC_COLLATE\n") (flat_map declaration_bytes declared)
          c.from_residual.result refl c.from_residual.ensures.0 c.in_err-write_bytes.ensures.sent;
      errors = search rules;
    }

pub returns : goal.returns
returns g c =
    let taken = g.W.Sink.taken in
    record {
      sent = Sends-after (taken c.args.out.now) (taken c.write_bytes.new.out) (taken c.write_declarations.new.out) (codes "comment_char %\nescape_char /\nLC_COLLATE\n")
          (flat_map declaration_bytes c.args.declared) c.write_declarations.result c.in_ok-write_bytes.ensures.sent c.write_declarations.ensures.sent;
      errors = search rules;
    }
