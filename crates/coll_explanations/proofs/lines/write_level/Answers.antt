-- The line as far as its rule, and what stands behind it.
use Rattle.std.proofs.Common.{rules}
use Rattle.std.specs.Prelude.{option_map}
use Rattle.coll_texts.proofs.PrintedParts.{stops_first, writes_rest}
use Rattle.coll_explanations.specs.Explanations.{difference_words, level_line}
use Rattle.coll_explanations.specs.ToldSteps.{apart_of}
use Rattle.coll_explanations.proofs.ExplanationParts.{level_parts, level_start}
use Rattle.coll_explanations.proofs.lines.write_level.Goals as goal

pub returns-in_err-write_pieces : goal.returns-in_err-write_pieces
returns-in_err-write_pieces g c =
    let taken = g.W.Sink.taken in
    let apart = option_map apart_of c.args.difference in
    record {
      sent = stops_first (taken c.args.out.now) (taken c.write_pieces.new.out) (level_line c.args.number c.args.rule apart) (level_start c.args.number c.args.rule) (difference_words apart)
          c.from_residual.result (level_parts c.args.number c.args.rule apart) c.from_residual.ensures.0 c.in_err-write_pieces.ensures.sent;
      errors = search rules;
    }

pub returns : goal.returns
returns g c =
    let taken = g.W.Sink.taken in
    let apart = option_map apart_of c.args.difference in
    record {
      sent = writes_rest (taken c.args.out.now) (taken c.write_pieces.new.out) (taken c.write_difference.new.out) (level_line c.args.number c.args.rule apart) (level_start c.args.number c.args.rule)
          (difference_words apart) c.write_difference.result (level_parts c.args.number c.args.rule apart) c.in_ok-write_pieces.ensures.sent c.write_difference.ensures.sent;
      errors = search rules;
    }
