-- Each piece is one part.
use Rattle.std.proofs.Common.{◌+◌, drop, ◌∙◌, rules}
use Rattle.coll_texts.specs.Pieces.{piece_bytes}
use Rattle.coll_texts.proofs.PrintedParts.{left_begins, written_prefix, written_more}
use Rattle.coll_texts.proofs.pieces.write_pieces.Goals as goal

pub returns-in-Err : goal.returns-in-Err
returns-in-Err g c =
    let taken = g.W.Sink.taken in
    let all = c.args.pieces.now in
    let i = c.loop-piece.piece-index in
    record {
      sent = written_prefix piece_bytes all (drop i all) (drop (i + 1) all) c.piece-item.result (taken c.args.out.now) (taken c.loop-piece.out) (taken c.write_piece.new.out)
          (left_begins all i c.piece-item.result c.loop-piece-test.true c.piece-item.is) c.loop-piece.invariant.sent c.in-Err.ensures.sent;
      errors = search rules;
    }

pub loop-piece-preserved : goal.loop-piece-preserved
loop-piece-preserved g c =
    let taken = g.W.Sink.taken in
    let all = c.args.pieces.now in
    let i = c.loop-piece.piece-index in
    record {
      sent = written_more piece_bytes all (drop i all) (drop (i + 1) all) c.piece-item.result (taken c.args.out.now) (taken c.loop-piece.out) (taken c.write_piece.new.out)
          (left_begins all i c.piece-item.result c.loop-piece-test.true c.piece-item.is) c.loop-piece.invariant.sent c.in_default.ensures.sent;
      count = c.in_default.ensures.errors ∙ c.loop-piece.invariant.count;
    }
