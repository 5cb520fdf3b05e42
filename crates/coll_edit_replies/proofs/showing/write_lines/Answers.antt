-- The lines around the place, and the last one: the words, and the rank.
use Rattle.std.proofs.Common.{◌++◌, ℕ, List, rules}
use Rattle.std.specs.Prelude.{chars, option_map}
use Rattle.std.specs.List.{flat_map}
use Rattle.coll_nodes.specs.Table.{entries_of}
use Rattle.coll_nodes.specs.TableLayout.{collation}
use Rattle.coll_texts.specs.Pieces.{piece_bytes}
use Rattle.coll_edit_replies.specs.Showing.{around, rank_line}
use Rattle.coll_devices.proofs.WritingLemmas.{AppendsPrefix-after, AppendsPrefix-before, Sends-after}
use Rattle.coll_edit_replies.proofs.showing.write_lines.Goals as goal

pub returns-in-Ok : goal.returns-in-Ok
returns-in-Ok g c =
    let taken = g.W.Sink.taken in
    let lines = around (entries_of (collation c.args.table.now)) c.args.spot.now.rank in
    let words = flat_map piece_bytes c.args.words.now in
    let rank = rank_line c.args.spot.now.rank (option_map (λ name. chars name.now) c.args.spot.now.section) in
    record {
      sent = Sends-after (taken c.args.out.now) (taken c.write_around.new.out) (taken c.write_rank.new.out) lines (words ++ rank) c.write_rank.result c.in_default.ensures.sent
          (Sends-after (taken c.write_around.new.out) (taken c.write_pieces.new.out) (taken c.write_rank.new.out) words rank c.write_rank.result c.in-Ok.ensures.sent c.write_rank.ensures.sent);
      errors = search rules;
    }

pub returns-in-Err : goal.returns-in-Err
returns-in-Err g c =
    let taken = g.W.Sink.taken in
    record {
      sent = AppendsPrefix-before (taken c.args.out.now) (taken c.write_around.new.out) (around (entries_of (collation c.args.table.now)) c.args.spot.now.rank)
          (flat_map piece_bytes c.args.words.now ++ rank_line c.args.spot.now.rank (option_map (λ name. chars name.now) c.args.spot.now.section)) c.in-Err.ensures.sent;
      errors = search rules;
    }

pub returns-in-Err-write_pieces : goal.returns-in-Err-write_pieces
returns-in-Err-write_pieces g c =
    let taken = g.W.Sink.taken in
    let lines = around (entries_of (collation c.args.table.now)) c.args.spot.now.rank in
    let words = flat_map piece_bytes c.args.words.now in
    let rank = rank_line c.args.spot.now.rank (option_map (λ name. chars name.now) c.args.spot.now.section) in
    record {
      sent = AppendsPrefix-after (taken c.args.out.now) (taken c.write_around.new.out) (taken c.write_pieces.new.out) lines (words ++ rank) c.in_default.ensures.sent
          (AppendsPrefix-before (taken c.write_around.new.out) (taken c.write_pieces.new.out) words rank c.in-Err-write_pieces.ensures.sent);
      errors = search rules;
    }
