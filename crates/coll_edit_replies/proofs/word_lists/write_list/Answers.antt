-- The count stands behind the words, or a prefix of these is written.
use Rattle.std.proofs.Common.{codes, length}
use Rattle.std.proofs.KnownBytes.{Appends-trans}
use Rattle.coll_devices.proofs.WritingLemmas.{AppendsPrefix-after, AppendsPrefix-before}
use Rattle.coll_bench.specs.Replies.{counted_line}
use Rattle.coll_edit_replies.specs.ToldLists.{marked_lines}
use Rattle.coll_edit_replies.proofs.word_lists.write_list.Goals as goal

pub returns-in-Ok-clause-sent : goal.returns-in-Ok-clause-sent
returns-in-Ok-clause-sent g c =
    let taken = g.W.Sink.taken in
    Appends-trans (taken c.args.out.now) (taken c.write_marked_words.new.out) (taken c.write_count.new.out) (marked_lines 0 c.args.list.now) (counted_line (codes "words") (length c.args.list.now))
    c.in_default.ensures.sent c.in-Ok.ensures.sent

pub returns-in-Err-clause-sent : goal.returns-in-Err-clause-sent
returns-in-Err-clause-sent g c =
    AppendsPrefix-before (g.W.Sink.taken c.args.out.now) (g.W.Sink.taken c.write_marked_words.new.out) (marked_lines 0 c.args.list.now) (counted_line (codes "words") (length c.args.list.now))
    c.in-Err.ensures.sent

pub returns-in-Err-write_count-clause-sent : goal.returns-in-Err-write_count-clause-sent
returns-in-Err-write_count-clause-sent g c =
    let taken = g.W.Sink.taken in
    AppendsPrefix-after (taken c.args.out.now) (taken c.write_marked_words.new.out) (taken c.write_count.new.out) (marked_lines 0 c.args.list.now) (counted_line (codes "words") (length c.args.list.now))
    c.in_default.ensures.sent c.in-Err-write_count.ensures.sent
