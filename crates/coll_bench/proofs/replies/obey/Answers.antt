-- The reply to a command is what its call answered, or what the table or the history has to say.
use Rattle.std.proofs.Common.{codes, refl, ap, ◌∙◌}
use Rattle.coll_texts.specs.CanonicalText.{text}
use Rattle.coll_history.specs.Histories.{SessionValue, table_now, taken_back, put_again}
use Rattle.coll_bench.specs.Replies.{listing, checked_line, history_listing}
use Rattle.coll_requests.specs.declared.session_lines.Command.TheVariants as command
use Rattle.coll_bench.proofs.ReplyLemmas.{history_stays, outcome_is, obeys, obeys_outcome, obeys_starving, obeys_withdraw, key_leaves, order_leaves}
use Rattle.coll_bench.proofs.replies.obey.Goals as goal

pub returns-in-Undo-clause-answered : goal.returns-in-Undo-clause-answered
returns-in-Undo-clause-answered g c =
    let taken = g.W.Sink.taken in
    let h = c.args.session.now.history in
    let o = outcome_is (codes "undone") h c.undo-outcome.new.self.history c.undo-outcome.result (taken_back h) c.undo-outcome.ensures.undone c.undo-outcome.ensures.count c.undo-outcome.ensures.refused
    (history_stays c.undo-outcome.result c.undo-outcome.new.self c.args.session.now c.undo-outcome.ensures.unchanged) in
    rw c.in-Undo.is (obeys_outcome (taken c.args.out.now) (taken c.write_outcome.new.out) h c.undo-outcome.new.self.history command.Undo (codes "undone") (taken_back h) c.undo-outcome.result
    c.write_outcome.result o c.write_outcome.ensures.sent refl refl)

pub returns-in-Redo-clause-answered : goal.returns-in-Redo-clause-answered
returns-in-Redo-clause-answered g c =
    let taken = g.W.Sink.taken in
    let h = c.args.session.now.history in
    let o = outcome_is (codes "redone") h c.redo-outcome.new.self.history c.redo-outcome.result (put_again h) c.redo-outcome.ensures.redone c.redo-outcome.ensures.count c.redo-outcome.ensures.refused
    (history_stays c.redo-outcome.result c.redo-outcome.new.self c.args.session.now c.redo-outcome.ensures.unchanged) in
    rw c.in-Redo.is (obeys_outcome (taken c.args.out.now) (taken c.write_outcome-in-Redo.new.out) h c.redo-outcome.new.self.history command.Redo (codes "redone") (put_again h) c.redo-outcome.result
    c.write_outcome-in-Redo.result o c.write_outcome-in-Redo.ensures.sent refl refl)

pub returns-in-List-clause-answered : goal.returns-in-List-clause-answered
returns-in-List-clause-answered g c =
    let taken = g.W.Sink.taken in
    let h = c.args.session.now.history in
    rw c.in-List.is (obeys (taken c.args.out.now) (taken c.write_listing.new.out) h h command.List _ c.write_listing.result c.write_listing.ensures.sent
    (ap listing (c.table.ensures.table ∙ ap (λ (v : SessionValue). table_now v.history) c.session.ensures)) refl)

pub returns-in-Print-clause-answered : goal.returns-in-Print-clause-answered
returns-in-Print-clause-answered g c =
    let taken = g.W.Sink.taken in
    let h = c.args.session.now.history in
    rw c.in-Print.is (obeys (taken c.args.out.now) (taken c.print.new.out) h h command.Print _ c.print.result c.print.ensures.sent
    (ap text (c.table-in-Print.ensures.table ∙ ap (λ (v : SessionValue). table_now v.history) c.session-in-Print.ensures)) refl)

pub returns-in-Key-clause-answered : goal.returns-in-Key-clause-answered
returns-in-Key-clause-answered g c =
    let taken = g.W.Sink.taken in
    rw c.in-Key.is (obeys_starving (taken c.args.out.now) (taken c.answer_key.new.out) c.args.session.now.history c.answer_key.new.session.history (command.Key c.in-Key.text) c.answer_key.result
    c.answer_key.ensures.answered (ap (λ (v : SessionValue). v.history) c.answer_key.ensures.unchanged) (λ b. key_leaves b c.args.session.now.history c.in-Key.text))

pub returns-in-Compare-clause-answered : goal.returns-in-Compare-clause-answered
returns-in-Compare-clause-answered g c =
    let taken = g.W.Sink.taken in
    rw c.in-Compare.is (obeys_starving (taken c.args.out.now) (taken c.answer_compare.new.out) c.args.session.now.history c.answer_compare.new.session.history
    (command.Compare c.in-Compare.text c.in-Compare.other) c.answer_compare.result c.answer_compare.ensures.answered (ap (λ (v : SessionValue). v.history) c.answer_compare.ensures.unchanged)
    (λ b. order_leaves b c.args.session.now.history c.in-Compare.text c.in-Compare.other))

pub returns-in-History-clause-answered : goal.returns-in-History-clause-answered
returns-in-History-clause-answered g c =
    let taken = g.W.Sink.taken in
    let h = c.args.session.now.history in
    rw c.in-History.is (obeys (taken c.args.out.now) (taken c.write_history.new.out) h h command.History _ c.write_history.result c.write_history.ensures.sent
    (ap (λ (v : SessionValue). history_listing v.history) c.session-in-History.ensures) refl)

pub returns-in-Withdraw-clause-answered : goal.returns-in-Withdraw-clause-answered
returns-in-Withdraw-clause-answered g c =
    let taken = g.W.Sink.taken in
    let w = c.withdraw-outcome in
    rw c.in-Withdraw.is (obeys_withdraw (taken c.args.out.now) (taken c.write_outcome-in-Withdraw.new.out) c.args.session.now.history w.new.self.history _ w.result c.write_outcome-in-Withdraw.result
    w.ensures.withdrawn w.ensures.count w.ensures.refused w.ensures.memory w.ensures.unchanged c.write_outcome-in-Withdraw.ensures.sent)

pub returns-in-Check-clause-answered : goal.returns-in-Check-clause-answered
returns-in-Check-clause-answered g c =
    let taken = g.W.Sink.taken in
    let h = c.args.session.now.history in
    rw c.in-Check.is (obeys (taken c.args.out.now) (taken c.write_checked.new.out) h h command.Check _ c.write_checked.result c.write_checked.ensures.sent
    (ap checked_line (c.table-in-Check.ensures.table ∙ ap (λ (v : SessionValue). table_now v.history) c.session-in-Check.ensures)) refl)
