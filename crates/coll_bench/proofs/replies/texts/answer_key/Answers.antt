-- The key that was given is written, or its refusal.
use Rattle.std.proofs.Common.{◌≡◌, sym, ap, ◌∙◌}
use Rattle.coll_nodes.specs.Table.{Collation}
use Rattle.coll_key.specs.KeyLimits.{is_too_long}
use Rattle.coll_key.specs.SortKey.{key_of}
use Rattle.coll_history.specs.Histories.{SessionValue, table_now}
use Rattle.coll_bench.proofs.ReplyLemmas.{sends_key, refuses_key}
use Rattle.coll_bench.proofs.replies.texts.answer_key.Goals as goal

pub returns-in-Ok-clause-answered : goal.returns-in-Ok-clause-answered
returns-in-Ok-clause-answered g c =
    let taken = g.W.Sink.taken in
    let h = c.args.session.now.history in
    let rules_are : c.rules.result.now ≡ (table_now h).rules =
    c.rules.ensures ∙ ap (λ (table : Collation). table.rules) (c.table.ensures.table ∙ ap (λ (v : SessionValue). table_now v.history) (c.session.ensures ∙ c.key.ensures.unchanged)) in
    let key_is = c.deref.ensures.value ∙ c.in-Ok.ensures.ok ∙ ap (key_of (table_now h)) c.get.ensures.characters in
    let short = ap is_too_long (sym c.get.ensures.characters) ∙ c.in-Ok.ensures.short in
    sends_key (taken c.args.out.now) (taken c.write_key_ended-wrote.new.out) h c.args.text.now c.rules.result.now c.deref.result.now c.write_key_ended-wrote.result rules_are key_is short
    c.write_key_ended-wrote.ensures.sent

pub returns-in-Err-clause-answered : goal.returns-in-Err-clause-answered
returns-in-Err-clause-answered g c =
    let taken = g.W.Sink.taken in
    refuses_key (taken c.args.out.now) (taken c.write_refused.new.out) c.args.session.now.history c.args.text.now c.in-Err.fault c.write_refused.result
    (λ other_fault. ap is_too_long (sym c.get.ensures.characters) ∙ c.in-Err.ensures.err other_fault) c.write_refused.ensures.sent
