-- The words are read, and put in order. Where no statement remains, both tables are the same.
use Rattle.std.proofs.Common.{◌≡◌, ◌==◌, ◌∙◌, not, false, length, ap, inr, refl, subst}
use Rattle.std.specs.Prelude.{IfOk}
use Rattle.coll_history.specs.Histories.{History, SessionValue, table_now}
use Rattle.coll_bench.specs.Serving.{history_of}
use Rattle.coll_edit_replies.specs.ToldLists.{ListsAnew}
use Rattle.coll_edit_replies.specs.WordLists.{table_before}
use Rattle.coll_edit_replies.proofs.WordLemmas.{before_uncounted}
use Rattle.coll_edit_replies.proofs.WordListRuns.{err_then, lists_words, ok_then}
use Rattle.coll_edit_replies.proofs.word_lists.list_words.Goals as goal

pub returns-in-Ok-clause-words : goal.returns-in-Ok-clause-words
returns-in-Ok-clause-words g c =
    let h = history_of c.args.run.now in
    let count = c.remaining_len-changed.result in
    let changed = not (count == 0) in
    let same : changed ≡ false → table_before h ≡ table_now h = λ none.
    before_uncounted h count (count == 0) refl none (c.remaining_len-changed.ensures ∙ ap (λ (session : SessionValue). length session.history.remaining) c.session.ensures) in
    ok_then _ _ c.list_anew.result
    (λ list anew. lists_words h (g.R.Source.left c.args.input.now) changed c.in-Ok.list.items list.items c.in-Ok.ensures.lines c.in-Ok.ensures.keyed anew same)
    (subst (λ (h : History). IfOk c.list_anew.result (λ list. ListsAnew (table_now h) changed c.in-Ok.list.items list.items)) c.read_before.ensures.history c.list_anew.ensures.listed)

pub returns-in-Ok-clause-fault : goal.returns-in-Ok-clause-fault
returns-in-Ok-clause-fault g c = err_then _ _ c.list_anew.result (λ ended is. inr is) c.list_anew.ensures.fault
