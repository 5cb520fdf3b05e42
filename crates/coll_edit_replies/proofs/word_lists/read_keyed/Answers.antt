-- The words are read, and get their keys.
use Rattle.std.proofs.Common.{inl, inr}
use Rattle.coll_edit_replies.proofs.WordListRuns.{err_then, lines_read, ok_then}
use Rattle.coll_edit_replies.proofs.word_lists.read_keyed.Goals as goal

pub returns-in-Ok-make_ready-clause-lines : goal.returns-in-Ok-make_ready-clause-lines
returns-in-Ok-make_ready-clause-lines g c =
    ok_then _ _ c.keyed_by.result (λ list is. lines_read (g.R.Source.left c.args.input.now) c.in-Ok.texts.items list.items c.in-Ok.ensures.texts is) c.keyed_by.ensures.lines

pub returns-in-Ok-make_ready-clause-fault : goal.returns-in-Ok-make_ready-clause-fault
returns-in-Ok-make_ready-clause-fault g c = err_then _ _ c.keyed_by.result (λ ended is. inr is) c.keyed_by.ensures.fault

pub returns-in-Err-make_ready-clause-fault : goal.returns-in-Err-make_ready-clause-fault
returns-in-Err-make_ready-clause-fault g c = inr c.no_memory.ensures

pub returns-in-Err-clause-fault : goal.returns-in-Err-clause-fault
returns-in-Err-clause-fault g c = inl c.in-Err.ensures.fault
