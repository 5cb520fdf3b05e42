-- The words are written in their order, or there is a fault.
use Rattle.std.proofs.Common.{List, inr, refl, subst}
use Rattle.coll_bench.specs.Serving.{history_of}
use Rattle.coll_devices.specs.Devices.{Sends}
use Rattle.coll_edit_replies.specs.ToldLists.{list_bytes}
use Rattle.coll_edit_replies.specs.declared.word_lists.ListedWord.{ListedWord}
use Rattle.coll_edit_replies.proofs.WordListRuns.{list_written}
use Rattle.coll_edit_replies.proofs.word_lists.write_words.Goals as goal

pub returns-in-Ok-clause-listed : goal.returns-in-Ok-clause-listed
returns-in-Ok-clause-listed g c =
    let taken = g.W.Sink.taken in
    let left = g.R.Source.left in
    list_written (history_of c.args.run.now) (left c.args.input.now) c.in-Ok.list.items c.in-Ok.ensures.words (left c.list_words.new.input) (taken c.args.out.now) (taken c.write_list-wrote.new.out)
    c.write_list-wrote.result
    (subst (λ (list : List ListedWord). Sends (taken c.args.out.now) (taken c.write_list-wrote.new.out) (list_bytes list) c.write_list-wrote.result) c.deref.ensures.value
    c.write_list-wrote.ensures.sent)
    c.write_list-wrote.ensures.fault

pub returns-in-Err-clause-listed : goal.returns-in-Err-clause-listed
returns-in-Err-clause-listed g c = inr (refl, c.in-Err.ensures.fault)
