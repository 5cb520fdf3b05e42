-- What was taken back is put again; where nothing was, both tables are the same.
use Rattle.std.proofs.Common.{Ok, ap, sym, subst, ◌∙◌}
use Rattle.std.specs.Prelude.{IfOk}
use Rattle.coll_nodes.specs.Table.{Collation}
use Rattle.coll_history.specs.Histories.{table_now}
use Rattle.coll_bench.specs.Serving.{history_of}
use Rattle.coll_edit_replies.specs.ToldLists.{AreListedBy}
use Rattle.coll_edit_replies.proofs.WordLemmas.{before_none, before_taken, put_back}
use Rattle.coll_edit_replies.proofs.word_lists.read_before.Goals as goal

pub returns-in-Ok-clause-keyed : goal.returns-in-Ok-clause-keyed
returns-in-Ok-clause-keyed g c =
    subst (λ (table : Collation). IfOk c.read_keyed-read.result (λ list. AreListedBy table list.items))
    (before_taken (history_of c.args.run.now) (history_of c.undo.new.self) c.in-Ok.ensures.undone) c.read_keyed-read.ensures.keyed

pub returns-in-Ok-clause-history : goal.returns-in-Ok-clause-history
returns-in-Ok-clause-history g c =
    let same = ap history_of c.read_keyed-read.ensures.unchanged in
    put_back (history_of c.args.run.now) (history_of c.read_keyed-read.new.run) (history_of c.redo.new.self) c.redo.result (c.in-Ok.ensures.undone ∙ ap Ok (sym same)) c.redo.ensures.redone
    c.redo.ensures.refused

pub returns-in-Err-clause-keyed : goal.returns-in-Err-clause-keyed
returns-in-Err-clause-keyed g c =
    subst (λ (table : Collation). IfOk c.read_keyed.result (λ list. AreListedBy table list.items))
    (ap (λ run. table_now (history_of run)) c.in-Err.ensures.unchanged ∙ before_none (history_of c.args.run.now) c.in-Err.field-0 c.in-Err.ensures.refused) c.read_keyed.ensures.keyed
