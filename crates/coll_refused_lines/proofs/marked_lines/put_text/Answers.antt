-- Each character is one part.
use Rattle.std.proofs.Common.{length, ap, sym, ◌∙◌, arith}
use Rattle.std.specs.Str.{chars}
use Rattle.std.proofs.lemmas.Iterator.{YieldsList-from_chars}
use Rattle.std.proofs.lemmas.Iterator.Consumers.{YieldsList-turn, YieldsList-end}
use Rattle.std.proofs.lemmas.List.{length_push, drop_all}
use Rattle.coll_refused_lines.specs.MarkedLines.{columns_behind}
use Rattle.coll_refused_lines.proofs.MarkedLemmas.{one_more}
use Rattle.coll_refused_lines.proofs.marked_lines.put_text.Goals as goal

pub loop-c-preserved : goal.loop-c-preserved
loop-c-preserved c =
    let all = chars c.args.text.now in
    let t = YieldsList-turn (YieldsList-from_chars c.args.text.now c.utf8.text cc) c.loop-c.yielded _ c.loop-c.yielded_by _ _ c.in-Some.c c.in-Some.is c.next.ensures.steps in
    rw (length_push c.loop-c.yielded c.in-Some.c)
    (one_more all c.loop-c.columns.items c.put_char.new.columns.items (columns_behind c.args.columns.now.items all) (length c.loop-c.yielded) c.in-Some.c t.0 t.1 c.in_ok-put_char.ensures c.loop-c.invariant)

pub returns : goal.returns
returns c =
    let all = chars c.args.text.now in
    let n = length c.loop-c.yielded in
    let t = YieldsList-end (YieldsList-from_chars c.args.text.now c.utf8.text cc) c.loop-c.yielded _ c.loop-c.yielded_by _ _ c.in-None.is c.next.ensures.steps in
    sym (ap (columns_behind c.loop-c.columns.items) (drop_all n all (omega (arith, t.1)))) ∙ c.loop-c.invariant
