-- What was compared is written, or a write failed.
use Rattle.std.proofs.Common.{chars, List, ℕ, subst}
use Rattle.coll_nodes.specs.TableLayout.{collation}
use Rattle.coll_explanations.specs.Explaining.{WritesWhole}
use Rattle.coll_explanations.specs.Explanations.{explanation_of}
use Rattle.coll_explanations.proofs.ExplanationParts.{explained, whole_sent}
use Rattle.coll_explanations.proofs.explaining.explain_by.Goals as goal

pub returns-in-Ok-clause-run : goal.returns-in-Ok-clause-run
returns-in-Ok-clause-run g c =
    let taken = g.W.Sink.taken in
    let made = c.in-Ok.compared in
    let table = collation c.args.table.now in
    let bytes = explained table (chars c.args.text.now) (chars c.args.other.now) made.elements.items made.others.items made.order c.in-Ok.ensures.elements c.in-Ok.ensures.others
    c.in-Ok.ensures.order in
    subst (λ (bytes : List ℕ). WritesWhole bytes (taken c.args.output.now) (taken c.write_compared-wrote.new.output) c.write_compared-wrote.result) bytes
    (whole_sent (explanation_of table made.elements.items made.others.items made.order) (taken c.args.output.now) (taken c.write_compared-wrote.new.output) c.write_compared-wrote.result
    c.write_compared-wrote.ensures.sent c.write_compared-wrote.ensures.fault)
