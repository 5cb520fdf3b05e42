-- Only an element has other marks.
use Rattle.std.proofs.Common.{sym, ◌∙◌}
use Rattle.coll_reviews.proofs.MarkedLemmas.{marks_stay}
use Rattle.coll_reviews.proofs.marked_tables.marks_behind.Goals as goal

pub returns : goal.returns
returns c = marks_stay c.args.statement.now (sym c.declares_element.ensures ∙ c.if-declares_element.false) c.args.marks
