-- A text that goes on with a number isn't at its end.
use Rattle.std.proofs.Common.{chars, length, sym, ◌∙◌}
use Rattle.std.proofs.lemmas.Bool.{eqb-true}
use Rattle.std.proofs.lemmas.List.{nil_from_length}
use Rattle.coll_nodes.specs.TableLayout.{collation}
use Rattle.coll_letters.proofs.LetterLemmas.{none_at_end}
use Rattle.coll_letters.proofs.MarkLemmas.{stands_apart}
use Rattle.coll_letters.proofs.NumberLemmas.{number_at_end, numbered_text}
use Rattle.coll_letters.proofs.first_numbers.FirstNumbers.step_at_end.Goals as goal

pub returns-then-is_empty : goal.returns-then-is_empty
returns-then-is_empty c =
    none_at_end (collation c.args.table.now) 0 c.args.text.now c.args.order
    (nil_from_length c.args.text.now (eqb-true (length c.args.text.now) 0 (sym c.is_empty.ensures ∙ c.if-is_empty.true)))

pub returns : goal.returns
returns c =
    let table = collation c.args.table.now in
    number_at_end table (chars c.args.text.now) (chars c.in-Some.later.now) c.number-number.result c.args.order
    (numbered_text table c.in-Some.first (chars c.args.text.now) (chars c.in-Some.later.now) c.number-number.result c.in-Some.ensures
    (stands_apart (collation c.args.table.now) c.args.marks.now c.requires.marks c.in-Some.first (chars c.in-Some.later.now) (c.is_apart.ensures c.if-not-is_apart.false)) c.number-number.ensures c.if-number-eq0.false c.requires.level)
