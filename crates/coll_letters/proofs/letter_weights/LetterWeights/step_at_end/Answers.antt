-- A text that goes on with a number isn't at its end; one that goes on with a character that has none there is passed.
use Rattle.std.proofs.Common.{◌*◌, ap, chars, false, length, map, sym, true, ◌∙◌}
use Rattle.std.proofs.lemmas.Bool.{eqb-true}
use Rattle.std.proofs.lemmas.List.{nil_from_length}
use Rattle.coll_nodes.specs.TableLayout.{collation}
use Rattle.coll_ranks.specs.LevelWeights.{level_numbers}
use Rattle.coll_ranks.specs.Ranks.{added_to}
use Rattle.coll_letters.proofs.LetterLemmas.{none_at_end, passed_at_end}
use Rattle.coll_letters.proofs.letter_weights.LetterWeights.step_at_end.Goals as goal

pub returns-then-is_empty : goal.returns-then-is_empty
returns-then-is_empty c =
    none_at_end (collation c.args.table.now) c.args.level c.args.text.now c.args.order
    (nil_from_length c.args.text.now (eqb-true (length c.args.text.now) 0 (sym c.is_empty.ensures ∙ c.if-is_empty.true)))

pub returns-then-is_lt : goal.returns-then-is_lt
returns-then-is_lt c =
    let row = c.in-Some.first.row in
    passed_at_end (collation c.args.table.now) c.args.level c.args.self.now.made.weights c.requires.within c.args.position (chars c.args.text.now) c.in-Some.first
    (level_numbers c.args.at_level row) c.args.order true c.in-Some.ensures (c.requires.level row)
    (ap (map (added_to (c.args.at_level.times * row.code))) (sym c.in-Ignored.ensures)) c.if-position.false (sym c.is_lt.ensures ∙ c.if-is_lt.true)

pub returns-else-is_lt : goal.returns-else-is_lt
returns-else-is_lt c =
    let row = c.in-Some.first.row in
    passed_at_end (collation c.args.table.now) c.args.level c.args.self.now.made.weights c.requires.within c.args.position (chars c.args.text.now) c.in-Some.first
    (level_numbers c.args.at_level row) c.args.order false c.in-Some.ensures (c.requires.level row)
    (ap (map (added_to (c.args.at_level.times * row.code))) (sym c.in-Ignored.ensures)) c.if-position.false (sym c.is_lt.ensures ∙ c.if-is_lt.false)
