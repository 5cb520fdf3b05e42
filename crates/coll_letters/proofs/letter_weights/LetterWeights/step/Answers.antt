-- The first characters of both are the same, or their weights are looked at; or one text has ended.
use Rattle.std.proofs.Common.{chars, length, ap, arith}
use Rattle.coll_nodes.specs.TableLayout.{collation}
use Rattle.coll_ranks.specs.LevelWeights.{level_numbers}
use Rattle.coll_letters.specs.declared.letter_weights.FirstLetter.{FirstLetter}
use Rattle.coll_letters.proofs.MarkLemmas.{stands_apart}
use Rattle.coll_letters.proofs.LetterLemmas.{letter_first, step_both, step_greater, step_less, step_same}
use Rattle.coll_letters.proofs.letter_weights.LetterWeights.step.Goals as goal

pub returns-in_default : goal.returns-in_default
returns-in_default c =
    step_less (collation c.args.table.now) c.args.level c.args.position (chars c.args.left.now) (chars c.args.right.now) c.step_at_end.result c.in_default.ensures c.step_at_end.ensures

pub returns-in_default-split_first_char : goal.returns-in_default-split_first_char
returns-in_default-split_first_char c =
    step_greater (collation c.args.table.now) c.args.level c.args.position (chars c.args.left.now) (chars c.args.right.now) c.step_at_end-in_default-split_first_char.result
    c.in_default-split_first_char.ensures c.step_at_end-in_default-split_first_char.ensures

pub returns-then-is_apart : goal.returns-then-is_apart
returns-then-is_apart c =
    step_same (collation c.args.table.now) c.args.level (chars c.args.left.now) (chars c.args.right.now) (chars c.in-Some.later.now)
    (chars c.in-Some-split_first_char.others.now) c.in-Some.first c.in-Some-split_first_char.second c.in-Some.ensures c.in-Some-split_first_char.ensures c.if-first-second.true
    (stands_apart (collation c.args.table.now) c.args.self.now.marks c.requires.weights.marks c.in-Some.first (chars c.in-Some.later.now) (c.is_apart.ensures c.if-not-is_apart.false))
    (stands_apart (collation c.args.table.now) c.args.self.now.marks c.requires.weights.marks c.in-Some.first (chars c.in-Some-split_first_char.others.now) (c.is_apart-then-first-second.ensures c.if-is_apart.true))

pub returns : goal.returns
returns c =
    let table = collation c.args.table.now in
    let weights = c.args.self.now.made.weights in
    let left = chars c.args.left.now in
    let right = chars c.args.right.now in
    let first : FirstLetter = record { row = c.in-Some-row.row; rest = c.in-Some.later } in
    let second : FirstLetter = record { row = c.in-Some-row-2.other_row; rest = c.in-Some-split_first_char.others } in
    step_both table c.args.level weights c.requires.within c.args.position left right first second (level_numbers c.args.at_level first.row) (level_numbers c.args.at_level second.row) c.step_of_both.result
    (record {
      numbers = letter_first table weights c.in-Some.first first.row left (chars first.rest.now) c.in-Some.ensures
          (stands_apart (collation c.args.table.now) c.args.self.now.marks c.requires.weights.marks c.in-Some.first (chars first.rest.now) (c.is_apart.ensures c.if-not-is_apart.false)) c.in-Some-row.ensures;
      shorter = omega (arith, ap length c.in-Some.ensures);
    })
    (record {
      numbers = letter_first table weights c.in-Some-split_first_char.second second.row right (chars second.rest.now) c.in-Some-split_first_char.ensures
          (stands_apart (collation c.args.table.now) c.args.self.now.marks c.requires.weights.marks c.in-Some-split_first_char.second (chars second.rest.now) (c.is_apart-2.ensures c.if-not-is_apart-2.false)) c.in-Some-row-2.ensures;
      shorter = omega (arith, ap length c.in-Some-split_first_char.ensures);
    })
    (c.requires.level first.row) (c.requires.level second.row) c.step_of_both.ensures
