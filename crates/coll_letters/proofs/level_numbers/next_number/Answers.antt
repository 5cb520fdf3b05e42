-- A text that has ended has no number.
use Rattle.std.proofs.Common.{◌∙◌, chars, length, sym}
use Rattle.std.proofs.lemmas.Bool.{eqb-true}
use Rattle.std.proofs.lemmas.List.{nil_from_length}
use Rattle.coll_nodes.specs.TableLayout.{collation}
use Rattle.coll_ranks.specs.LevelWeights.{ranks_in}
use Rattle.coll_ranks.specs.Ranks.{added_to}
use Rattle.coll_letters.specs.LetterWeights.{text_numbers}
use Rattle.coll_letters.specs.LevelNumbers.{themselves}
use Rattle.coll_letters.proofs.LetterLemmas.{no_numbers}
use Rattle.coll_letters.proofs.LevelNumberLemmas.{nothing_left}
use Rattle.coll_letters.proofs.level_numbers.next_number.Goals as goal

pub returns-then-is_empty : goal.returns-then-is_empty
returns-then-is_empty c = λ position.
    let table = collation c.args.table.now in
    let left = c.letters.left in
    c.letters.invariant.same position
    ∙ nothing_left themselves (added_to left.added) (ranks_in left.ranks) (text_numbers table c.args.level (chars left.text.now)) c.in_default.ensures
    (no_numbers table c.args.level left.text.now (nil_from_length left.text.now (eqb-true (length left.text.now) 0 (sym c.is_empty.ensures ∙ c.if-is_empty.true)))) position c.letters.gaps
