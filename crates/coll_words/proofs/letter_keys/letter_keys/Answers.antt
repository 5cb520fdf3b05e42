-- One more is kept.
use Rattle.std.proofs.Common.{◌∙◌, All, ap, subst, sym}
use Rattle.coll_nodes.specs.TableLayout.{collation}
use Rattle.coll_ranks.specs.LevelWeights.{row_numbers}
use Rattle.coll_ranks.specs.RankLists.{WeightsValue}
use Rattle.coll_letters.specs.LetterWeights.{IsLetterRow}
use Rattle.coll_letters.specs.declared.letter_weights.LetterRow.{LetterRow}
use Rattle.coll_words.proofs.LetterKeyLemmas.{letters_more}
use Rattle.coll_words.proofs.letter_keys.letter_keys.Goals as goal

pub letter_key-requires-clause-row : goal.letter_key-requires-clause-row
letter_key-requires-clause-row c =
    let table = collation c.args.table.now in
    let weights = c.args.weights.now.made.weights in
    let none : LetterRow = record { letter = 0; row = record { first = 0; code = 0 } } in
    let all : All (IsLetterRow table weights) c.rows-rows.result.now = subst (All (IsLetterRow table weights)) (sym c.rows-rows.ensures) c.requires.weights.rows in
    all c.loop-kept.kept-index none c.loop-kept-test.true

pub letter_key-requires-clause-first : goal.letter_key-requires-clause-first
letter_key-requires-clause-first c = record {
  level = c.requires.level;
  numbers = λ row.
      c.at_level-at_first.ensures row ∙ ap (λ (w : WeightsValue). row_numbers w 0 row) c.weights.ensures ∙ ap (λ made. row_numbers made.weights 0 row) c.made.ensures;
}

pub loop-kept-preserved : goal.loop-kept-preserved
loop-kept-preserved c =
    letters_more (collation c.args.table.now) c.args.weights.now.made.weights c.loop-kept.letters.items c.push.new.self.items c.letter_key.result c.in_ok-push.ensures.items c.letter_key.ensures
    c.loop-kept.invariant
