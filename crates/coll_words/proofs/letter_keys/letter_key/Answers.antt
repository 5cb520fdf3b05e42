-- A number is kept where no element begins with the character.
use Rattle.std.proofs.Common.{◌≡◌, inl, arith, subst}
use Rattle.std.specs.Prelude.{slice_index_or}
use Rattle.coll_nodes.specs.TableLayout.{collation}
use Rattle.coll_ranks.specs.LevelWeights.{level_numbers}
use Rattle.coll_letters.specs.declared.element_marks.ElementMarks.{ElementMarks}
use Rattle.coll_words.proofs.LetterKeyLemmas.{number_packed}
use Rattle.coll_letters.proofs.MarkLemmas.{stands_apart}
use Rattle.coll_words.proofs.letter_keys.letter_key.Goals as goal

pub returns-then-begin_without : goal.returns-then-begin_without
returns-then-begin_without c = record {
  plain = λ above. record {
    alone = λ rest. stands_apart (collation c.args._table.now) c.args.weights.now.marks c.requires.weights.marks c.args.kept.letter rest (inl
        (subst (λ (marks : ElementMarks). slice_index_or marks.firsts c.args.kept.letter 0 ≡ 0) c.marks.ensures (c.begin_without.ensures c.if-begin_without.true)));
    packed = number_packed (collation c.args._table.now) c.args.weights.now.made.weights c.args.kept.letter c.packed_single-number.result c.args.kept.row
        (level_numbers c.args.at_first c.args.kept.row) c.requires.row c.requires.first.level (c.requires.first.numbers c.args.kept.row) (c.packed_single-number.ensures above);
  };
  row = c.requires.row;
}

pub returns : goal.returns
returns c = record {
  plain = λ above. absurd (omega (arith, above));
  row = c.requires.row;
}
