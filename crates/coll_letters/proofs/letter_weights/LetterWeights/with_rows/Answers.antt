-- The row of the element at hand is put behind those that are there.
use Rattle.std.proofs.Common.{◌∷◌, ◌++◌, ◌∙◌, [], ℕ, List, length, map, sym, ap, append-nil, arith, rules}
use Rattle.std.proofs.lemmas.List.{length-append}
use Rattle.coll_nodes.specs.TableLayout.{collation}
use Rattle.coll_ranks.specs.LevelWeights.{row_numbers}
use Rattle.coll_letters.proofs.LetterLemmas.{no_numbers, one_row_more}
use Rattle.std.proofs.lemmas.Bool.{eqb-true}
use Rattle.std.proofs.lemmas.List.{nil_from_length}
use Rattle.coll_letters.proofs.letter_weights.LetterWeights.with_rows.Goals as goal

pub letters-preserved : goal.letters-preserved
letters-preserved c = record {
  text = search rules;
  rows = λ level within. one_row_more (row_numbers c.args.self.now.made.weights level) c.letters.all.items c.push.new.self.items c.in-Some.first.row _ _ _ c.in_ok-push.ensures.items
      (c.in-Some.ensures.numbers level within) (c.letters.invariant.rows level within);
  few = omega (arith, c.letters.invariant.few, c.in-Some.ensures.shorter, ap length c.in_ok-push.ensures.items, length-append c.letters.all.items (c.in-Some.first.row ∷ []));
}

pub returns-then-is_empty-clause-rows : goal.returns-then-is_empty-clause-rows
returns-then-is_empty-clause-rows c = λ level within.
    sym (append-nil (map (row_numbers c.args.self.now.made.weights level) c.letters.all.items))
    ∙ ap (λ (l : List (List ℕ)). map (row_numbers c.args.self.now.made.weights level) c.letters.all.items ++ l)
    (sym (no_numbers (collation c.args.table.now) level c.letters.left.now (nil_from_length c.letters.left.now (eqb-true (length c.letters.left.now) 0 (sym c.is_empty.ensures ∙ c.if-is_empty.true)))))
    ∙ c.letters.invariant.rows level within
