-- The row of the character at hand is kept, and from where an element may begin on those of what is left.
use Rattle.std.proofs.Common.{◌≡◌, ◌<◌, ◌≤◌, ◌+◌, ◌∷◌, ◌++◌, ◌∙◌, [], ℕ, List, chars, length, map, sym, ap, append-nil, arith, rules, subst}
use Rattle.std.specs.Prelude.{IfSome}
use Rattle.std.proofs.lemmas.List.{length-append}
use Rattle.coll_nodes.specs.TableLayout.{collation}
use Rattle.coll_ranks.specs.LevelWeights.{row_numbers}
use Rattle.coll_letters.specs.LetterWeights.{text_numbers}
use Rattle.coll_letters.proofs.LetterLemmas.{no_numbers, one_row_more}
use Rattle.std.proofs.lemmas.Bool.{eqb-true}
use Rattle.std.proofs.lemmas.List.{nil_from_length}
use Rattle.coll_letters.proofs.letter_weights.LetterWeights.short_rows.Goals as goal

pub letters-preserved : goal.letters-preserved
letters-preserved c = record {
  text = search rules;
  rows = λ level within. one_row_more (row_numbers c.args.self.now.made.weights level) c.letters.rows.items c.push.new.self.items c.in-Some.first.row _ _ _ c.in_ok-push.ensures.items
      (c.in-Some.ensures.numbers level within) (c.letters.invariant.rows level within);
  few = omega (arith, c.letters.invariant.few, c.in-Some.ensures.shorter, ap length c.in_ok-push.ensures.items, length-append c.letters.rows.items (c.in-Some.first.row ∷ []));
}

pub returns-then-is_empty-clause-rows : goal.returns-then-is_empty-clause-rows
returns-then-is_empty-clause-rows c = λ level within.
    sym (append-nil (map (row_numbers c.args.self.now.made.weights level) c.letters.rows.items))
    ∙ ap (λ (l : List (List ℕ)). map (row_numbers c.args.self.now.made.weights level) c.letters.rows.items ++ l)
    (sym (no_numbers (collation c.args.table.now) level c.letters.left.now (nil_from_length c.letters.left.now (eqb-true (length c.letters.left.now) 0 (sym c.is_empty.ensures ∙ c.if-is_empty.true)))))
    ∙ c.letters.invariant.rows level within

pub returns-clause-rows : goal.returns-clause-rows
returns-clause-rows c = λ level within.
    subst (λ found. IfSome found (λ all. (level : ℕ) → level < length (collation c.args.table.now).rules
    → map (row_numbers c.args.self.now.made.weights level) all.items
    ≡ map (row_numbers c.args.self.now.made.weights level) c.letters.rows.items ++ text_numbers (collation c.args.table.now) level (chars c.letters.left.now)))
    c.in-Some-2.is c.in_ok-all.ensures.rows level within
    ∙ c.letters.invariant.rows level within

pub returns-clause-few : goal.returns-clause-few
returns-clause-few c =
    let few : length c.in-Some-2.all.items ≤ length c.letters.rows.items + length (chars c.letters.left.now) =
    subst (λ found. IfSome found (λ all. length all.items ≤ length c.letters.rows.items + length (chars c.letters.left.now))) c.in-Some-2.is c.in_ok-all.ensures.few in
    omega (arith, few, c.letters.invariant.few)
