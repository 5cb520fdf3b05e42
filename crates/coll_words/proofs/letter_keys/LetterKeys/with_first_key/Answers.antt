-- The numbers of each character are put behind those of the characters before it.
use Rattle.std.proofs.Common.{◌≡◌, ◌∙◌, ℕ, List, chars, length, refl, sym, ap, subst, arith, rules}
use Rattle.std.specs.Prelude.{IfOk}
use Rattle.std.proofs.lemmas.Bool.{eqb-true, ltb-false}
use Rattle.std.proofs.lemmas.List.{nil_from_length}
use Rattle.std.proofs.lemmas.Str.{chars-nil, length-le-encodes, encodes-chars}
use Rattle.coll_nodes.specs.TableLayout.{collation}
use Rattle.coll_elements.specs.Elements.{elements_of}
use Rattle.coll_ranks.specs.LevelWeights.{row_numbers}
use Rattle.coll_ranks.specs.RankLists.{WeightsValue}
use Rattle.coll_ranks.specs.WeightNumbers.{numbers_at}
use Rattle.coll_words.proofs.LetterKeyLemmas.{first_put, letters_done, letters_left, plain_level}
use Rattle.coll_words.proofs.letter_keys.LetterKeys.with_first_key.Goals as goal

pub letters-init : goal.letters-init
letters-init c =
    let text = c.args.text.now in
    let bytes = length-le-encodes (chars text) in
    let all = ap length (encodes-chars text c.utf8.text) in
    let short = ltb-false 65_536 (length (chars text)) c.requires.short in
    record {
      text = c.utf8.text;
      few = omega (arith, c.min-later.ensures, bytes, all, short);
      most = omega (arith, c.min-later.ensures);
      room = c.in_ok-with.ensures.room;
      same = refl;
    }

pub with_first-requires-clause-first : goal.with_first-requires-clause-first
with_first-requires-clause-first c = record {
  level = plain_level (collation c.args.table.now).rules c.requires.keys.plain;
  numbers = λ row.
      c.at_level-at_first.ensures row ∙ ap (λ (w : WeightsValue). row_numbers w 0 row) c.weights.ensures ∙ ap (λ made. row_numbers made.weights 0 row) c.made.ensures;
}

pub letters-preserved : goal.letters-preserved
letters-preserved c =
    let table = collation c.args.table.now in
    let first = c.in-Some.first in
    record {
      text = search rules;
      few = omega (arith, c.letters.invariant.few, c.in-Some.ensures.shorter);
      most = omega (arith, c.letters.invariant.most);
      room = c.in_ok-with-2.ensures.room;
      same = c.letters.invariant.same
          ∙ first_put (numbers_at table 0) (elements_of table (chars c.letters.left.now)) (elements_of table (chars first.rest.now)) (row_numbers c.args.self.now.weights.made.weights 0 first.row)
          c.letters.with.items c.in_ok-with-2.with.items c.in-Some.ensures.numbers c.in_ok-with-2.ensures.numbers;
    }

pub returns-then-is_empty : goal.returns-then-is_empty
returns-then-is_empty c =
    letters_done (collation c.args.table.now) c.requires.keys.plain c.args.keys.items c.in_ok-with.with.items c.letters.with.items (chars c.args.text.now) (chars c.letters.left.now)
    c.in_ok-with.ensures.same c.letters.invariant.same
    (ap chars (nil_from_length c.letters.left.now (eqb-true (length c.letters.left.now) 0 (sym c.is_empty.ensures ∙ c.if-is_empty.true))) ∙ chars-nil)

pub returns : goal.returns
returns c =
    subst (λ (l : List ℕ). IfOk c.with_text.result (λ with. with.items ≡ l))
    (letters_left (collation c.args.table.now) c.requires.keys.plain c.args.keys.items c.in_ok-with.with.items c.letters.with.items (chars c.args.text.now) (chars c.letters.left.now)
    c.in_ok-with.ensures.same c.letters.invariant.same)
    c.with_text.ensures
