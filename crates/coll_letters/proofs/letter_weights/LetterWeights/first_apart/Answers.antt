-- A character with a row is the first element.
use Rattle.std.proofs.Common.{chars, length, ap, arith}
use Rattle.coll_nodes.specs.TableLayout.{collation}
use Rattle.coll_letters.proofs.MarkLemmas.{stands_apart}
use Rattle.coll_letters.proofs.LetterLemmas.{letter_first}
use Rattle.coll_letters.proofs.letter_weights.LetterWeights.first_apart.Goals as goal

pub returns : goal.returns
returns c = record {
  numbers = letter_first (collation c.args.table.now) c.args.self.now.made.weights c.in_ok-first.first c.in_ok-row.row (chars c.args.text.now) (chars c.in_ok-first.rest.now) c.in_ok-first.ensures
      (stands_apart (collation c.args.table.now) c.args.self.now.marks c.requires.marks c.in_ok-first.first (chars c.in_ok-first.rest.now) (c.is_apart.ensures c.if-not-is_apart.false)) c.in_ok-row.ensures;
  shorter = omega (arith, ap length c.in_ok-first.ensures);
}
