-- What the text begins with has the row.
use Rattle.std.proofs.Common.{arith}
use Rattle.coll_nodes.specs.TableLayout.{collation}
use Rattle.coll_words.proofs.LetterKeyLemmas.{plain_level}
use Rattle.coll_words.proofs.letter_keys.LetterKeys.first_looked_up.Goals as goal

pub returns : goal.returns
returns c = record {
  numbers = c.in_ok-first.ensures.numbers 0 (plain_level (collation c.args.table.now).rules c.requires.plain);
  packed = λ above. absurd (omega (arith, above));
  shorter = c.in_ok-first.ensures.shorter;
}
