-- The first level is one.
use Rattle.coll_nodes.specs.TableLayout.{collation}
use Rattle.coll_words.proofs.LetterKeyLemmas.{plain_level}
use Rattle.coll_words.proofs.letter_keys.LetterKeys.new.Goals as goal

pub letter_keys-requires-clause-level : goal.letter_keys-requires-clause-level
letter_keys-requires-clause-level c = plain_level (collation c.args.table.now).rules c.requires.plain
