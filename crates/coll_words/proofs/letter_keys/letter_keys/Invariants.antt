-- The characters so far are kept with what they weigh.
use Rattle.std.proofs.Common.{All}
use Rattle.coll_nodes.specs.TableLayout.{collation}
use Rattle.coll_words.specs.LetterKeys.{IsLetterKey}
use Rattle.coll_words.proofs.letter_keys.letter_keys.Given as goal

abbrev pub invariant-loop-kept : goal.invariant-loop-kept
invariant-loop-kept l = All (IsLetterKey (collation l.table) l.weights.made.weights) l.letters.items
