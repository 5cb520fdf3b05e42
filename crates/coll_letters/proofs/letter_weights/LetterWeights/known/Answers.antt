-- What was put is known, and else what the table tells.
use Rattle.std.proofs.Common.{ap, sym, ◌∙◌}
use Rattle.std.specs.Option.{option_copied}
use Rattle.coll_nodes.specs.TableLayout.{collation}
use Rattle.coll_letters.proofs.letter_weights.LetterWeights.known.Goals as goal

pub returns-in-Some : goal.returns-in-Some
returns-in-Some c = c.in-Some.ensures (collation c.args.table.now) c.args.self.now.made.weights c.requires.strings

pub returns-in-None : goal.returns-in-None
returns-in-None c = sym c.element_entry.ensures ∙ ap option_copied c.in-None.is
