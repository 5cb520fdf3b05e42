-- The length is judged once the characters are read.
use Rattle.coll_syntax.proofs.ElementLemmas.{too_long, long_enough}
use Rattle.coll_syntax.proofs.elements.element_text.Goals as goal

pub returns-then-pieces-gt-MOST_ELEMENT_CHARS-clause-err : goal.returns-then-pieces-gt-MOST_ELEMENT_CHARS-clause-err
returns-then-pieces-gt-MOST_ELEMENT_CHARS-clause-err c =
    λ _. too_long c.args.pieces.now c.in_ok-text.text c.if-pieces-gt-MOST_ELEMENT_CHARS.true c.in_ok-text.ensures.ok

pub returns-clause-ok : goal.returns-clause-ok
returns-clause-ok c = long_enough c.args.pieces.now c.in_ok-text.text c.if-pieces-lt-LEAST_ELEMENT_CHARS.false c.if-pieces-gt-MOST_ELEMENT_CHARS.false c.in_ok-text.ensures.ok
