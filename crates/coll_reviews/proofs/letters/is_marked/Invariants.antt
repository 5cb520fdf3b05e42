-- What is left is a text.
use Rattle.std.proofs.Common.{chars, length}
use denote.Shadow.{shadow}
use denote.Text.{Utf8}
use Rattle.coll_reviews.proofs.letters.is_marked.Given as goal

abbrev pub invariant-letters : goal.invariant-letters
invariant-letters l = record { text : shadow (Utf8 l.left) }

abbrev pub decreases-letters : goal.decreases-letters
decreases-letters l = length (chars l.left)
