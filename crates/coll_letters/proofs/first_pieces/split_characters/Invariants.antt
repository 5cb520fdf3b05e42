-- What stands before the rest has as many characters as were passed.
use Rattle.std.proofs.Common.{◌≡◌, ◌+◌, ◌++◌, ℕ, List, chars, length}
use denote.Text.{Utf8}
use denote.Shadow.{shadow}
use Rattle.coll_letters.proofs.first_pieces.split_characters.Given as goal

abbrev pub invariant-loop-passed : goal.invariant-loop-passed
invariant-loop-passed l = record {
  text : shadow (Utf8 l.rest);
  prefix : (prefix : List ℕ) × (l.text ≡ prefix ++ l.rest);
  counted : l._passed + length (chars l.rest) ≡ length (chars l.text);
}
