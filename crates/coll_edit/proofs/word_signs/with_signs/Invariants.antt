-- What is put so far, followed by what is left of the line with its signs, is the whole line with them.
use Rattle.std.proofs.Common.{◌≡◌, ◌++◌, drop}
use Rattle.coll_edit.specs.WordSigns.{with_signs}
use Rattle.coll_edit.specs.declared.word_signs.Before.TheVariants as before
use Rattle.coll_edit.proofs.word_signs.with_signs.Given as goal

abbrev pub invariant-line : goal.invariant-line
invariant-line l = l.kept.items ++ with_signs l.stands (drop l.byte-index l.line) ≡ with_signs before.Apart l.initial.line
