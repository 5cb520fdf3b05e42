-- The lines so far are these texts; each is one of the most lines that a text may have.
use Rattle.std.proofs.Common.{◌≡◌, ◌-◌, ◌≤◌, None, length}
use Rattle.coll_lex.specs.Limits.{most_lines}
use Rattle.coll_word_lists.proofs.TextWords.{OnWay}
use Rattle.coll_word_lists.proofs.word_texts.read_lines.Given as goal

abbrev pub invariant-lines : goal.invariant-lines
invariant-lines g l = record {
  way : OnWay (g.R.Source.left l.initial.input) l.reader (g.R.Source.left l.input) (g.L.TakesTexts.texts l.texts);
  few : length (g.L.TakesTexts.texts l.texts) ≤ most_lines;
  errors : g.R.Source.failed l.input ≡ g.R.Source.failed l.initial.input;
  goes_on : l.reader.stop ≡ None;
}

abbrev pub decreases-lines : goal.decreases-lines
decreases-lines g l = most_lines - length (g.L.TakesTexts.texts l.texts)
