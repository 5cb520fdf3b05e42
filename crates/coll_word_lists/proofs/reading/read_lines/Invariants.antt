-- The lines so far are words, each with its key; each is one of the most lines that a text may have.
use Rattle.std.proofs.Common.{◌≡◌, ◌-◌, ◌≤◌, None, length}
use Rattle.coll_lex.specs.Limits.{most_lines}
use Rattle.coll_nodes.specs.TableLayout.{collation}
use Rattle.coll_word_lists.specs.KeyedWords.{AreKeyed, texts_of}
use Rattle.coll_word_lists.proofs.TextWords.{OnWay}
use Rattle.coll_word_lists.proofs.reading.read_lines.Given as goal

abbrev pub invariant-lines : goal.invariant-lines
invariant-lines g l = record {
  way : OnWay (g.R.Source.left l.initial.input) l.reader (g.R.Source.left l.input) (texts_of l.words.items);
  keyed : AreKeyed (collation l.table) l.words.items;
  few : length l.words.items ≤ most_lines;
  errors : g.R.Source.failed l.input ≡ g.R.Source.failed l.initial.input;
  goes_on : l.reader.stop ≡ None;
}

abbrev pub decreases-lines : goal.decreases-lines
decreases-lines g l = most_lines - length l.words.items
