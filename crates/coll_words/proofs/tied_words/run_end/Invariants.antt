-- The run ends behind its first word, and within the words.
use Rattle.std.proofs.Common.{◌-◌, ◌<◌, ◌≤◌, length}
use Rattle.coll_words.proofs.tied_words.run_end.Given as goal

abbrev pub invariant-words : goal.invariant-words
invariant-words l = record {
  behind : l.start < l.end;
  within : l.end ≤ length l.words;
}

abbrev pub decreases-words : goal.decreases-words
decreases-words l = length l.words - l.end
