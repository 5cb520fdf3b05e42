-- The numbers so far rise.
use Rattle.std.proofs.Common.{◌-◌, ◌+◌, ◌<◌, ℕ, length}
use Rattle.std.specs.Prelude.{slice_index}
use Rattle.coll_words.proofs.key_leads.are_rising.Given as goal

abbrev pub invariant-numbers : goal.invariant-numbers
invariant-numbers l = record {
  above : 0 < l.place;
  rising : (k : ℕ) → k + 1 < l.place → k + 1 < length l.numbers → slice_index l.numbers k < slice_index l.numbers (k + 1);
}

abbrev pub decreases-numbers : goal.decreases-numbers
decreases-numbers l = length l.numbers - l.place
