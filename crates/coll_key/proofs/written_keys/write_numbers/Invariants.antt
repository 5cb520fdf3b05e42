use Rattle.std.proofs.Common.{◌≡◌, drop}
use Rattle.std.specs.List.{flat_map}
use Rattle.coll_key.specs.WrittenKey.{before_space, words_of}
use Rattle.coll_key.proofs.WritingSteps.{IsLeft}
use Rattle.coll_key.proofs.written_keys.write_numbers.Given as goal

abbrev pub invariant-loop-number : goal.invariant-loop-number
invariant-loop-number g l = record {
  sent : IsLeft (flat_map before_space (words_of l.position l.position l.numbers)) (flat_map before_space (words_of l.position l.at_position (drop l.number-index l.numbers)))
      (g.W.Sink.taken l.initial.out) (g.W.Sink.taken l.out);
  count : g.W.Sink.failed l.out ≡ g.W.Sink.failed l.initial.out;
}
