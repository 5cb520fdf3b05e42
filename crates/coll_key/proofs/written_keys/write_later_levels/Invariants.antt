use Rattle.std.proofs.Common.{◌≡◌, drop}
use Rattle.std.specs.List.{flat_map}
use Rattle.coll_key.specs.WrittenKey.{behind_space, key_words}
use Rattle.coll_key.proofs.WritingSteps.{IsLeft}
use Rattle.coll_key.proofs.written_keys.write_later_levels.Given as goal

abbrev pub invariant-loop-rule : goal.invariant-loop-rule
invariant-loop-rule g l = record {
  sent : IsLeft (flat_map behind_space (key_words l.rules l.key)) (flat_map behind_space (key_words (drop l.rule-index l.rules) l.left)) (g.W.Sink.taken l.initial.out) (g.W.Sink.taken l.out);
  count : g.W.Sink.failed l.out ≡ g.W.Sink.failed l.initial.out;
}
