-- What is written and what is left are the whole.
use Rattle.std.proofs.Common.{◌≡◌, drop}
use Rattle.coll_explanations.proofs.ExplanationParts.{HasLevels}
use Rattle.coll_explanations.proofs.explaining.write_levels.Given as goal

abbrev pub invariant-loop-level : goal.invariant-loop-level
invariant-loop-level g l =
    record {
      sent : HasLevels l.weighing l.elements l.others l.rules (drop l.level l.rules) l.level (g.W.Sink.taken l.initial.out) (g.W.Sink.taken l.out);
      count : g.W.Sink.failed l.out ≡ g.W.Sink.failed l.initial.out;
    }
