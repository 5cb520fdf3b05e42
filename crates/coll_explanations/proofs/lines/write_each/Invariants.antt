-- What is written and what is left are the whole.
use Rattle.std.proofs.Common.{◌≡◌, drop}
use Rattle.coll_explanations.specs.Explanations.{element_word}
use Rattle.coll_texts.proofs.PrintedParts.{HasWritten}
use Rattle.coll_explanations.proofs.lines.write_each.Given as goal

abbrev pub invariant-loop-element : goal.invariant-loop-element
invariant-loop-element g l =
    record {
      sent : HasWritten element_word l.elements (drop l.element-index l.elements) (g.W.Sink.taken l.initial.out) (g.W.Sink.taken l.out);
      count : g.W.Sink.failed l.out ≡ g.W.Sink.failed l.initial.out;
    }
