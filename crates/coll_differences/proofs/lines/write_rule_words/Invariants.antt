-- What is written and what is left are the whole.
use Rattle.std.proofs.Common.{◌≡◌, drop}
use Rattle.coll_differences.specs.Lines.{rule_word}
use Rattle.coll_texts.proofs.PrintedParts.{HasWritten}
use Rattle.coll_differences.proofs.lines.write_rule_words.Given as goal

abbrev pub invariant-loop-rule : goal.invariant-loop-rule
invariant-loop-rule g l =
    record {
      sent : HasWritten rule_word l.rules (drop l.rule-index l.rules) (g.W.Sink.taken l.initial.out) (g.W.Sink.taken l.out);
      count : g.W.Sink.failed l.out ≡ g.W.Sink.failed l.initial.out;
    }
