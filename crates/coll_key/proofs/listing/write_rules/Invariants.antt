-- What is written and what is left are the whole.
use Rattle.std.proofs.Common.{◌≡◌, drop}
use Rattle.coll_key.specs.CompiledListing.{listed_rule}
use Rattle.coll_texts.proofs.PrintedParts.{HasWritten}
use Rattle.coll_key.proofs.listing.write_rules.Given as goal

abbrev pub invariant-loop-rule : goal.invariant-loop-rule
invariant-loop-rule g l =
    record {
      sent : HasWritten listed_rule l.rules (drop l.rule-index l.rules) (g.W.Sink.taken l.initial.out) (g.W.Sink.taken l.out);
      count : g.W.Sink.failed l.out ≡ g.W.Sink.failed l.initial.out;
    }
