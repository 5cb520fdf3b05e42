-- What is written and what is left are the whole.
use Rattle.std.proofs.Common.{◌≡◌, drop, length}
use Rattle.std.specs.Prelude.{chars}
use Rattle.coll_delta_texts.specs.DeltaText.{string_char_bytes}
use Rattle.coll_texts.proofs.PrintedParts.{HasWritten}
use Rattle.coll_delta_texts.proofs.delta_texts.write_chars.Given as goal

abbrev pub invariant-loop-c : goal.invariant-loop-c
invariant-loop-c g l =
    record {
      sent : HasWritten string_char_bytes (chars l.text) (drop (length l.yielded) (chars l.text)) (g.W.Sink.taken l.initial.out) (g.W.Sink.taken l.out);
      count : g.W.Sink.failed l.out ≡ g.W.Sink.failed l.initial.out;
    }
