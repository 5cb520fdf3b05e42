-- What was known of the device at the start is known still.
use Rattle.std.proofs.Common.{◌≡◌}
use Rattle.coll_devices.specs.LineReading.{no_line}
use Rattle.coll_sources.proofs.ReadTexts.{IsKnown}
use Rattle.coll_sources.proofs.readers.SourceReader.read_whole.Given as goal

abbrev pub invariant-reads : goal.invariant-reads
invariant-reads g l = record {
  known : l.initial.lines ≡ no_line → IsKnown l.lines.ended (g.R.Source.left l.initial.input) (g.R.Source.left l.input);
}
