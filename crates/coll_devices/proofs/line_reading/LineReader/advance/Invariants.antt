use Rattle.std.proofs.Common.{◌≡◌, ◌-◌, ◌≤◌, length, take, None, false}
use Rattle.std.specs.Io.KnownBytes.{Keeps}
use Rattle.coll_devices.specs.LineReading.{unread}
use Rattle.coll_devices.specs.PhysicalLines.{IsInLine}
use Rattle.coll_devices.proofs.line_reading.LineReader.advance.Given as goal

abbrev pub invariant-reads : goal.invariant-reads
invariant-reads g l =
    record {
      kept : Keeps (unread l.initial.self (g.R.Source.left l.initial.input)) (unread l.self (g.R.Source.left l.input));
      count : g.R.Source.failed l.input ≡ g.R.Source.failed l.initial.input;
      within : l.searched ≤ 65536;
      held : l.searched ≤ length l.self.held;
      none : IsInLine (take l.searched l.self.held);
      went_on : l.initial.self.stop ≡ None;
      stop : l.self.stop ≡ None;
      not_ended : l.initial.self.ended ≡ false;
      ended : l.self.ended ≡ false;
    }

abbrev pub decreases-reads : goal.decreases-reads
decreases-reads g l = 65537 - length l.self.held
