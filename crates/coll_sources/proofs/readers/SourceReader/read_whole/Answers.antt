-- Each line that is given leaves the rest of the device, and behind the last one there is none.
use Rattle.std.proofs.Common.{sym, subst}
use Rattle.coll_devices.specs.LineReading.{ReaderState}
use Rattle.coll_sources.proofs.ReadTexts.{IsKnown, known_first, known_next, read_all}
use Rattle.coll_sources.proofs.readers.SourceReader.read_whole.Goals as goal

pub reads-init : goal.reads-init
reads-init g c =
    let left = g.R.Source.left in
    record {
      known = λ fresh. subst (λ (reader : ReaderState). IsKnown reader.ended (left c.args.input.now) (left c.args.input.now)) (sym fresh) (known_first (left c.args.input.now));
    }

pub reads-preserved : goal.reads-preserved
reads-preserved g c =
    let left = g.R.Source.left in
    let failed = g.R.Source.failed in
    record {
      known = λ fresh. known_next c.reads.lines c.advance.new.self (left c.args.input.now) (left c.reads.input) (left c.advance.new.input) (failed c.reads.input) (failed c.advance.new.input)
          c.in-Ok-true.field-0 c.in-Ok-true.field-0-test c.in-Ok-true.ensures (c.reads.invariant.known fresh);
    }

pub returns-in-Ok-false : goal.returns-in-Ok-false
returns-in-Ok-false g c =
    let left = g.R.Source.left in
    let failed = g.R.Source.failed in
    λ fresh. read_all c.reads.lines c.advance.new.self (left c.args.input.now) (left c.reads.input) (left c.advance.new.input) (failed c.reads.input) (failed c.advance.new.input)
    c.in-Ok-false.field-0 c.in-Ok-false.field-0-test c.in-Ok-false.ensures (c.reads.invariant.known fresh)
