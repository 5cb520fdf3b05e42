use Rattle.std.proofs.Common.{◌≡◌, ◌+◌, ◌<◌, ◌≤◌, length, take, slice_index, slice_range, sym, ap, ◌∙◌, subst, arith}
use Rattle.std.proofs.lemmas.List.Edits.{length-between, get_or-between}
use Rattle.coll_devices.specs.PhysicalLines.{line_feed, IsInLine}
use Rattle.coll_devices.specs.LineReading.{ReaderState}
use Rattle.coll_devices.proofs.LineReaderLemmas.{part-cut, part-prefix, part-prefix_min, part-in_line}
use Rattle.coll_devices.proofs.line_reading.LineReader.take_line.Goals as goal

pub returns-in-Some-clause-found : goal.returns-in-Some-clause-found
returns-in-Some-clause-found c =
    let s = c.self.inside.start in
    let e = c.self.inside.end in
    let k = c.args.searched in
    let m = s + k + c.in-Some.at in
    let limit = c.min-limit.result in
    let buffer = c.self.inside.buffer.items in
    let is : c.args.self.now.held ≡ slice_range buffer s e = sym (ap (λ (r : ReaderState). r.held) c.self.view_is) in
    let value : c.deref.result.now ≡ buffer = c.deref.ensures.value in
    let fits : e ≤ length buffer = omega (arith, c.self.invariant, c.self.inside.buffer.ok.0) in
    let within : c.in-Some.at < length (slice_range buffer (s + k) limit) = rw value at c.in-Some.ensures.within in
    let low : m < limit = omega (arith, length-between buffer (s + k) limit (omega arith)) in
    let feed : slice_index buffer m ≡ line_feed = sym (get_or-between buffer (s + k) limit c.in-Some.at 0 low) ∙ (rw value at c.in-Some.ensures.found) in
    let first : IsInLine (take c.in-Some.at (slice_range buffer (s + k) limit)) = rw value at c.in-Some.ensures.first in
    let back : IsInLine (slice_range buffer (s + k) m) = subst IsInLine (part-prefix buffer (s + k) limit c.in-Some.at (omega arith)) first in
    record {
      cut = part-cut buffer c.args.self.now.held s e m is (omega arith) (omega arith) fits feed;
      whole = part-in_line buffer c.args.self.now.held s e k m is (omega arith) (omega arith) fits c.requires.none back;
      short = omega (arith, length-between buffer s m (omega arith));
      stop = ap (λ (r : ReaderState). r.stop) c.self.view_is;
      ended = ap (λ (r : ReaderState). r.ended) c.self.view_is;
    }

pub returns-in-None-clause-not_found : goal.returns-in-None-clause-not_found
returns-in-None-clause-not_found c =
    let s = c.self.inside.start in
    let e = c.self.inside.end in
    let k = c.args.searched in
    let limit = c.min-limit.result in
    let buffer = c.self.inside.buffer.items in
    let is : c.args.self.now.held ≡ slice_range buffer s e = sym (ap (λ (r : ReaderState). r.held) c.self.view_is) in
    let value : c.deref.result.now ≡ buffer = c.deref.ensures.value in
    let fits : e ≤ length buffer = omega (arith, c.self.invariant, c.self.inside.buffer.ok.0) in
    let back : IsInLine (slice_range buffer (s + k) limit) = rw value at c.in-None.ensures.none in
    let prefix : take 65537 (slice_range buffer s e) ≡ slice_range buffer s limit = part-prefix_min buffer s e _ 65537 limit c.min-limit.ensures (omega arith) (omega (arith, c.self.invariant)) fits in
    subst IsInLine (sym prefix ∙ ap (take 65537) (sym is))
    (part-in_line buffer c.args.self.now.held s e k limit is (omega (arith, c.requires.held, ap length is, length-between buffer s e fits)) (omega arith) fits c.requires.none back)
