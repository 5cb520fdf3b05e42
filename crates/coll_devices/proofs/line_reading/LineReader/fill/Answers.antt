use Rattle.std.proofs.Common.{◌≡◌, ◌+◌, ◌-◌, slice_range, ap, ◌∙◌, refl, arith, ◌++◌}
use Rattle.std.specs.Vec.{with_items}
use Rattle.std.proofs.lemmas.Result.{err_from_is_err_and}
use Rattle.std.proofs.lemmas.List.{with_items_is}
use Rattle.std.proofs.lemmas.List.Edits.{length-between}
use Rattle.coll_devices.specs.LineReading.{ReaderState}
use Rattle.coll_devices.proofs.LineReaderLemmas.{part-grown, part-same, same_reader}
use Rattle.coll_devices.proofs.line_reading.LineReader.fill.Goals as goal

pub returns-in_err-count-clause-filled : goal.returns-in_err-count-clause-filled
returns-in_err-count-clause-filled g c =
    let p = err_from_is_err_and c.from_residual.result c.from_residual.ensures.1 in
    let at = c.make_room-start.result in
    let h = c.self.inside.end - c.self.inside.start in
    let room = c.make_room-start.new.buffer in
    let new = c.read_at-result.new.buffer in
    let items : (with_items c.self.inside.buffer new).items ≡ new = with_items_is c.self.inside.buffer new (omega (arith, c.self.inside.buffer.ok.0)) in
    let value : c.deref_mut-buffer.result.now ≡ c.self.inside.buffer.items = c.deref_mut-buffer.ensures.value in
    let was : slice_range room at (at + h) ≡ c.args.self.now.held = (rw value at c.make_room-start.ensures.kept) ∙ ap (λ (r : ReaderState). r.held) c.self.view_is in
    let held : slice_range (with_items c.self.inside.buffer new).items at (at + h) ≡ c.args.self.now.held =
    ap (λ l. slice_range l at (at + h)) items ∙ part-same room new at (at + h) c.in_err-count.ensures.prefix ∙ was in
    rw p.1 (same_reader _ _ _ _ _ _ _ _ refl held (ap (λ (r : ReaderState). r.stop) c.self.view_is) (ap (λ (r : ReaderState). r.ended) c.self.view_is), c.in_err-count.ensures.bytes)

pub returns-clause-filled : goal.returns-clause-filled
returns-clause-filled g c =
    let at = c.make_room-start.result in
    let h = c.self.inside.end - c.self.inside.start in
    let n = c.in_ok-count.count in
    let room = c.make_room-start.new.buffer in
    let new = c.read_at-result.new.buffer in
    let items : (with_items c.self.inside.buffer new).items ≡ new = with_items_is c.self.inside.buffer new (omega (arith, c.self.inside.buffer.ok.0)) in
    let value : c.deref_mut-buffer.result.now ≡ c.self.inside.buffer.items = c.deref_mut-buffer.ensures.value in
    let was : slice_range room at (at + h) ≡ c.args.self.now.held = (rw value at c.make_room-start.ensures.kept) ∙ ap (λ (r : ReaderState). r.held) c.self.view_is in
    let more = slice_range new (at + h) (at + h + n) in
    let held : slice_range (with_items c.self.inside.buffer new).items at (at + h + n) ≡ c.args.self.now.held ++ more =
    ap (λ l. slice_range l at (at + h + n)) items ∙ part-grown room new at h n c.in_ok-count.ensures.prefix ∙ ap (λ l. l ++ more) was in (
      more,
      same_reader _ _ _ _ _ _ _ _ refl held (ap (λ (r : ReaderState). r.stop) c.self.view_is) (ap (λ (r : ReaderState). r.ended) c.self.view_is),
      omega (arith, length-between new (at + h) (at + h + n) c.in_ok-count.ensures.bound),
      c.in_ok-count.ensures.bytes,
      c.in_ok-count.ensures.end,
    )
