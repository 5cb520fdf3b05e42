use Rattle.std.proofs.Common.{◌≡◌, ℕ, List, [], ◌++◌, length, take, refl, sym, ap, ◌∙◌, subst, inl, append-nil, length-append, arith}
use Rattle.std.specs.Io.KnownBytes.{prepend_known, Keeps}
use Rattle.std.proofs.KnownBytes.{Keeps-trans}
use Rattle.std.proofs.lemmas.List.{nil_from_length}
use Rattle.coll_devices.specs.declared.stops.ReadStop.TheVariants.{LineTooLong, ReadFault}
use Rattle.coll_devices.specs.Devices.{raised}
use Rattle.coll_devices.specs.PhysicalLines.{IsInLine}
use Rattle.coll_devices.specs.LineReading.{ReaderState, unread, IsLongLine}
use Rattle.coll_devices.proofs.AdvanceLemmas.{unread-read, prepend-kept, in_line_whole, in_line_grown, stops, ends}
use Rattle.coll_devices.proofs.line_reading.LineReader.advance.Goals as goal

pub returns-then-searched-gt-MOST_LINE_BYTES : goal.returns-then-searched-gt-MOST_LINE_BYTES
returns-then-searched-gt-MOST_LINE_BYTES g c =
    let left = g.R.Source.left in
    let failed = g.R.Source.failed in
    let t : ReaderState = c.take_line.new.self in
    let same : t ≡ c.reads.self = c.if-take_line.ensures.unchanged in
    let kept : Keeps (unread c.args.self.now (left c.args.input.now)) (unread t (left c.reads.input)) = rw same c.reads.invariant.kept in
    let P : ReaderState → Type 0 = λ r. IsInLine (take 65537 r.held) in
    let cause : IsLongLine t.held = record { long = omega arith; whole = subst P (sym same) c.if-take_line.ensures.not_found } in
    rw c.stop_with.ensures.same
    (inl (stops c.args.self.now t c.stop_with.new.self (left c.args.input.now) (left c.reads.input) (failed c.args.input.now) (failed c.reads.input) LineTooLong
    kept (refl, cause) c.reads.invariant.count c.reads.invariant.went_on c.reads.invariant.not_ended c.stop_with.ensures.after))

pub returns-in-Ok-eq0 : goal.returns-in-Ok-eq0
returns-in-Ok-eq0 g c =
    let left = g.R.Source.left in
    let failed = g.R.Source.failed in
    let t : ReaderState = c.take_line.new.self in
    let f : ReaderState = c.fill.new.self in
    let same : t ≡ c.reads.self = c.if-take_line.ensures.unchanged in
    let kept : Keeps (unread c.args.self.now (left c.args.input.now)) (unread t (left c.reads.input)) = rw same c.reads.invariant.kept in
    let whole : IsInLine t.held = in_line_whole 65537 t.held (omega arith) (rw same c.if-take_line.ensures.not_found) in
    let filled = c.in-Ok-eq0.ensures.filled in
    let none : filled.0 ≡ [] = nil_from_length filled.0 (filled.2 ∙ c.in-Ok-eq0.field-0-test) in
    let held : f.held ≡ t.held = ap (λ (r : ReaderState). r.held) filled.1 ∙ ap (λ l. t.held ++ l) none ∙ append-nil t.held in
    ends c.args.self.now f c.take_rest.new.self (left c.args.input.now) (left c.fill.new.input) (failed c.args.input.now) (failed c.fill.new.input) c.take_rest.result
    (unread-read c.args.self.now t f (left c.args.input.now) (left c.reads.input) (left c.fill.new.input) filled.0 kept filled.1 filled.3)
    (filled.4 c.in-Ok-eq0.field-0-test) (subst IsInLine (sym held) whole) (omega (arith, ap length held)) (c.in-Ok-eq0.ensures.errors ∙ c.reads.invariant.count)
    c.reads.invariant.went_on c.reads.invariant.not_ended (ap (λ (r : ReaderState). r.stop) filled.1 ∙ ap (λ (r : ReaderState). r.stop) same ∙ c.reads.invariant.stop) c.take_rest.ensures.after
    (sym c.take_rest.ensures.given)

pub reads-preserved : goal.reads-preserved
reads-preserved g c =
    let left = g.R.Source.left in
    let t : ReaderState = c.take_line.new.self in
    let f : ReaderState = c.fill.new.self in
    let same : t ≡ c.reads.self = c.if-take_line.ensures.unchanged in
    let kept : Keeps (unread c.args.self.now (left c.args.input.now)) (unread t (left c.reads.input)) = rw same c.reads.invariant.kept in
    let whole : IsInLine t.held = in_line_whole 65537 t.held (omega arith) (rw same c.if-take_line.ensures.not_found) in
    let filled = c.in-Ok.ensures.filled in
    let held : f.held ≡ t.held ++ filled.0 = ap (λ (r : ReaderState). r.held) filled.1 in
    record {
      kept = unread-read c.args.self.now t f (left c.args.input.now) (left c.reads.input) (left c.fill.new.input) filled.0 kept filled.1 filled.3;
      count = c.in-Ok.ensures.errors ∙ c.reads.invariant.count;
      within = omega arith;
      held = omega (arith, ap length held, length-append t.held filled.0);
      none = subst (λ l. IsInLine (take c.held_len-searched.result l)) (sym held) (in_line_grown c.held_len-searched.result t.held filled.0 (sym c.held_len-searched.ensures) whole);
      went_on = c.reads.invariant.went_on;
      stop = ap (λ (r : ReaderState). r.stop) filled.1 ∙ ap (λ (r : ReaderState). r.stop) same ∙ c.reads.invariant.stop;
      not_ended = c.reads.invariant.not_ended;
      ended = ap (λ (r : ReaderState). r.ended) filled.1 ∙ ap (λ (r : ReaderState). r.ended) same ∙ c.reads.invariant.ended;
    }

pub returns-in-Err : goal.returns-in-Err
returns-in-Err g c =
    let left = g.R.Source.left in
    let failed = g.R.Source.failed in
    let t : ReaderState = c.take_line.new.self in
    let f : ReaderState = c.fill.new.self in
    let same : t ≡ c.reads.self = c.if-take_line.ensures.unchanged in
    let kept : Keeps (unread c.args.self.now (left c.args.input.now)) (unread t (left c.reads.input)) = rw same c.reads.invariant.kept in
    let whole : IsInLine t.held = in_line_whole 65537 t.held (omega arith) (rw same c.if-take_line.ensures.not_found) in
    let filled = c.in-Err.ensures.filled in
    let held : f.held ≡ t.held = ap (λ (r : ReaderState). r.held) filled.0 in
    let P : List ℕ → Type 0 = λ l. Keeps (unread c.args.self.now (left c.args.input.now)) (prepend_known l (left c.fill.new.input)) in
    rw c.stop_with-in-Err.ensures.same
    (inl (stops c.args.self.now f c.stop_with-in-Err.new.self (left c.args.input.now) (left c.fill.new.input) (failed c.args.input.now) (failed c.fill.new.input) ReadFault
    (subst P (sym held) (Keeps-trans _ _ _ kept (prepend-kept (left c.reads.input) (left c.fill.new.input) t.held filled.1)))
    (refl, subst IsInLine (sym held) whole, omega (arith, ap length held)) (c.in-Err.ensures.errors ∙ ap raised c.reads.invariant.count) c.reads.invariant.went_on c.reads.invariant.not_ended
    c.stop_with-in-Err.ensures.after))
