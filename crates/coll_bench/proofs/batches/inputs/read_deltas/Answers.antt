-- Each delta file gives a table, or is at fault.
use Rattle.std.proofs.Common.{map, Err, refl, sym, ap, subst, arith, ◌∙◌}
use Rattle.std.specs.Prelude.{slice_get, slice_set}
use Rattle.coll_nodes.specs.TableLayout.{collation}
use Rattle.coll_bench.specs.BatchReading.{CountsDelta}
use Rattle.coll_bench.specs.BatchRuns.{ending_of}
use Rattle.coll_bench.proofs.BatchInputs.{none_after, one_more, fails_all, counts_all}
use Rattle.coll_bench.proofs.Members.{got, got-drop, got-map, got-set, set-same, drop-set, drop-one, text_got}
use Rattle.coll_bench.proofs.batches.inputs.read_deltas.Goals as goal

pub loop-before-init : goal.loop-before-init
loop-before-init g c = record { rest = refl; taken = λ texts e. none_after (collation c.args.table.now) texts; errors = refl }

pub returns-in-Err-clause-inputs : goal.returns-in-Err-clause-inputs
returns-in-Err-clause-inputs g c texts e =
    let left = g.R.Source.left in
    let i = c.loop-before.before in
    let now = got c.loop-before.deltas i c.index-deltas-before.result (omega (arith, c.loop-before-test.true, c.loop-before.auto.deltas)) c.index-deltas-before.is in
    let start = got-drop c.args.deltas.now i ∙ (ap (λ l. slice_get l 0) (sym c.loop-before.invariant.rest) ∙ (sym (got-drop c.loop-before.deltas i) ∙ now)) in
    let text = text_got (map left c.args.deltas.now) texts i (left c.index-deltas-before.result) e (got-map left c.args.deltas.now i c.index-deltas-before.result start) in
    fails_all (collation c.args.table.now) (collation c.loop-before.table) texts i text.0 text.1 (c.loop-before.invariant.taken texts e) (ending_of c.in-Err.ended) (left c.read_delta.new.delta)
    (map left (slice_set c.loop-before.deltas i c.read_delta.new.delta)) c.in-Err.ended
    (got-map left (slice_set c.loop-before.deltas i c.read_delta.new.delta) i c.read_delta.new.delta (got-set c.loop-before.deltas i c.index-deltas-before.result c.read_delta.new.delta now))
    c.in-Err.ensures.input (c.in-Err.ensures.file text.0 (ap left (sym c.index-deltas-before.is) ∙ text.2))

pub returns-in-Err-clause-reads : goal.returns-in-Err-clause-reads
returns-in-Err-clause-reads g c =
    let failed = g.R.Source.failed in
    let i = c.loop-before.before in
    let now = got c.loop-before.deltas i c.index-deltas-before.result (omega (arith, c.loop-before-test.true, c.loop-before.auto.deltas)) c.index-deltas-before.is in
    counts_all failed c.args.deltas.now c.loop-before.deltas i c.index-deltas-before.result c.read_delta.new.delta c.in-Err.ended c.loop-before.invariant.errors now c.in-Err.ensures.input
    (subst (λ d. CountsDelta (failed d) (failed c.read_delta.new.delta) (Err c.in-Err.ended)) (sym c.index-deltas-before.is) c.in-Err.ensures.reads)

pub loop-before-preserved : goal.loop-before-preserved
loop-before-preserved g c =
    let left = g.R.Source.left in
    let i = c.loop-before.before in
    let now = got c.loop-before.deltas i c.index-deltas-before.result (omega (arith, c.loop-before-test.true, c.loop-before.auto.deltas)) c.index-deltas-before.is in
    let start = got-drop c.args.deltas.now i ∙ (ap (λ l. slice_get l 0) (sym c.loop-before.invariant.rest) ∙ (sym (got-drop c.loop-before.deltas i) ∙ now)) in
    record {
      rest = drop-set c.loop-before.deltas i c.read_delta.new.delta ∙ drop-one c.loop-before.deltas c.args.deltas.now i c.loop-before.invariant.rest;
      taken = λ texts e.
          let text = text_got (map left c.args.deltas.now) texts i (left c.index-deltas-before.result) e (got-map left c.args.deltas.now i c.index-deltas-before.result start) in
          one_more (collation c.args.table.now) (collation c.loop-before.table) texts i text.0 text.1 (c.loop-before.invariant.taken texts e) (collation c.read_delta.new.taker)
          (c.in_default.ensures.file text.0 (ap left (sym c.index-deltas-before.is) ∙ text.2));
      errors = set-same g.R.Source.failed c.loop-before.deltas i c.index-deltas-before.result c.read_delta.new.delta now
          (c.in_default.ensures.reads ∙ ap g.R.Source.failed (sym c.index-deltas-before.is)) ∙ c.loop-before.invariant.errors;
    }
