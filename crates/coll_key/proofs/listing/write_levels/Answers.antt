-- Each level is one part, and the end of the line the last.
use Rattle.std.proofs.Common.{◌+◌, drop, ap, [], ◌∷◌, refl, arith, ◌∙◌, rules}
use Rattle.std.proofs.lemmas.List.{drop_all}
use Rattle.coll_devices.specs.PhysicalLines.{line_feed}
use Rattle.coll_devices.proofs.WritingLemmas.{AppendsPrefix-before}
use Rattle.coll_texts.proofs.PrintedParts.{writes_rest}
use Rattle.coll_key.specs.ListingParts.{is_star, level_bytes, levels_bytes, levels_ended}
use Rattle.coll_ranks.specs.Ranks.{compiled_weight}
use Rattle.coll_key.proofs.ListingLemmas.{left_prefix, left_more, left_none, levels_next}
use Rattle.coll_key.proofs.listing.write_levels.Goals as goal

pub returns-in-Err : goal.returns-in-Err
returns-in-Err g c =
    let taken = g.W.Sink.taken in
    let all = c.args.weights.now in
    let i = c.loop-level.level in
    let bytes = levels_bytes c.args.ranks.now c.args.rank c.args.owner.now in
    record {
      sent = AppendsPrefix-before (taken c.args.out.now) (taken c.write_level.new.out) (bytes 0 all) (line_feed ∷ [])
          (left_prefix (bytes 0 all) (bytes i (drop i all)) (level_bytes (is_star c.args.owner.now c.index-weights-level.result) (compiled_weight c.args.ranks.now.compiled c.args.rank i))
          (bytes (i + 1) (drop (i + 1) all)) (taken c.args.out.now) (taken c.loop-level.out) (taken c.write_level.new.out)
          (levels_next c.args.ranks.now c.args.rank c.args.owner.now all i c.index-weights-level.result c.loop-level-test.true c.index-weights-level.is) c.loop-level.invariant.sent
          (let part = rw c.compiled.ensures at c.in-Err.ensures.sent in part));
      errors = search rules;
    }

pub loop-level-preserved : goal.loop-level-preserved
loop-level-preserved g c =
    let taken = g.W.Sink.taken in
    let all = c.args.weights.now in
    let i = c.loop-level.level in
    let bytes = levels_bytes c.args.ranks.now c.args.rank c.args.owner.now in
    record {
      sent = left_more (bytes 0 all) (bytes i (drop i all)) (level_bytes (is_star c.args.owner.now c.index-weights-level.result) (compiled_weight c.args.ranks.now.compiled c.args.rank i))
          (bytes (i + 1) (drop (i + 1) all)) (taken c.args.out.now) (taken c.loop-level.out) (taken c.write_level.new.out)
          (levels_next c.args.ranks.now c.args.rank c.args.owner.now all i c.index-weights-level.result c.loop-level-test.true c.index-weights-level.is) c.loop-level.invariant.sent
          (let part = rw c.compiled.ensures at c.in_default.ensures.sent in part);
      count = c.in_default.ensures.errors ∙ c.loop-level.invariant.count;
    }

pub returns : goal.returns
returns g c =
    let taken = g.W.Sink.taken in
    let all = c.args.weights.now in
    let i = c.loop-level.level in
    let bytes = levels_bytes c.args.ranks.now c.args.rank c.args.owner.now in
    record {
      sent = writes_rest (taken c.args.out.now) (taken c.loop-level.out) (taken c.write_bytes.new.out) (levels_ended c.args.ranks.now c.args.rank c.args.owner.now all) (bytes 0 all) (line_feed ∷ [])
          c.write_bytes.result refl
          (left_none (bytes 0 all) (bytes i (drop i all)) (taken c.args.out.now) (taken c.loop-level.out) (ap (bytes i) (drop_all i all (omega (arith, c.loop-level-test.false))))
          c.loop-level.invariant.sent) c.write_bytes.ensures.sent;
      errors = search rules;
    }
