-- Each number is one part.
use Rattle.std.proofs.Common.{◌+◌, drop, get_or, ◌∙◌, rules}
use Rattle.std.proofs.lemmas.List.{drop_more}
use Rattle.coll_key.specs.ListingParts.{spaced_number}
use Rattle.std.proofs.Common.{ℕ}
use Rattle.coll_texts.proofs.PrintedParts.{written_prefix, written_more}
use Rattle.coll_key.proofs.listing.write_numbers.Goals as goal

pub returns-in-Err : goal.returns-in-Err
returns-in-Err g c =
    let taken = g.W.Sink.taken in
    let all = c.args.numbers.now in
    let i = c.loop-number.number-index in
    let none : ℕ = 0 in
    record {
      sent = written_prefix spaced_number all (drop i all) (drop (i + 1) all) (get_or all i none) (taken c.args.out.now) (taken c.loop-number.out) (taken c.write_spaced_number.new.out)
          (drop_more all i none c.loop-number-test.true) c.loop-number.invariant.sent (let part = rw c.from.ensures at c.in-Err.ensures.sent in part);
      errors = search rules;
    }

pub loop-number-preserved : goal.loop-number-preserved
loop-number-preserved g c =
    let taken = g.W.Sink.taken in
    let all = c.args.numbers.now in
    let i = c.loop-number.number-index in
    let none : ℕ = 0 in
    record {
      sent = written_more spaced_number all (drop i all) (drop (i + 1) all) (get_or all i none) (taken c.args.out.now) (taken c.loop-number.out) (taken c.write_spaced_number.new.out)
          (drop_more all i none c.loop-number-test.true) c.loop-number.invariant.sent (let part = rw c.from.ensures at c.in_default.ensures.sent in part);
      count = c.in_default.ensures.errors ∙ c.loop-number.invariant.count;
    }
