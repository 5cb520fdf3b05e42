-- One line further, what is wrong with it was found; behind the last one, what is wrong with all.
use Rattle.coll_nodes.specs.TableLayout.{collation}
use Rattle.coll_advice.proofs.BlockLines.{all_found, found_more, ids_before, same_more}
use Rattle.coll_advice.proofs.blocks.find_from_target.Goals as goal

pub loop-number-preserved : goal.loop-number-preserved
loop-number-preserved c =
    let table = collation c.args.table.now in
    let target = c.args.target.now in
    let lines = c.args.lines.now in
    let i = c.loop-number.number in
    let line = c.index-lines-number.result in
    record {
      kept = same_more table target lines i line c.loop-number-test.true c.index-lines-number.is c.loop-number.before c.insert_own-in-loop-number.new.ids c.loop-number.invariant.kept
          c.in_ok-insert_own-2.ensures;
      goes_on = found_more table target lines i line c.loop-number-test.true c.index-lines-number.is c.args.all.now c.loop-number.before c.loop-number.invariant.kept c.loop-number.found.items
          c.find_next.new.found.items _ c.loop-number.invariant.goes_on c.in_ok-find_next.ensures;
    }

pub returns : goal.returns
returns c =
    let table = collation c.args.table.now in
    let i = c.loop-number.number in
    all_found table c.args.target.now c.args.lines.now i c.loop-number-test.false (ids_before table c.args.target.now c.args.lines.now i) c.args.all.now
    c.loop-number.found.items c.args.found.now.items
    c.requires.all c.loop-number.invariant.goes_on
