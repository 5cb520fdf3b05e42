-- One run more is sorted.
use Rattle.coll_nodes.specs.TableLayout.{collation}
use Rattle.coll_words.proofs.TiedLemmas.{sorted_on}
use Rattle.coll_words.proofs.tied_words.sort_ties.Goals as goal

pub runs-preserved : goal.runs-preserved
runs-preserved c =
    let run = c.run_end-end.ensures in
    let led = c.requires.led in
    sorted_on (collation c.args.table.now) c.lemma_well_formed.ensures.well_formed led.numbers led.base led.room led.digits c.args.words.now c.runs.words c.runs.start c.run_end-end.result
    led.led c.requires.sorted
    c.runs.invariant run.behind run.within run.ends c.sort_run.new.run c.in_default.ensures
