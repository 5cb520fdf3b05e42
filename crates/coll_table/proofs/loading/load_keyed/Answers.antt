-- What a loader answers behind the lines of the text is what is answered to the text.
use Rattle.coll_table.proofs.TextLoading.{loads, counts_none}
use Rattle.coll_table.proofs.loading.load_keyed.Goals as goal

pub returns-in-Ok-clause-loaded : goal.returns-in-Ok-clause-loaded
returns-in-Ok-clause-loaded g c =
    let left = g.R.Source.left in
    loads (left c.args.input.now) (left c.read_text.new.input) c.read_text.new.loader c.finish.result c.in-Ok.ensures.faultless c.in-Ok.ensures.read c.finish.ensures.ok c.finish.ensures.err
    c.finish.ensures.cause c.finish.ensures.spared

pub returns-in-Ok-clause-errors : goal.returns-in-Ok-clause-errors
returns-in-Ok-clause-errors g c =
    let failed = g.R.Source.failed in
    counts_none (failed c.args.input.now) (failed c.read_text.new.input) c.finish.result c.in-Ok.ensures.errors c.finish.ensures.cause
