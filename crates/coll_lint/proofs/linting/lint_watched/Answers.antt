-- What is told is written, or there is nothing to be told.
use Rattle.std.proofs.Common.{map, string_bytes}
use Rattle.std.specs.Option.{option_map}
use Rattle.std.specs.Prelude.{option_to_list}
use Rattle.coll_lint.proofs.LintCases.{stopped_runs, told_runs}
use Rattle.coll_lint.proofs.linting.lint_watched.Goals as goal

pub returns-in-Ok : goal.returns-in-Ok
returns-in-Ok g c =
    let taken = g.W.Sink.taken in
    told_runs (map string_bytes c.args.names.now) c.args.table.now (option_to_list (option_map (λ text. text.now) c.args.delta)) (taken c.args.output.now) (taken c.write_told-wrote.new.output)
    c.in-Ok.lint c.write_told-wrote.result c.in-Ok.ensures c.write_told-wrote.ensures.sent c.write_told-wrote.ensures.ok c.write_told-wrote.ensures.fault

pub returns-in-Err : goal.returns-in-Err
returns-in-Err g c =
    stopped_runs (map string_bytes c.args.names.now) c.args.table.now (option_to_list (option_map (λ text. text.now) c.args.delta)) (g.W.Sink.taken c.args.output.now) c.in-Err.ended c.in-Err.ensures
