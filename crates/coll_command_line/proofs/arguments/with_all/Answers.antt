-- Each subcommand goes behind those before it.
use Rattle.std.proofs.Common.{◌+◌, drop, sym, ap, ◌∙◌}
use Rattle.clap.specs.Words.{App, app_of}
use Rattle.coll_command_line.specs.CommandLine.{subcommands, with_each}
use Rattle.coll_command_line.proofs.CommandLines.{each_added, each_step}
use Rattle.coll_command_line.proofs.arguments.with_all.Goals as goal

pub loop-subcommand-preserved : goal.loop-subcommand-preserved
unfolding subcommands
loop-subcommand-preserved c =
    let n = c.loop-subcommand.subcommand-index in
    c.loop-subcommand.invariant
    ∙ each_step (app_of c.loop-subcommand.command) subcommands n _ c.loop-subcommand-test.true
    ∙ ap (λ (app : App). with_each app (drop (n + 1) subcommands)) (sym c.in_ok-command.ensures)

pub returns : goal.returns
unfolding subcommands
returns c =
    let n = c.loop-subcommand.subcommand-index in
    sym (c.loop-subcommand.invariant ∙ each_added (app_of c.loop-subcommand.command) subcommands n c.loop-subcommand-test.false)
