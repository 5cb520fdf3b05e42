-- The subcommands that are left go behind those that it has.
use Rattle.std.proofs.Common.{◌≡◌, drop}
use Rattle.clap.specs.Words.{app_of}
use Rattle.coll_command_line.specs.CommandLine.{with_each}
use Rattle.coll_command_line.proofs.arguments.with_all.Given as goal

abbrev pub invariant-loop-subcommand : goal.invariant-loop-subcommand
invariant-loop-subcommand l = with_each (app_of l.initial.command) l.subcommand-items ≡ with_each (app_of l.command) (drop l.subcommand-index l.subcommand-items)
