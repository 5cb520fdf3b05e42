-- The last subcommand goes behind all others.
use Rattle.std.proofs.Common.{◌≡◌, rules, ap, ap₂, ◌∙◌}
use Rattle.std.proofs.lemmas.Result.{IfOk-weaker}
use Rattle.clap.specs.Words.{App, Shape, app_of, with_subcommand}
use Rattle.coll_command_line.specs.CommandLine.{bare, command_line, subcommands, with_each}
use Rattle.coll_command_line.proofs.CommandLines.{plain_local}
use Rattle.coll_command_line.proofs.arguments.command.Goals as goal

pub returns : goal.returns
unfolding command_line
returns c =
    let plain = ap (λ (s : Shape). s.is_plain) c.version.ensures in
    let begun : app_of c.arg_required_else_help-command.result ≡ bare = search rules in
    IfOk-weaker c.subcommand.result _ _
    (λ made adds. adds.shape (plain_local _ _ _ _ plain)
    ∙ ap₂ with_subcommand (c.in_ok-with_all.ensures ∙ ap (λ (app : App). with_each app subcommands) begun) c.version.ensures) c.subcommand.ensures
