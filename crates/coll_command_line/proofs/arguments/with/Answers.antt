-- A subcommand whose shape is known goes behind the others.
use Rattle.std.proofs.Common.{ap, ◌∙◌}
use Rattle.std.proofs.lemmas.Result.{IfOk-weaker}
use Rattle.clap.specs.Words.{Shape, app_of, with_subcommand}
use Rattle.coll_command_line.proofs.CommandLines.{plain_local}
use Rattle.coll_command_line.proofs.arguments.with.Goals as goal

pub returns-in-Ok : goal.returns-in-Ok
returns-in-Ok c =
    let plain = ap (λ (s : Shape). s.is_plain) c.in-Ok.ensures in
    IfOk-weaker c.subcommand.result _ _
    (λ made adds. adds.shape (plain_local _ _ _ _ plain) ∙ ap (with_subcommand (app_of c.args.command)) c.in-Ok.ensures) c.subcommand.ensures
