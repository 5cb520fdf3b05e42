-- What names no subcommand may always be said.
use Rattle.clap.specs.Words.{subcommand_name_of}
use Rattle.coll_command_line.proofs.requests.no_request.Goals as goal

pub returns-in_default : goal.returns-in_default
returns-in_default c = c.no_subcommand.ensures (subcommand_name_of c.args.matches.now)
