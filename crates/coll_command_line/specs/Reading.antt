-- What words come to: a task, or what is said in place of it (the project's own).
use Rattle.std.specs.Prelude.{◌≡◌, ⊤, Bool, true, List, Option, Some, option_map}
use Rattle.clap.specs.Words.{Text, kind_of, subcommand_of}
use Rattle.clap.specs.declared.error.ErrorKind.TheVariants.{MissingSubcommand}
use Rattle.coll_command_line.specs.CommandLine.{command_line, version_name}
use Rattle.coll_command_line.specs.Tasks.{subcommand_name, task_for}
use Rattle.coll_command_line.specs.declared.requests.Unasked.{Unasked}
use Rattle.coll_command_line.specs.declared.requests.Unasked.TheVariants as unasked
use Rattle.coll_command_line.specs.declared.subcommands.Subcommand.{Subcommand}
use Rattle.coll_command_line.specs.declared.tasks.Task.{Task}

-- the name of the subcommand that words name, if they name one
abbrev pub named_by : (words : List Text) → Option Text
named_by words = option_map (λ p. p.0) (subcommand_of command_line words)

-- a task is asked for by this name: it is what the subcommand with the name does, by some texts
abbrev pub Asks : (name : Option Text) → Task → Type 0
Asks name task =
    (subcommand : Subcommand) × (texts : List Text) × (name ≡ Some (subcommand_name subcommand)) × (task_for subcommand texts ≡ Some task)

-- what is said in place of a task, where this is the name and words may pass: of words that pass at most that no task is asked for, and
-- the version where its name is given. Lack of memory may always be said.
abbrev pub Says : (passes : Bool) → (name : Option Text) → Unasked → Type 0
Says passes name (unasked.Told error) = passes ≡ true → kind_of error ≡ MissingSubcommand
Says passes name unasked.Version = name ≡ Some version_name
Says passes name unasked.OutOfMemory = ⊤
