-- What may stand on a command line, as `clap` reads it: the subcommands, and the words that each takes (the project's own).
use Rattle.std.specs.Prelude.{◌≡◌, ◌∷◌, ℕ, true, false, List, [], codes, Some}
use Rattle.clap.specs.Words.{App, Rule, Shape, Text, new_app, new_rule, rule_of, with_subcommand}
use Rattle.clap.specs.declared.builder.Arg.{Arg}
use Rattle.coll_command_line.specs.Tasks.{subcommand_name}
use Rattle.coll_command_line.specs.declared.subcommands.Subcommand.{Subcommand}
use Rattle.coll_command_line.specs.declared.subcommands.Subcommand.TheVariants as subcommand

-- a word that has to be there
abbrev pub wanted : Text → Rule
wanted name = record (new_rule name) { required = true }

-- so many words or more
abbrev pub at_least : ℕ → Rule → Rule
at_least count rule = record rule { range = Some (record { start_inclusive = count; end_inclusive = 18446744073709551615 }) }

-- a word that usage shows under another name
abbrev pub shown : Rule → Rule
shown rule = record rule { value_names = 1 }

-- the word of a table, and words of delta files, perhaps none
abbrev pub table_word : Rule
table_word = wanted (codes "TABLE")

abbrev pub delta_words : Rule
delta_words = at_least 0 (new_rule (codes "DELTA"))

-- names that are defined, perhaps none
abbrev pub name_words : Rule
name_words = at_least 0 (new_rule (codes "NAME"))

-- the words of a subcommand that takes a table and delta files
abbrev pub table_and_deltas : List Rule
table_and_deltas = table_word ∷ delta_words ∷ []

-- a table, and perhaps a delta file
abbrev pub table_and_delta : List Rule
table_and_delta = table_word ∷ new_rule (codes "DELTA") ∷ []

-- a table and two texts
abbrev pub table_and_two_texts : List Rule
table_and_two_texts = table_word ∷ wanted (codes "A") ∷ wanted (codes "B") ∷ []

-- a table, a delta file and words
abbrev pub table_and_words : List Rule
table_and_words = table_word ∷ wanted (codes "DELTA") ∷ wanted (codes "WORDS") ∷ []

-- two tables
abbrev pub two_tables : List Rule
two_tables = table_word ∷ shown (wanted (codes "OTHER")) ∷ []

-- a source, which stands in place of a table
abbrev pub source_alone : List Rule
source_alone = shown table_word ∷ name_words ∷ []

-- a table and a tailoring
abbrev pub table_and_source : List Rule
table_and_source = table_word ∷ wanted (codes "SOURCE") ∷ name_words ∷ []

-- the words that a subcommand takes
abbrev pub words_of : Subcommand → List Rule
words_of subcommand.Check = table_and_deltas
words_of subcommand.Print = table_and_deltas
words_of subcommand.Export = table_and_deltas
words_of subcommand.Compile = table_and_deltas
words_of subcommand.Key = table_word ∷ at_least 1 (wanted (codes "TEXT")) ∷ []
words_of subcommand.Compare = table_and_two_texts
words_of subcommand.Explain = table_and_two_texts
words_of subcommand.Sort = table_and_deltas
words_of subcommand.Review = table_and_words
words_of subcommand.Lint = table_and_delta
words_of subcommand.Session = table_word ∷ []
words_of subcommand.Edit = table_and_deltas
words_of subcommand.Diff = two_tables
words_of subcommand.Import = source_alone
words_of subcommand.ImportDelta = table_and_source

-- the shape of a subcommand with a name that takes these words
abbrev pub taking : Text → List Rule → Shape
taking name words = record (new_app name).top { rules = words }

-- the shape of a subcommand
abbrev pub taken_by : Subcommand → Shape
taken_by subcommand = taking (subcommand_name subcommand) (words_of subcommand)

-- the subcommands that work on a table or make one, in the order of help
unfoldable pub subcommands : List Subcommand
subcommands =
    subcommand.Import ∷ subcommand.ImportDelta ∷ subcommand.Check ∷ subcommand.Lint ∷ subcommand.Edit
    ∷ subcommand.Review ∷ subcommand.Sort ∷ subcommand.Compare ∷ subcommand.Explain ∷ subcommand.Diff ∷ subcommand.Print
    ∷ subcommand.Export ∷ subcommand.Key ∷ subcommand.Compile ∷ subcommand.Session ∷ []

-- the name of the subcommand that takes no word
abbrev pub version_name : Text
version_name = codes "version"

-- a program without its subcommands
abbrev pub bare : App
bare =
    let app = new_app (codes "collbench") in
    record app { top = record app.top { subcommand_required = true; arg_required_else_help = true } }

-- it with subcommands, one behind another
unfoldable pub with_each : App → List Subcommand → App
with_each app [] = app
with_each app (subcommand ∷ others) = with_each (with_subcommand app (taken_by subcommand)) others

-- what may stand on a command line
unfoldable pub command_line : App
command_line = with_subcommand (with_each bare subcommands) (taking version_name [])

-- an argument of a subcommand alone that reads this word
pub record ReadsWord (rule : Rule) (arg : Arg) : Type 0 where
  pub reads : rule_of arg ≡ rule
  pub local : arg.global ≡ false
