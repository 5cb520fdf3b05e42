-- How warnings are written: a line for each kind of them in a text (the project's own).
use Rattle.std.specs.Prelude.{ℕ, nat_lt, Bool, true, false, if◌then◌else◌, List, [], ◌∷◌, ◌++◌, length, Option, Some, None, codes, decimal}
use Rattle.std.specs.List.{concat, flat_map}
use Rattle.coll_syntax.specs.declared.identifiers.Id.{Id}
use Rattle.coll_texts.specs.PrintedParts.{id_bytes}
use Rattle.coll_bench.specs.Reports.{named}
use Rattle.coll_lint.specs.Counts.{with_commas}
use Rattle.coll_lint.specs.declared.warning_lines.KindLine.{KindLine}
use Rattle.coll_lint.specs.declared.warning_lines.KindLine.TheVariants as kind
use Rattle.coll_findings.specs.declared.warnings.Warned.{Warned}
use Rattle.coll_findings.specs.declared.warnings.WarnedKind.{WarnedKind}
use Rattle.coll_findings.specs.declared.warnings.Warning.{Warning}
use Rattle.coll_findings.specs.declared.warnings.Warning.TheVariants as warning
use Rattle.coll_findings.specs.declared.warnings.Warnings.{Warnings}

-- what a warning says that is the only one of its kind, behind the name that it is about, if it is about one
abbrev pub alone_told : Warning → List ℕ
alone_told warning.CopyWithoutEffect =
    codes "copy has no effect in a delta file: make one of its source by collbench import-delta, if this isn't one\n"
alone_told warning.ScriptWithoutEffect = codes "script has no effect: leave it out\n"
alone_told warning.SymbolNeverPlaced = codes " is declared and never placed: place it, or drop its declaration\n"
alone_told warning.ElementNeverPlaced = codes " is declared and never placed: place it, or drop its declaration\n"
alone_told warning.ChangesNothing = codes "this changes nothing: the table is so already\n"
alone_told warning.PercentSign = codes "% begins no comment here, but is a character; behind a line comment_char % it does\n"
alone_told warning.LacksWeights = codes " lacks weights for more levels than the last, and weighs as itself there: give it one for each level\n"
alone_told warning.SortsElsewhere =
    codes " doesn't sort where it stands: its first weight is neither that of the entry before it nor directly behind that, so give it weights that begin so, or put the symbol that it weighs as behind that of the entry before\n"
alone_told warning.SymbolElsewhere =
    codes " doesn't sort where it stands: put it behind the symbol that the entry before it weighs as\n"

-- what several warnings of a kind say, before how many they are
abbrev pub several_told : Warning → List ℕ
several_told warning.CopyWithoutEffect = codes "copy has no effect in a delta file, make one of its source by collbench import-delta: "
several_told warning.ScriptWithoutEffect = codes "script has no effect, leave it out: "
several_told warning.SymbolNeverPlaced = codes "declared and never placed: "
several_told warning.ElementNeverPlaced = codes "declared and never placed: "
several_told warning.ChangesNothing = codes "this changes nothing, the table is so already: "
several_told warning.PercentSign = codes "% begins no comment here, but is a character, behind a line comment_char % it does: "
several_told warning.LacksWeights =
    codes "weights lack for more levels than the last, and the entries weigh as themselves there, give them one for each level: "
several_told warning.SortsElsewhere =
    codes "entries don't sort where they stand, as their first weights are neither those of the entries before them nor directly behind those, so give them weights that begin so, or put the symbols that they weigh as behind those of the entries before: "
several_told warning.SymbolElsewhere =
    codes "symbols don't sort where they stand, put each behind the symbol that the entry before it weighs as: "

-- what is counted, and what leads to the first of them
abbrev pub noun_told : Warning → List ℕ
noun_told warning.CopyWithoutEffect = codes " times, in lines"
noun_told warning.ScriptWithoutEffect = codes " times, in lines"
noun_told warning.SymbolNeverPlaced = codes " symbols, as"
noun_told warning.ElementNeverPlaced = codes " elements, as"
noun_told warning.ChangesNothing = codes " statements, in lines"
noun_told warning.PercentSign = codes " times, in lines"
noun_told warning.LacksWeights = codes " lines, as"
noun_told warning.SortsElsewhere = codes " lines, as"
noun_told warning.SymbolElsewhere = codes " lines, as"

-- an identifier, if there is one
abbrev pub id_told : Option Id → List ℕ
id_told None = []
id_told (Some id) = id_bytes id

-- the line of a warning that is the only one of its kind
abbrev pub alone_line : (name : List ℕ) → Warning → Warned → List ℕ
alone_line name warning only =
    name ++ (codes ":" ++ (decimal only.line ++ (codes ": warning: " ++ (id_told only.id ++ alone_told warning))))

-- warnings of a kind that are about names count lines
abbrev pub counts_lines : Warning → Bool
counts_lines warning.CopyWithoutEffect = false
counts_lines warning.ScriptWithoutEffect = false
counts_lines warning.SymbolNeverPlaced = false
counts_lines warning.ElementNeverPlaced = false
counts_lines warning.ChangesNothing = false
counts_lines warning.PercentSign = false
counts_lines warning.LacksWeights = true
counts_lines warning.SortsElsewhere = true
counts_lines warning.SymbolElsewhere = true

-- what stands for one of several of a kind: the identifier that it is about, with its line where lines are counted, or else its line
abbrev pub one_of : Warning → (line : ℕ) → Option Id → List ℕ
one_of warning line None = decimal line
one_of warning line (Some id) =
    if counts_lines warning then id_bytes id ++ (codes " (line " ++ (decimal line ++ codes ")")) else id_bytes id

-- one of several of a kind, behind a space
abbrev pub one_told : Warning → Warned → List ℕ
one_told warning one = codes " " ++ one_of warning one.line one.id

-- the end of a line in which so many of a kind stand: two dots, where there are more
abbrev pub line_end : (told count : ℕ) → List ℕ
line_end told count = if nat_lt told count then codes " ..\n" else codes "\n"

-- the first of so many of a kind, to the end of the line
abbrev pub firsts_told : Warning → (count : ℕ) → List Warned → List ℕ
firsts_told warning count firsts = flat_map (one_told warning) firsts ++ line_end (length firsts) count

-- of several warnings of a kind, what they say, how many they are, and what is counted
abbrev pub several_head : (name : List ℕ) → Warning → (count : ℕ) → List ℕ
several_head name warning count =
    name ++ (codes ": warning: " ++ (several_told warning ++ (with_commas count ++ noun_told warning)))

-- the line of the warnings of a kind, of which these are the first: none where there are none
abbrev pub firsts_line : (name : List ℕ) → Warning → (count : ℕ) → (firsts : List Warned) → List ℕ
firsts_line name warning count [] = []
firsts_line name warning count (only ∷ []) = alone_line name warning only
firsts_line name warning count (first ∷ second ∷ later) =
    several_head name warning count ++ firsts_told warning count (first ∷ second ∷ later)

-- the line of the warnings of a kind, if there are any
abbrev pub kind_line : (name : List ℕ) → Warning → WarnedKind → List ℕ
kind_line name warning kind = firsts_line name warning kind.count kind.firsts.items

-- the line that says of a text that a byte order mark stands at its beginning, if one does
abbrev pub mark_line : (name : List ℕ) → Bool → List ℕ
mark_line name stands =
    if stands then name ++ codes ":1: warning: a byte order mark stands at the beginning: save the text without it\n" else []

-- the line of a mark, or of a kind
abbrev pub line_told : KindLine → List ℕ
line_told (kind.Mark name stands) = mark_line name.now stands
line_told (kind.Kind name warning kind) = kind_line name.now warning kind.now

-- the lines of warnings: those of the text that was surveyed, kind by kind, and then that of the table that a delta file is for
abbrev pub warnings_text : (names : List (List ℕ)) → Warnings → List ℕ
warnings_text names warnings =
    let name = named names warnings.input in
    concat (
    mark_line name warnings.mark
    ∷ kind_line name warning.CopyWithoutEffect warnings.copies
    ∷ kind_line name warning.ScriptWithoutEffect warnings.scripts
    ∷ kind_line name warning.SymbolNeverPlaced warnings.symbols
    ∷ kind_line name warning.ElementNeverPlaced warnings.elements
    ∷ kind_line name warning.ChangesNothing warnings.unchanged
    ∷ kind_line name warning.PercentSign warnings.percents
    ∷ kind_line name warning.LacksWeights warnings.lacking
    ∷ kind_line name warning.SortsElsewhere warnings.elsewhere
    ∷ kind_line name warning.SymbolElsewhere warnings.symbols_elsewhere
    ∷ mark_line (named names 0) warnings.table_mark
    ∷ []
    )
