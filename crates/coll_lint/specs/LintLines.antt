-- How what a lint tells is written: a line for each fault, and behind them a line for each kind of warnings (the project's own).
use Rattle.std.specs.Prelude.{ℕ, List, [], ◌∷◌, ◌++◌, Option, Some, None, option_copied, codes, decimal}
use Rattle.std.specs.List.{flat_map}
use Rattle.coll_devices.specs.PhysicalLines.{line_feed}
use Rattle.coll_syntax.specs.declared.identifiers.Id.{Id}
use Rattle.coll_texts.specs.PrintedParts.{id_bytes, symbol_bytes}
use Rattle.coll_faults.specs.Faults.{fault_number, fault_name}
use Rattle.coll_bench.specs.Reports.{named}
use Rattle.coll_findings.specs.declared.findings.About.{About}
use Rattle.coll_findings.specs.declared.findings.About.TheVariants as about
use Rattle.coll_findings.specs.declared.findings.FoundFault.{FoundFault}
use Rattle.coll_lint.specs.WarningLines.{warnings_text}
use Rattle.coll_lint.specs.declared.lints.Lint.{Lint}
use Rattle.coll_findings.specs.declared.foreign_words.ForeignWord.{ForeignWord}

-- what to do
abbrev pub sentence_told : (sentence : List ℕ) → List ℕ
sentence_told sentence = codes ": " ++ (sentence ++ line_feed ∷ [])

-- a keyword of another dialect, if there is one, and what to write instead
abbrev pub meant_told : (theirs : Option (List ℕ)) → (ours : List ℕ) → List ℕ
meant_told None ours = sentence_told ours
meant_told (Some theirs) ours = codes " " ++ (theirs ++ sentence_told ours)

-- a keyword of another dialect, and what to write instead; or what is meant by a mistyped keyword
abbrev pub word_told : ForeignWord → List ℕ
word_told word = meant_told (option_copied word.theirs) word.ours.now

-- an identifier, what to do, and a declared name that is near to it, if one is
abbrev pub subject_told : (sentence : List ℕ) → Id → (near : Option (List ℕ)) → List ℕ
subject_told sentence id None = codes " " ++ (id_bytes id ++ sentence_told sentence)
subject_told sentence id (Some near) =
    codes " " ++ (id_bytes id ++ (codes ": " ++ (sentence ++ (codes "; is " ++ (symbol_bytes near ++ codes " meant?\n")))))

-- what stands behind the number and the name of a fault: the identifier that it is about, and what to do; or a keyword of another
-- dialect, and what to write instead
abbrev pub about_told : (sentence : List ℕ) → About → List ℕ
about_told sentence about.Nothing = sentence_told sentence
about_told sentence (about.Id id near) = subject_told sentence id near
about_told sentence (about.Word word) = word_told word

-- where a fault stands, its number and its name
abbrev pub fault_head : (names : List (List ℕ)) → FoundFault → List ℕ
fault_head names found =
    named names found.fault.input ++ (codes ":" ++ (decimal found.line ++ (codes ": " ++ (decimal (fault_number found.fault.fault)
    ++ (codes " " ++ fault_name found.fault.fault)))))

-- the line of a fault
abbrev pub found_line : (names : List (List ℕ)) → FoundFault → List ℕ
found_line names found = fault_head names found ++ about_told found.sentence.now found.about

-- the line that says of an input that more isn't told, if there is more
abbrev pub more_line : (names : List (List ℕ)) → (told : List ℕ) → Option ℕ → List ℕ
more_line names told None = []
more_line names told (Some input) = named names input ++ told

-- the lines of faults
abbrev pub faults_text : (names : List (List ℕ)) → Lint → List ℕ
faults_text names lint =
    flat_map (found_line names) lint.faults ++ more_line names (codes ": more faults aren't told\n") lint.more_faults

-- all that is written of what a lint tells: the faults, and then the warnings
unfoldable pub lint_text : (names : List (List ℕ)) → Lint → List ℕ
lint_text names lint = faults_text names lint ++ warnings_text names lint.warnings
