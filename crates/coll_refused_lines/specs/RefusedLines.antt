-- What is told of a fault that ended a run, below its line: what stands where it is, with a mark, and what to do (the project's own).
use Rattle.std.specs.Prelude.{◌≡◌, ℕ, ◌<◌, List, [], ◌∷◌, ◌++◌, length, Option, Some, None, codes, decimal, string_bytes}
use Rattle.coll_devices.specs.Limits.{most_line_bytes}
use Rattle.coll_devices.specs.PhysicalLines.{line_feed}
use Rattle.coll_texts.specs.PrintedParts.{symbol_bytes}
use Rattle.coll_findings.specs.declared.findings.About.{About}
use Rattle.coll_findings.specs.declared.findings.About.TheVariants as about
use Rattle.coll_refused_lines.specs.MarkedLines.{margin_below, mark_line, shown_line}
use Rattle.coll_refused_lines.specs.NumberedLines.{IsLineAt}
use Rattle.coll_refused_lines.specs.declared.marked_lines.MarkedLine.{MarkedLine}
use Rattle.coll_refused_lines.specs.declared.refused_lines.RefusedLine.{RefusedLine}

-- this part of a line is all of it, or so many of its first bytes
pub record IsFirstPart (most : ℕ) (line part : List ℕ) : Type 0 where
  pub cut : List ℕ
  pub is : line ≡ part ++ cut
  pub whole : length part < most → cut ≡ []

-- what is shown is the line of a text that has its number, no more bytes of it than a line may have, with a mark under a part of it
pub record IsOfLine (text : List ℕ) (shown : MarkedLine) : Type 0 where
  pub bytes : List ℕ
  pub before : List ℕ
  pub marked : List ℕ
  pub after : List ℕ
  pub line : IsLineAt text shown.number bytes
  pub parts : IsFirstPart most_line_bytes bytes (before ++ (marked ++ after))
  pub is : string_bytes shown.shown ≡ shown_line before marked after
  pub below : shown.mark.items ≡ mark_line before marked after
  pub margin : shown.margin.items ≡ margin_below shown.number

-- a line with its number, and below it the mark
abbrev pub shown_told : Option MarkedLine → List ℕ
shown_told None = []
shown_told (Some line) =
    codes "  " ++ (decimal line.number ++ (codes " | " ++ (string_bytes line.shown ++ (codes "\n"
    ++ (line.margin.items ++ (codes "| " ++ (line.mark.items ++ line_feed ∷ [])))))))

-- what to do
abbrev pub what_to_do : (sentence : List ℕ) → List ℕ
what_to_do sentence = sentence ++ line_feed ∷ []

-- what to do, and a declared name that is near
abbrev pub near_told : (sentence near : List ℕ) → List ℕ
near_told sentence near = sentence ++ (codes "; is " ++ (symbol_bytes near ++ codes " meant?\n"))

-- what to do where a fault is about this
abbrev pub advice_told : (sentence : List ℕ) → About → List ℕ
advice_told sentence about.Nothing = what_to_do sentence
advice_told sentence (about.Id id None) = what_to_do sentence
advice_told sentence (about.Id id (Some near)) = near_told sentence near
advice_told sentence (about.Word word) = what_to_do word.ours.now

-- all that is told of a fault below its line
unfoldable pub refused_text : RefusedLine → List ℕ
refused_text refused = shown_told refused.shown ++ advice_told refused.sentence.now refused.about
