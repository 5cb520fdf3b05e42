-- What is told of an import: a line for each kind of change, one for each thing that is lost, and that of a fault.
use Rattle.std.specs.Prelude.{ℕ, List, [], ◌∷◌, ◌++◌, slice_get, unwrap_or, Option, Some, None, codes, decimal, encode_utf8_all}
use Rattle.std.specs.List.{flat_map}
use Rattle.coll_texts.specs.Pieces.{words_line}
use Rattle.coll_texts.specs.PrintedParts.{id_bytes}
use Rattle.coll_source_lines.specs.Adjustments.{adjustment_name, all_kinds}
use Rattle.coll_source_lines.specs.Reports.{ReportValue, tally_of}
use Rattle.coll_source_lines.specs.SourceFaults.{source_cause_number, source_cause_name}
use Rattle.coll_source_lines.specs.declared.places.SourcePlace.{SourcePlace}
use Rattle.coll_source_lines.specs.declared.adjustments.Adjustment.{Adjustment}
use Rattle.coll_source_lines.specs.declared.adjustments.Tally.{Tally}
use Rattle.coll_source_lines.specs.declared.adjustments.Loss.{Loss}
use Rattle.coll_source_lines.specs.declared.adjustments.Lost.{Lost}
use Rattle.coll_source_lines.specs.declared.adjustments.Lost.TheVariants.{Id, Word}
use Rattle.coll_source_lines.specs.declared.source_faults.SourceFault.{SourceFault}

-- the name of a text, or `-` where it has none
abbrev pub name_told : (names : List (List ℕ)) → (text : ℕ) → List ℕ
name_told names text = unwrap_or (slice_get names text) (codes "-")

-- what is told of a place: the name of its text, a colon, its line, a colon, and that
abbrev pub told_at : (names : List (List ℕ)) → SourcePlace → List ℕ → List ℕ
told_at names place told = name_told names place.text ++ (codes ":" ++ (decimal place.line ++ (codes ": " ++ told)))

-- the line of a kind of change, `FILE:LINE: adjusted NAME COUNT`, with the place where it was made first
abbrev pub adjusted_line : (names : List (List ℕ)) → Tally → List ℕ
adjusted_line names tally =
    told_at names tally.first (codes "adjusted " ++ words_line (adjustment_name tally.adjustment ∷ decimal tally.count ∷ []))

-- the line of a kind of change, if it was made
abbrev pub adjusted_if : (names : List (List ℕ)) → Option Tally → List ℕ
adjusted_if names None = []
adjusted_if names (Some tally) = adjusted_line names tally

-- the line of a kind of change, if it is among those that were made
abbrev pub told_of : (names : List (List ℕ)) → List Tally → Adjustment → List ℕ
told_of names tallies kind = adjusted_if names (tally_of tallies kind)

-- what is lost: an identifier in its canonical spelling, or a word as it is
abbrev pub lost_bytes : Lost → List ℕ
lost_bytes (Id id) = id_bytes id
lost_bytes (Word word) = encode_utf8_all word

-- the line of something that is lost, `FILE:LINE: dropped NAME IDENTIFIER`
abbrev pub dropped_line : (names : List (List ℕ)) → Loss → List ℕ
dropped_line names loss =
    told_at names loss.place (codes "dropped " ++ words_line (adjustment_name loss.adjustment ∷ lost_bytes loss.what ∷ []))

-- all that is told of an import: the kinds of change that were made, in the order of all kinds, and then what was lost
unfoldable pub report_text : (names : List (List ℕ)) → ReportValue → List ℕ
report_text names report = flat_map (told_of names report.tallies) all_kinds ++ flat_map (dropped_line names) report.losses

-- the line of a fault, `FILE:LINE: NUMBER NAME`
abbrev pub fault_line : (names : List (List ℕ)) → SourceFault → List ℕ
fault_line names fault =
    told_at names fault.place (words_line (decimal (source_cause_number fault.cause) ∷ source_cause_name fault.cause ∷ []))
