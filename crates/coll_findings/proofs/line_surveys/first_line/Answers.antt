-- What a line feed ends is the first line, and so is a text without one.
use Rattle.std.proofs.Common.{◌+◌, ◌∷◌, ◌∙◌, ap, rules, sym, take}
use Rattle.coll_devices.specs.PhysicalLines.{lines_of}
use Rattle.coll_devices.proofs.PhysicalLinesLemmas.{lines_of-part, lines_of-nil}
use Rattle.coll_findings.proofs.HandedLemmas.{ended_at, in_line, none_behind, to_the_end}
use Rattle.coll_findings.proofs.line_surveys.first_line.Goals as goal

pub returns-in-Some-clause-lines : goal.returns-in-Some-clause-lines
returns-in-Some-clause-lines c =
    let text = c.args.text.now in
    let end = c.in-Some.end in
    ended_at text end c.in-Some.ensures.within c.in-Some.ensures.found c.in-Some.ensures.first ∙ ap (λ l. take end text ∷ lines_of l) (sym (to_the_end text (end + 1)))

pub returns-in-None-clause-lines : goal.returns-in-None-clause-lines
returns-in-None-clause-lines c =
    let text = c.args.text.now in
    lines_of-part text (search rules) (in_line text c.in-None.ensures.none) ∙ ap (λ l. text ∷ l) (sym lines_of-nil ∙ ap lines_of (sym (none_behind text)))
