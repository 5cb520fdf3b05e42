-- The tally that is found is the first of its kind.
use Rattle.std.proofs.Common.{List, ap, ◌∙◌, rules}
use Rattle.std.proofs.lemmas.Iterator.{YieldsList-from_slice}
use Rattle.std.proofs.lemmas.Iterator.Search.{find_from_yields_List}
use borrow.Author.Tests.{tests}
use Rattle.coll_source_lines.specs.declared.adjustments.Tally.{Tally}
use Rattle.coll_source_lines.specs.Reports.{is_of, tally_of}
use Rattle.coll_source_lines.proofs.adjustments.Report.tally.Goals as goal

pub returns-clause-tally : goal.returns-clause-tally
returns-clause-tally c =
    let found = find_from_yields_List (is_of c.args.adjustment) _ _ c.find.result c.find.ensures.ran (YieldsList-from_slice c.deref.result.now c.iter.ensures.rest)
    (λ x b q k. search (rules, tests)) in
    rw (← c.self.view_is) (c.copied.ensures ∙ found ∙ ap (λ (tallies : List Tally). tally_of tallies c.args.adjustment) c.deref.ensures.value)
