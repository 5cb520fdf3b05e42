-- No element is longer than what the table tells, or than sixteen characters.
use Rattle.std.proofs.Common.{sym, subst}
use Rattle.coll_nodes.specs.TableLayout.{collation}
use Rattle.coll_elements.specs.ElementEntries.{HasNoLonger}
use Rattle.coll_elements.proofs.ElementEntries.{at_most_sixteen}
use Rattle.coll_elements.proofs.element_entries.most_prefix.Goals as goal

pub returns : goal.returns
returns c =
    let table = collation c.args.table.now in
    subst (HasNoLonger table) (sym c.min.ensures) (at_most_sixteen table c.lemma_well_formed.ensures.well_formed c.most_element_characters.result c.most_element_characters.ensures)
