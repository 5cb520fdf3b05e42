-- What stands before the entry at a place.
use Rattle.std.proofs.Common.{sym, ap, ◌∙◌}
use Rattle.std.specs.Prelude.{option_copied}
use Rattle.coll_nodes.specs.Beside.{entry_before}
use Rattle.coll_nodes.specs.Table.{entries_of}
use Rattle.coll_nodes.specs.TableLayout.{collation}
use Rattle.coll_edit_replies.proofs.ShowingLemmas.{before_some, before_none}
use Rattle.coll_edit_replies.proofs.showing.entry_before.Goals as goal

pub returns-in-Some : goal.returns-in-Some
returns-in-Some c place within at =
    let entries = entries_of (collation c.args.table.now) in
    c.entry_before.ensures ∙ (ap (entry_before entries) c.id.ensures ∙ before_some entries place c.in-Some.entry.now c.lemma_well_formed.ensures.well_formed.built.distinct_entries (sym (ap option_copied c.in-Some.is) ∙ at))

pub returns-in-None : goal.returns-in-None
returns-in-None c place within at = before_none (entries_of (collation c.args.table.now)) place within (sym (ap option_copied c.in-None.is) ∙ at)
