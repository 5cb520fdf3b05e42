-- What stands behind the entry at a place.
use Rattle.std.proofs.Common.{sym, ap, ◌∙◌}
use Rattle.std.specs.Prelude.{option_copied}
use Rattle.coll_nodes.specs.Beside.{entry_behind}
use Rattle.coll_nodes.specs.Table.{entries_of}
use Rattle.coll_nodes.specs.TableLayout.{collation}
use Rattle.coll_edit_replies.proofs.ShowingLemmas.{behind_some, behind_none}
use Rattle.coll_edit_replies.proofs.showing.entry_behind.Goals as goal

pub returns-in-Some : goal.returns-in-Some
returns-in-Some c place some at =
    let entries = entries_of (collation c.args.table.now) in
    c.entry_behind.ensures ∙ (ap (entry_behind entries) c.id.ensures ∙ behind_some entries place c.in-Some.entry.now c.lemma_well_formed.ensures.well_formed.built.distinct_entries (sym (ap option_copied c.in-Some.is) ∙ at))

pub returns-in-None : goal.returns-in-None
returns-in-None c place some at = behind_none (entries_of (collation c.args.table.now)) place some (sym (ap option_copied c.in-None.is) ∙ at)
