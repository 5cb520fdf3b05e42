-- The place behind all entries, and the last of them.
use Rattle.std.proofs.Common.{◌+◌, ap, ap₂, arith, refl}
use Rattle.coll_nodes.specs.Table.{entries_of}
use Rattle.coll_nodes.specs.TableLayout.{collation}
use Rattle.coll_edit_replies.proofs.ShowingLemmas.{spot_last}
use Rattle.coll_edit_replies.proofs.showing.spot_of_absent.Goals as goal

pub overflow_add-result : goal.overflow_add-result
overflow_add-result c = omega (arith, c.len.ensures, c.lemma_well_formed.ensures.well_formed.built.few_entries)

pub returns-in-None-clause-around : goal.returns-in-None-clause-around
returns-in-None-clause-around c = spot_last (entries_of (collation c.args.table.now)) (c.len.result + 1) _ (ap (λ n. n + 1) c.len.ensures) c.last_entry.ensures
