use Rattle.std.proofs.Common.{◌≡◌, length, None}
use Rattle.std.specs.List.{flat_map}
use Rattle.coll_texts.specs.BuilderStates.{entries_fault, ids_cause}
use Rattle.coll_nodes.specs.Entries.{weight_ids}
use Rattle.coll_nodes.specs.Walks.{entries_visited}
use Rattle.coll_texts.proofs.table_builder.TableBuilder.judge_visited.Given as goal

abbrev pub invariant-loop-item : goal.invariant-loop-item
invariant-loop-item l = record {
  counted : length l.numbers ≡ length (entries_visited l.item-iterator);
  left : entries_fault l.self l.numbers (entries_visited l.item-iterator) ≡ entries_fault l.self l.fn.numbers (entries_visited l.fn.walk);
  judged : ids_cause l.self.declared l.self.sections (flat_map weight_ids l.before) ≡ None;
}
