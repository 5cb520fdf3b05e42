use Rattle.std.proofs.Common.{◌≡◌, drop}
use Rattle.std.specs.List.{flat_map}
use Rattle.coll_texts.specs.BuilderStates.{ids_cause}
use Rattle.coll_nodes.specs.Entries.{weight_ids}
use Rattle.coll_texts.proofs.table_builder.TableBuilder.weights_cause.Given as goal

abbrev pub invariant-loop-level : goal.invariant-loop-level
invariant-loop-level l = ids_cause l.self.declared l.self.sections (flat_map weight_ids (drop l.level l.weights)) ≡ ids_cause l.self.declared l.self.sections (flat_map weight_ids l.weights)
