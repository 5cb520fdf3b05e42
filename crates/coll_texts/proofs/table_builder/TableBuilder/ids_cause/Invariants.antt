use Rattle.std.proofs.Common.{◌≡◌, drop}
use Rattle.coll_texts.specs.BuilderStates.{ids_cause}
use Rattle.coll_texts.proofs.table_builder.TableBuilder.ids_cause.Given as goal

abbrev pub invariant-loop-id : goal.invariant-loop-id
invariant-loop-id l = ids_cause l.self.declared l.self.sections (drop l.id-index l.ids) ≡ ids_cause l.self.declared l.self.sections l.ids
