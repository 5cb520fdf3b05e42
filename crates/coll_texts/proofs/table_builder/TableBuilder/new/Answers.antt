-- A builder before the first line is what no lines say.
use Rattle.std.proofs.Common.{rules}
use Rattle.coll_texts.specs.BuilderStates.{state_of}
use Rattle.coll_texts.proofs.table_builder.TableBuilder.new.Goals as goal

pub returns : goal.returns
unfolding state_of
returns c = search rules
