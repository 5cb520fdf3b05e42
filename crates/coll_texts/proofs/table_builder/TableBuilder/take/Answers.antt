-- Where a line that is accepted ends the category the table is well formed.
use Rattle.std.proofs.Common.{◌≡◌, true}
use Rattle.coll_texts.specs.BuilderStates.{is_end}
use Rattle.coll_texts.proofs.EndedStates.{well_formed_after}
use Rattle.coll_texts.proofs.table_builder.TableBuilder.take.Goals as goal

pub returns-clause-well_formed : goal.returns-clause-well_formed
returns-clause-well_formed c = λ _.
    let ends : is_end c.args.line ≡ true = cc in
    well_formed_after c.args.self.now c.keep.new.self c.args.number c.args.line ends c.in-Ok.ensures.ok c.in-Ok.ensures.after c.in_ok-judge_weights.ensures.ok c.lemma_sound.ensures
