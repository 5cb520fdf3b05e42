-- What is told of the lines, and of their weights behind that, is told of the text.
use Rattle.std.proofs.Common.{ap, false}
use Rattle.coll_texts.specs.BuilderStates.{BuilderState}
use Rattle.coll_surveys.specs.TableSurveys.{SurveyState}
use Rattle.coll_surveys.specs.declared.standings.Standing.TheVariants as stands
use Rattle.coll_surveys.proofs.TableLemmas.{all_among}
use Rattle.coll_surveys.proofs.table_surveys.survey_table.Goals as goal

pub returns-in-Ok-clause-told : goal.returns-in-Ok-clause-told
returns-in-Ok-clause-told c =
    let begun : BuilderState → SurveyState = λ (d : BuilderState). record { built = d; standing = stands.Outside; ruled = false } in
    all_among c.args.text.now c.new-2.result.told.faults.items (begun c.in_ok-new.field-0) c.take_all-taken.new.self c.into_parts-builder.result.0
    c.into_parts-builder.result.1.told.told.faults.items c.into_parts-builder.result.1.ruled c.end.result c.new-2.ensures (ap begun c.in_ok-new.ensures) c.in-Ok.ensures.told c.in-Ok.ensures.left
    c.into_parts-builder.ensures.builder c.into_parts-builder.ensures.told c.into_parts-builder.ensures.ruled c.end.ensures.told
