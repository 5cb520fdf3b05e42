-- The parts are those of the layout.
use Rattle.coll_texts.proofs.body_builder.BodyBuilder.into_body.Goals as goal

pub returns : goal.returns
returns c = c.self.view_is
