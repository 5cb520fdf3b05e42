use Rattle.std.proofs.Common.{ap, ◌∙◌}
use Rattle.std.proofs.lemmas.Bool.Decides.{Decides-at}
use Rattle.coll_delta_texts.specs.Writable.{is_copy_name}
use Rattle.coll_delta_texts.proofs.WritableTests.{is_copy_name_tells}
use Rattle.coll_delta_texts.proofs.writable.is_copy_name.Goals as goal

pub returns-clause-tells : goal.returns-clause-tells
returns-clause-tells c = Decides-at _ _ (c.can_copy.ensures ∙ ap is_copy_name c.get.ensures.characters) (is_copy_name_tells c.args.name.now)
