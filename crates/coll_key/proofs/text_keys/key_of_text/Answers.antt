-- The key of a text has the form of a key.
use Rattle.std.proofs.Common.{◌∙◌, chars, ap}
use Rattle.coll_nodes.specs.TableLayout.{collation}
use Rattle.coll_key.specs.WrittenKey.{has_key_form}
use Rattle.coll_key.proofs.KeyForm.{key_form}
use Rattle.coll_key.proofs.text_keys.key_of_text.Goals as goal

pub returns-clause-form : goal.returns-clause-form
returns-clause-form c =
    let table = collation c.args.table.now in
    ap (has_key_form table.rules) c.in_ok-key.ensures ∙ key_form table c.lemma_well_formed.ensures.well_formed (chars c.args.text.now)
