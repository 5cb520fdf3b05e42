-- The statements of the file lead to where they stand behind those that remained.
use Rattle.coll_edit.proofs.editors.Editor.put_delta.Goals as goal

pub returns-in-Ok-clause-put : goal.returns-in-Ok-clause-put
returns-in-Ok-clause-put g c text is = (c.in-Ok.ensures.reaches text is).puts

pub returns-in-Ok-clause-unserved : goal.returns-in-Ok-clause-unserved
returns-in-Ok-clause-unserved g c text is = (c.in-Ok.ensures.reaches text is).unserved
