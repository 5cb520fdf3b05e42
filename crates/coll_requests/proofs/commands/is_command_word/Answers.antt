-- The characters taken from the text, one after another, are the characters that it has.
use Rattle.std.proofs.Common.{sym, ◌∙◌}
use Rattle.coll_requests.proofs.CommandLemmas.{command_of_two, command_of_one}
use Rattle.coll_requests.proofs.commands.is_command_word.Goals as goal

pub returns-in-Some-next : goal.returns-in-Some-next
returns-in-Some-next c = command_of_two _ _ _ _ _ c.utf8.text (sym c.chars-rest.ensures.rest ∙ c.in-Some.ensures.steps.0) c.in-Some-next.ensures.steps.0

pub returns-in-None : goal.returns-in-None
returns-in-None c = command_of_one _ _ _ c.utf8.text (sym c.chars-rest.ensures.rest ∙ c.in-Some.ensures.steps.0) c.in-None.ensures.steps.0.0
