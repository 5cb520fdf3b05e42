-- What a parse found is what the words name.
use Rattle.std.proofs.Common.{List, Option, map, string_bytes, true, IfOk, IfErr, subst, ap, ◌∙◌}
use Rattle.std.proofs.lemmas.Result.{IfErr-weaker}
use Rattle.clap.specs.Words.{App, Text, takes}
use Rattle.coll_command_line.specs.CommandLine.{command_line}
use Rattle.coll_command_line.specs.Reading.{Asks, Says, named_by}
use Rattle.coll_command_line.proofs.CommandLines.{name_is, says_any}
use Rattle.coll_command_line.proofs.requests.read_by.Goals as goal

pub returns-in-Ok-clause-task : goal.returns-in-Ok-clause-task
returns-in-Ok-clause-task c is =
    subst (λ (name : Option Text). IfOk c.asked_for.result (λ request. Asks name request.task))
    (name_is (map string_bytes c.args.words.now) c.in-Ok.matches _ is c.in-Ok.ensures.ok.2) c.asked_for.ensures.task

pub returns-in-Ok-clause-unasked : goal.returns-in-Ok-clause-unasked
returns-in-Ok-clause-unasked c is =
    let words : List Text = map string_bytes c.args.words.now in
    IfErr-weaker c.asked_for.result _ _ (λ said says. says_any (takes command_line words) (named_by words) said says)
    (subst (λ (name : Option Text). IfErr c.asked_for.result (Says true name)) (name_is words c.in-Ok.matches _ is c.in-Ok.ensures.ok.2) c.asked_for.ensures.unasked)

pub returns-in-Err-clause-unasked : goal.returns-in-Err-clause-unasked
returns-in-Err-clause-unasked c is =
    let words : List Text = map string_bytes c.args.words.now in
    c.refused.ensures (takes command_line words) (named_by words) (λ pass. c.in-Err.ensures.passes (ap (λ (app : App). takes app words) is ∙ pass))
