-- A request is answered by `edit`, or as the session does.
use Rattle.std.proofs.Common.{ap, inl, inr, ◌∙◌}
use Rattle.coll_bench.specs.Serving.{history_of}
use Rattle.coll_edit.proofs.editors.Editor.serve_request.Goals as goal

pub returns-in-Ok-clause-ends : goal.returns-in-Ok-clause-ends
returns-in-Ok-clause-ends g c = λ _. c.answer_own.ensures.answered ∙ c.next_behind-next.ensures.answered

pub returns-in-Ok-clause-served : goal.returns-in-Ok-clause-served
returns-in-Ok-clause-served g c =
    inr (c.answer_own.ensures.answered ∙ c.next_behind-next.ensures.answered, c.in-Some.ensures.left, c.answer_own.ensures.history ∙ ap history_of c.next_behind-next.ensures.run)

pub returns-in-Err-clause-served : goal.returns-in-Err-clause-served
returns-in-Err-clause-served g c =
    inr (c.answer_own.ensures.answered ∙ c.next_behind-next.ensures.answered, c.in-Some.ensures.left, c.answer_own.ensures.history ∙ ap history_of c.next_behind-next.ensures.run)

pub returns-in-Ok-answer_asked-clause-served : goal.returns-in-Ok-answer_asked-clause-served
returns-in-Ok-answer_asked-clause-served g c =
    let (starved, sent, history) = c.in-Ok-answer_asked.ensures.answered in
    inl (c.answer_asked.ensures.unanswered, starved, sent, history)

pub returns-in-Err-answer_asked-clause-served : goal.returns-in-Err-answer_asked-clause-served
returns-in-Err-answer_asked-clause-served g c =
    let (starved, sent, history) = c.in-Err-answer_asked.ensures.answered in
    inl (c.answer_asked.ensures.unanswered, starved, (c.write_failed-in-Err-answer_asked.ensures.fault, sent), history)
