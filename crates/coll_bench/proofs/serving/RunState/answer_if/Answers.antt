use Rattle.coll_bench.proofs.ServingLemmas.{takes_one, takes_none}
use Rattle.coll_bench.proofs.serving.RunState.answer_if.Goals as goal

pub returns-in-Some-clause-answered : goal.returns-in-Some-clause-answered
returns-in-Some-clause-answered g c =
    let taken = g.W.Sink.taken in
    rw c.in-Some.is (takes_one c.args.self.now.session.history c.answer.new.session.history c.in-Some.request (taken c.args.output.now) (taken c.answer.new.out) c.answer.result
    c.answer.ensures.answered)

pub returns-in-None-clause-answered : goal.returns-in-None-clause-answered
returns-in-None-clause-answered g c = rw c.in-None.is (takes_none c.args.self.now.session.history (g.W.Sink.taken c.args.output.now))
