-- A line ends the session, or its request is served, and then its fault is told, which changes nothing of the session.
use Rattle.std.proofs.Common.{ℕ, List, Option, refl, ap, ◌∙◌, inl, subst, Err}
use Rattle.coll_lex.specs.LogicalLines.{LexerState}
use Rattle.coll_bench.specs.Serving.{TakesLine, lexer_of}
use Rattle.coll_edit.specs.Editing.{EditsLine, has_answered}
use Rattle.coll_edit.specs.Watching.{device_of}
use Rattle.coll_edit.proofs.EditLemmas.{edits_taken, edits_told, ends_told, on_ok}
use Rattle.coll_edit.proofs.editors.Editor.serve.Goals as goal

pub returns-in-Ok-clause-ends : goal.returns-in-Ok-clause-ends
returns-in-Ok-clause-ends g c =
    ends_told (has_answered c.serve_request-served.new.self) (has_answered c.tell_line.new.self) c.serve_request-served.result c.tell_line.ensures.answered c.serve_request-served.ensures.ends

pub returns-in-Ok-clause-served : goal.returns-in-Ok-clause-served
returns-in-Ok-clause-served g c =
    let taken = g.W.Sink.taken in
    let same = ap device_of c.in-Ok.ensures.quiet ∙ c.forget.ensures in
    let served = c.serve_request-served in
    edits_told c.args.self.now served.new.self c.tell_line.new.self c.args.line.now (taken (device_of c.args.output.now)) (taken (device_of served.new.output)) served.result
    c.tell_line.ensures.run c.tell_line.ensures.answered
    (subst (λ (t : Option (List ℕ)). EditsLine c.args.self.now served.new.self c.args.line.now t (taken (device_of served.new.output)) served.result) (ap taken same)
    (edits_taken c.args.self.now (record c.args.self.now { run = c.take.new.self }) served.new.self c.args.line.now c.in-Ok.request (taken (device_of c.take.new.output))
    (taken (device_of served.new.output)) served.result
    c.in-Ok.ensures.taken refl served.ensures.parser served.ensures.block served.ensures.served))

pub returns-in-Err-clause-served : goal.returns-in-Err-clause-served
returns-in-Err-clause-served g c =
    let taken = g.W.Sink.taken in
    inl (
      refl,
      subst (λ (t : Option (List ℕ)). TakesLine c.args.self.now.run c.take.new.self c.args.line.now t (taken (device_of c.take.new.output)) (Err c.in-Err.ended)) (ap taken c.forget.ensures)
          c.in-Err.ensures.taken,
    )

pub returns-in-Ok-clause-counts : goal.returns-in-Ok-clause-counts
returns-in-Ok-clause-counts g c =
    on_ok c.serve_request-served.result
    (ap (λ (x : LexerState). x.count) (ap lexer_of c.tell_line.ensures.run ∙ c.serve_request-served.ensures.parser) ∙ c.in-Ok.ensures.counts)

pub returns-in-Ok-clause-room : goal.returns-in-Ok-clause-room
returns-in-Ok-clause-room g c = on_ok c.serve_request-served.result c.in-Ok.ensures.room
