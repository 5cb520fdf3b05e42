-- What was parsed is taken; memory was refused to the line once, if at all.
use Rattle.std.proofs.Common.{true, sym, ap, ◌∙◌}
use Rattle.coll_requests.specs.Taking.{stop_at}
use Rattle.coll_requests.proofs.LineStops.{parsed_ends}
use Rattle.coll_requests.proofs.PhysicalTaking.{physical_none, physical_taken}
use Rattle.coll_requests.proofs.parsing.LineParser.take.Goals as goal

pub returns-in_default-clause-taken : goal.returns-in_default-clause-taken
returns-in_default-clause-taken c = physical_none c.in_default.ensures.parsed.0 c.args.self.now c.parse.new.self c.args.line.now c.args.block.now c.in_default.ensures.parsed.1

pub returns-in-None-clause-taken : goal.returns-in-None-clause-taken
returns-in-None-clause-taken c =
    let taken = c.take_line.ensures.taken in
    physical_taken c.in-Some.ensures.parsed.0 taken.0 c.args.self.now c.parse.new.self c.args.line.now c.in-Some.parsing c.args.block.now c.take_line.new.block c.take_line.result
    c.in-Some.ensures.parsed.1 c.in-Some.ensures.opening (sym c.stop.ensures ∙ c.in-None.is) taken.1

pub returns-in-Some-stop-clause-ends : goal.returns-in-Some-stop-clause-ends
returns-in-Some-stop-clause-ends c =
    let parses = c.in-Some.ensures.parsed in
    parsed_ends true parses.0 c.args.self.now c.args.line.now c.in-Some-stop.fault (ap stop_at (sym parses.1.parsed_is) ∙ (sym c.stop.ensures ∙ c.in-Some-stop.is))
