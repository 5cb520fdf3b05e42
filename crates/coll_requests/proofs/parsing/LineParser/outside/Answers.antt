-- A line before the category leaves no logical line open.
use Rattle.coll_requests.proofs.ParsingLemmas.{opens_as_none, outside_drops}
use Rattle.coll_requests.proofs.parsing.LineParser.outside.Goals as goal

pub invariant_of-self : goal.invariant_of-self
invariant_of-self c =
    opens_as_none c.outside.new.self c.self.inside.opening
    (outside_drops c.self.inside.lexer c.outside.new.self c.args.line.now c.outside.result c.outside.ensures.ok c.outside.ensures.dropped)
