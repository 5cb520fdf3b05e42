-- What is parsed of a line is proper, and so is what requests state: their names are names, and their lists within the limits.
use Rattle.coll_syntax.specs.Proper.{IsId, IsProperLine, IsProper}
use Rattle.coll_requests.specs.declared.session_lines.StandaloneLine.{StandaloneLine}
use Rattle.coll_requests.specs.declared.session_lines.StandaloneLine.TheVariants as standalone
use Rattle.coll_requests.specs.declared.session_lines.Parsed.{Parsed}
use Rattle.coll_requests.specs.declared.session_lines.Parsed.TheVariants as parsed
use Rattle.coll_requests.specs.declared.requests.Request.{Request}
use Rattle.coll_requests.specs.declared.requests.Request.TheVariants as kind

-- the statement of a line that no block takes, if it has one, is proper
abbrev pub IsProperStandalone : StandaloneLine → Type 0
IsProperStandalone (standalone.Statement s) = IsProper s
IsProperStandalone standalone.NoEffect = Unit {0}
IsProperStandalone standalone.EndsCategory = Unit {0}

-- the target, the order line or the statement of a line, if it has one, is proper
abbrev pub IsProperParsed : Parsed → Type 0
IsProperParsed (parsed.Stops f) = Unit {0}
IsProperParsed (parsed.Refused o f) = Unit {0}
IsProperParsed (parsed.Command c) = Unit {0}
IsProperParsed (parsed.BadCommand f) = Unit {0}
IsProperParsed (parsed.BlockStart target) = IsId target
IsProperParsed parsed.BlockEnd = Unit {0}
IsProperParsed (parsed.OrderLine order) = IsProperLine order
IsProperParsed (parsed.Standalone a) = IsProperStandalone a

-- the statement of a request, if it has one, is proper
abbrev pub IsProperRequest : Request → Type 0
IsProperRequest (kind.Command c) = Unit {0}
IsProperRequest (kind.Statement s) = IsProper s
IsProperRequest (kind.Refused f) = Unit {0}
