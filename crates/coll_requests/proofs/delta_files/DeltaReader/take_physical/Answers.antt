-- What was parsed is what the lexer says, unless it is refused for lack of memory.
use Rattle.std.proofs.Common.{None}
use Rattle.coll_requests.specs.DeltaReading.{DeltaState}
use Rattle.coll_requests.proofs.DeltaTaking.{spared_whole, physical_by, physical_given, physical_refused, physical_takes}
use Rattle.coll_requests.proofs.delta_files.DeltaReader.take_physical.Goals as goal

pub returns-in-None-clause-ok : goal.returns-in-None-clause-ok
returns-in-None-clause-ok c =
    let i = c.self.inside in
    let s : DeltaState = record { lexer = i.parser; begun = i.begun; ended = i.ended; block = i.block; fault = i.fault } in
    let parses = c.in-None.ensures.parsed in
    rw (← c.self.view_is) (physical_by s c.parse.new.self c.args.line.now None (spared_whole s.block parses.0 s.lexer c.parse.new.self c.args.line.now None parses.1 tt))

pub returns-in-Some-clause-ok : goal.returns-in-Some-clause-ok
returns-in-Some-clause-ok c =
    let i = c.self.inside in
    let s : DeltaState = record { lexer = i.parser; begun = i.begun; ended = i.ended; block = i.block; fault = i.fault } in
    let parses = c.in-Some.ensures.parsed in
    rw (← c.self.view_is) (physical_given s parses.0 c.parse.new.self c.args.line.now c.in-Some.parsing.line parses.1 c.take_logical.new.self c.take_logical.result c.take_logical.ensures.served
    c.take_logical.ensures.ok)

pub returns-in-Some-clause-err : goal.returns-in-Some-clause-err
returns-in-Some-clause-err c =
    let i = c.self.inside in
    let s : DeltaState = record { lexer = i.parser; begun = i.begun; ended = i.ended; block = i.block; fault = i.fault } in
    let parses = c.in-Some.ensures.parsed in
    rw (← c.self.view_is) (physical_refused s parses.0 c.parse.new.self c.args.line.now c.in-Some.parsing.line parses.1 c.take_logical.result c.take_logical.ensures.refused c.take_logical.ensures.err)

pub returns-in-Some-clause-memory : goal.returns-in-Some-clause-memory
returns-in-Some-clause-memory c =
    let i = c.self.inside in
    let parses = c.in-Some.ensures.parsed in
    rw (← c.self.view_is) (physical_takes i.parser c.args.line.now i.block parses.0 c.parse.new.self c.in-Some.parsing.line c.take_logical.result parses.1 c.take_logical.ensures.memory)
