-- A line at fault that is no lack of memory.
use Rattle.std.proofs.Common.{sym}
use Rattle.coll_requests.proofs.DeltaTaking.{fault_given, fault_answered, fault_served, fault_refused, fault_takes_none}
use Rattle.coll_requests.proofs.delta_files.DeltaReader.take_logical.Goals as goal

pub returns-else-is_lack_of_memory-clause-ok : goal.returns-else-is_lack_of_memory-clause-ok
returns-else-is_lack_of_memory-clause-ok c =
    fault_given c.args.self.now c.take_fault-answer.new.self c.args.parsing.line c.in-Some.at c.take_fault-answer.result c.in-Some.ensures.fault c.take_fault-answer.ensures.ok

pub returns-else-is_lack_of_memory-clause-err : goal.returns-else-is_lack_of_memory-clause-err
returns-else-is_lack_of_memory-clause-err c =
    fault_answered c.args.self.now c.take_fault-answer.new.self c.args.parsing.line c.in-Some.at c.take_fault-answer.result c.in-Some.ensures.fault c.take_fault-answer.ensures.err

pub returns-else-is_lack_of_memory-clause-served : goal.returns-else-is_lack_of_memory-clause-served
returns-else-is_lack_of_memory-clause-served c =
    fault_served c.args.self.now c.take_fault-answer.new.self c.args.parsing.line c.in-Some.at c.take_fault-answer.result c.in-Some.ensures.fault (sym c.if-is_lack_of_memory.ensures)

pub returns-else-is_lack_of_memory-clause-refused : goal.returns-else-is_lack_of_memory-clause-refused
returns-else-is_lack_of_memory-clause-refused c =
    fault_refused c.args.self.now c.take_fault-answer.new.self c.args.parsing.line c.in-Some.at c.take_fault-answer.result c.in-Some.ensures.fault (sym c.if-is_lack_of_memory.ensures)

pub returns-else-is_lack_of_memory-clause-memory : goal.returns-else-is_lack_of_memory-clause-memory
returns-else-is_lack_of_memory-clause-memory c =
    fault_takes_none c.args.self.now c.take_fault-answer.new.self c.args.parsing.line c.in-Some.at c.take_fault-answer.result c.in-Some.ensures.fault (sym c.if-is_lack_of_memory.ensures)
    c.take_fault-answer.ensures.own
