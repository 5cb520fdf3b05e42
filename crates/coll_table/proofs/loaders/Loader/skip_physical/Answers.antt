-- A line before the category is refused as the lexer says, and never for lack of memory.
use Rattle.coll_table.proofs.LineMemory.{outside_refused, outside_takes_none}
use Rattle.coll_table.proofs.loaders.Loader.skip_physical.Goals as goal

pub returns-in-Err-clause-err : goal.returns-in-Err-clause-err
returns-in-Err-clause-err c =
    let s = c.self.inside in
    rw (← c.self.view_is) (outside_refused (record { lexer = s.lexer; begun = s.begun; ended = s.ended; builder = s.builder; fault = s.fault }) c.args.line.now c.next_number-number.result
    c.in-Err.fault c.from.result c.next_number-number.ensures.number c.in-Err.ensures.err c.from.ensures)

pub returns-in-Err-clause-memory : goal.returns-in-Err-clause-memory
returns-in-Err-clause-memory c = outside_takes_none c.self.inside.lexer c.args.line.now c.in-Err.fault c.from.result c.in-Err.ensures.err c.from.ensures
