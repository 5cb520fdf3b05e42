-- Memory may be taken for a line that ends a logical line with tokens, and a lack of it carries the line's number.
use Rattle.coll_table.proofs.LineMemory.{whole_takes, whole_numbered}
use Rattle.coll_table.proofs.loaders.Loader.take_fed.Goals as goal

pub returns-in-Ok-Some-clause-memory : goal.returns-in-Ok-Some-clause-memory
returns-in-Ok-Some-clause-memory c =
    rw (← c.self.view_is) (whole_takes c.self.inside.lexer c.feed.new.self c.args.line.now c.in-Ok-Some.whole c.take_logical.result (rw c.in-Ok-Some.field-0-is at c.in-Ok-Some.ensures.ok))

pub returns-in-Ok-Some-clause-starved_at : goal.returns-in-Ok-Some-clause-starved_at
returns-in-Ok-Some-clause-starved_at c =
    rw (← c.self.view_is) (whole_numbered c.self.inside.lexer c.feed.new.self c.args.line.now c.in-Ok-Some.whole c.take_logical.result (rw c.in-Ok-Some.field-0-is at c.in-Ok-Some.ensures.ok)
    c.take_logical.ensures.starved_at)
