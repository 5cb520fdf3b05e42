-- A section that is to be moved after itself is there.
use Rattle.std.proofs.Common.{not, ap₂, ◌∙◌}
use Rattle.std.specs.Prelude.{nat_eq}
use Rattle.coll_nodes.specs.TableLayout.{collation}
use Rattle.coll_advice.proofs.SectionTests.{section_there, section_told}
use Rattle.coll_advice.proofs.statements.has_section.Goals as goal

pub returns-in-Ok : goal.returns-in-Ok
returns-in-Ok c = section_there (collation c.args.table.now) c.args.name.now c.in_ok-moved.moved c.in_ok-after.after c.in_ok-moved.ensures c.in_ok-after.ensures c.in-Ok.ensures.ok

pub returns-in-Err : goal.returns-in-Err
returns-in-Err c =
    ap₂ (λ n m. not (nat_eq n m)) c.number.ensures c.number-in-Err.ensures
    ∙ section_told (collation c.args.table.now) c.args.name.now c.in_ok-moved.moved c.in_ok-after.after c.in-Err.refusal c.in_ok-moved.ensures c.in_ok-after.ensures c.in-Err.ensures.err
    c.in-Err.ensures.memory
