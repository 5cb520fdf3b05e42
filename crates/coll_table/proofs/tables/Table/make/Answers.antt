-- A loose node is added, so that the table stands for what it stood for.
use Rattle.std.proofs.Common.{◌∷◌, [], subst, sym}
use Rattle.coll_nodes.specs.Bodies.{value_of}
use Rattle.coll_table.specs.Growth.{AddsLoose}
use Rattle.coll_nodes.specs.TableLayout.{TableValue}
use Rattle.coll_nodes.specs.WellFormed.{IsWellFormed}
use Rattle.coll_table.proofs.GrowthLemmas.{collation_grown, made_added}
use Rattle.coll_table.proofs.tables.Table.make.Goals as goal

adds : (c : goal.In_ok-made) → AddsLoose (value_of c.self.inside.rules c.self.inside.body) (value_of c.self.inside.rules c.make.new.self) (c.in_ok-made.made ∷ [])
adds c = made_added c.self.inside.rules c.self.inside.body c.make.new.self c.in_ok-made.made c.args.node c.in_ok-made.ensures.made c.in_ok-made.ensures.apart c.in_ok-made.ensures.rings
    c.in_ok-made.ensures.steps c.in_ok-made.ensures.dropped

pub invariant_of-self-2 : goal.invariant_of-self-2
invariant_of-self-2 c = subst IsWellFormed (sym (collation_grown (value_of c.self.inside.rules c.self.inside.body) (value_of c.self.inside.rules c.make.new.self) (c.in_ok-made.made ∷ []) (adds c)))
    c.self.invariant

pub returns-clause-added : goal.returns-clause-added
returns-clause-added c = subst (λ (t : TableValue). AddsLoose t (value_of c.self.inside.rules c.make.new.self) (c.in_ok-made.made ∷ [])) c.self.view_is (adds c)
