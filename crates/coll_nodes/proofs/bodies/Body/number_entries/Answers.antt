-- All entries have their numbers.
use Rattle.std.proofs.Common.{arith}
use Rattle.coll_nodes.proofs.NumberedNodes.{are_numbers, as_many}
use Rattle.coll_nodes.proofs.bodies.Body.number_entries.Goals as goal

pub number_sections-requires-clause-few : goal.number_sections-requires-clause-few
number_sections-requires-clause-few c =
    rw c.self.view_is (let many = as_many c.args.self.now.layout c.lemma_layout.ensures.shaped in omega (arith, many, c.requires.few))

pub returns : goal.returns
returns c =
    are_numbers c.args.self.now.layout c.begin_anew.new.self c.number_sections.new.numbers c.lemma_layout.ensures.sound c.requires.distinct (rw (← c.self.view_is) c.in_ok-number_sections.ensures)
