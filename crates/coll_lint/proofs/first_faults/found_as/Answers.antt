-- What is told stands in place of what was found, or of nothing.
use Rattle.std.proofs.Common.{◌∷◌, refl}
use Rattle.coll_lint.proofs.OrderLemmas.{once_alone, once_as_found}
use Rattle.coll_lint.proofs.first_faults.found_as.Goals as goal

pub returns-in-Some-clause-once : goal.returns-in-Some-clause-once
returns-in-Some-clause-once c = λ once.
    let found = c.in-Some.ensures in
    let told = c.new.ensures in
    once_as_found c.args.faults.now.items c.as_slice.result.now (c.new.result ∷ c.remove-line.new.self.items) c.in-Some.place c.remove-line.result c.new.result c.args.first c.as_slice.ensures.value found.within
    c.remove-line.ensures.value (found.found c.remove-line.result) told.fault told.line told.about (cc (c.remove-line.ensures.items)) once

pub returns-in-None-clause-once : goal.returns-in-None-clause-once
returns-in-None-clause-once c = λ once.
    let told = c.new-in-None.ensures in
    once_alone c.args.faults.now.items c.as_slice.result.now (c.new-in-None.result ∷ c.args.faults.now.items) c.new-in-None.result c.args.first c.as_slice.ensures.value c.in-None.ensures.none told.fault told.line
    told.about refl once
