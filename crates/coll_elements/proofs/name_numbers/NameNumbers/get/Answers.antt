-- A name is found by its bytes.
use Rattle.std.proofs.Common.{◌∙◌, sym, ap}
use Rattle.std.specs.Option.{option_copied}
use Rattle.coll_elements.proofs.NameLookUps.{found_name}
use Rattle.coll_elements.proofs.name_numbers.NameNumbers.get.Goals as goal

pub returns-in-Some : goal.returns-in-Some
returns-in-Some c =
    rw (← c.self.view_is) (ap option_copied (sym c.in-Some.is) ∙ (c.get.ensures.value ∙ sym (found_name _ c.self.inside.numbers.entries c.utf8.name c.self.invariant)))

pub returns-in-None : goal.returns-in-None
returns-in-None c =
    rw (← c.self.view_is) (ap option_copied (sym c.in-None.is) ∙ (c.get.ensures.value ∙ sym (found_name _ c.self.inside.numbers.entries c.utf8.name c.self.invariant)))
