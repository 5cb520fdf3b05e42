-- A text begins with the bytes of an element where it begins with its characters.
use Rattle.std.proofs.Common.{Bool, cond, Some, None, refl, sym, ap, subst, ◌∙◌}
use Rattle.std.specs.Prelude.{chars}
use Rattle.coll_elements.specs.NamedElements.{Finds, kept_element}
use Rattle.coll_elements.specs.Elements.{begins_with}
use Rattle.coll_elements.proofs.ElementBeginnings.{not_begun, begun, begins_so}
use Rattle.coll_elements.proofs.named_elements.PlacedElement.found_in.Goals as goal

pub returns-in_err-rest : goal.returns-in_err-rest
returns-in_err-rest c =
    let none = not_begun c.args.text.now c.get.result.now c.args.self.now.text c.utf8.text c.get.ensures.bytes c.in_err-rest.ensures.cases in
    subst (λ (b : Bool). Finds (cond b (Some (kept_element c.args.self.now)) None) (chars c.args.text.now) c.from_residual.result) (sym none) c.from_residual.ensures

pub returns : goal.returns
returns c =
    let h = c.in_ok-rest.ensures.cases in
    let goes_on = begun c.args.text.now c.get.result.now c.args.self.now.text c.in_ok-rest.rest.now _ c.get.utf8 c.get.ensures.characters h.1.1 h.2 in
    let begins = ap (λ text. begins_with text c.args.self.now.text) goes_on ∙ begins_so c.args.self.now.text (chars c.in_ok-rest.rest.now) in
    subst (λ (b : Bool). Finds (cond b (Some (kept_element c.args.self.now)) None) (chars c.args.text.now)
    (Some (record { rank = c.args.self.now.rank; length = c.args.self.now.length; rest = c.in_ok-rest.rest }))) (sym begins)
    (record { rank = refl; length_is = c.requires.length_is; some = c.requires.some; goes_on = goes_on })
