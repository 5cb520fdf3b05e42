-- The element that a text begins with.
use Rattle.std.proofs.Common.{◌≡◌, ◌∷◌, None, ◌∙◌, length, chars, sym, ap, subst, arith}
use Rattle.std.proofs.lemmas.Str.{chars_past_char}
use Rattle.coll_syntax.specs.declared.identifiers.Id.TheVariants.{Char}
use Rattle.coll_nodes.specs.ElementTexts.{element_entry}
use Rattle.coll_nodes.specs.TableLayout.{collation}
use Rattle.coll_elements.specs.Elements.{elements_of}
use Rattle.coll_elements.specs.ElementEntries.{longest_prefix, FindsPrefix}
use Rattle.coll_elements.proofs.ElementEntries.{begins_alone, element_found}
use Rattle.coll_elements.proofs.element_entries.first_element.Goals as goal

pub returns-in-Some-clause-none : goal.returns-in-Some-clause-none
returns-in-Some-clause-none c = (element_found (collation c.args.table.now) c.lemma_well_formed.ensures.well_formed (chars c.args.text.now) c.in-Some.found c.in-Some.ensures).3

pub returns-in-Some-clause-element : goal.returns-in-Some-clause-element
returns-in-Some-clause-element c =
    let known = element_found (collation c.args.table.now) c.lemma_well_formed.ensures.well_formed (chars c.args.text.now) c.in-Some.found c.in-Some.ensures in
    (known.0, known.1, known.2)

pub returns-in-None-clause-none : goal.returns-in-None-clause-none
returns-in-None-clause-none c =
    let first = chars_past_char c.args.text.now c.next.new.self.rest.now c.in_ok-first.first c.utf8.text (sym c.chars-letters.ensures.rest ∙ c.in_ok-first.ensures.steps.0) in
    let one = ap length first in
    let same = ap (λ t. length (chars t)) c.as_str.ensures in
    omega (arith, one, same)

pub returns-in-None-clause-element : goal.returns-in-None-clause-element
returns-in-None-clause-element c =
    let table = collation c.args.table.now in
    let rest = chars c.next.new.self.rest.now in
    let first : chars c.args.text.now ≡ c.in_ok-first.first ∷ rest =
    chars_past_char c.args.text.now c.next.new.self.rest.now c.in_ok-first.first c.utf8.text (sym c.chars-letters.ensures.rest ∙ c.in_ok-first.ensures.steps.0) in
    let none : FindsPrefix (c.in_ok-first.first ∷ rest) (longest_prefix (element_entry table) (c.in_ok-first.first ∷ rest) (length (c.in_ok-first.first ∷ rest))) None =
    subst (λ t. FindsPrefix t (longest_prefix (element_entry table) t (length t)) None) first c.in-None.ensures in (
      Char c.in_ok-first.first,
      ap (elements_of table) first ∙ (begins_alone table c.lemma_well_formed.ensures.well_formed c.in_ok-first.first rest none
          ∙ ap (λ t. Char c.in_ok-first.first ∷ elements_of table (chars t)) (sym c.as_str.ensures)),
      c.character.ensures,
    )
