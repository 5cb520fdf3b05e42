-- The elements of one text, and its weights, compiled for it alone.
use Rattle.std.specs.Prelude.{ℕ, suc, List, [], ◌∷◌}
use Rattle.coll_syntax.specs.declared.identifiers.Id.{Id}
use Rattle.coll_ranks.specs.RankLists.{WeightsValue}
use Rattle.coll_ranks.specs.Ranks.{compiled_entry}
use Rattle.coll_ranks.specs.declared.text_elements.TextElement.{TextElement}
use Rattle.coll_ranks.specs.declared.text_elements.TextElement.TheVariants as text_element
use Rattle.coll_elements.specs.declared.element_entries.ElementEntry.{ElementEntry}
use Rattle.coll_elements.specs.declared.element_entries.ElementEntry.TheVariants.{Placed, Absent}

-- the weights of a text as contracts see them: its elements, where one that has an entry stands for a row, and the rows
pub record TextWeightsValue : Type 0 where
  pub elements : List TextElement
  pub weights : WeightsValue

-- the compiled weights of an element; what has no entry has none of its own
abbrev pub element_row : (Id → ℕ) → (levels : ℕ) → ElementEntry → List (List ℕ)
element_row rank levels (Placed entry) = compiled_entry rank levels entry.now
element_row rank levels (Absent c) = []

-- elements by their rows: the first that has an entry stands for this row, and each later one for the next
abbrev pub elements_by_rows : (row : ℕ) → List ElementEntry → List TextElement
elements_by_rows row [] = []
elements_by_rows row (Placed entry ∷ elements) = text_element.Placed row ∷ elements_by_rows (suc row) elements
elements_by_rows row (Absent c ∷ elements) = text_element.Absent c ∷ elements_by_rows row elements
