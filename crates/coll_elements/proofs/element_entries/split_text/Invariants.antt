-- The elements so far, and those of what is left, are those of the whole text.
use Rattle.std.proofs.Common.{◌≡◌, ◌++◌, List, chars, length}
use denote.Text.{Utf8}
use denote.Shadow.{shadow}
use Rattle.coll_syntax.specs.declared.identifiers.Id.{Id}
use Rattle.coll_nodes.specs.TableLayout.{collation}
use Rattle.coll_elements.specs.Elements.{elements_of}
use Rattle.coll_elements.specs.ElementEntries.{AreElementsOf}
use Rattle.coll_elements.proofs.element_entries.split_text.Given as goal

abbrev pub invariant-elements : goal.invariant-elements
invariant-elements l = record {
  text : shadow (Utf8 l.left);
  elements : (ids : List Id) × (elements_of (collation l.table) (chars l.text) ≡ ids ++ elements_of (collation l.table) (chars l.left)) × AreElementsOf (collation l.table) ids l.elements.items;
}

abbrev pub decreases-elements : goal.decreases-elements
decreases-elements l = length (chars l.left)
