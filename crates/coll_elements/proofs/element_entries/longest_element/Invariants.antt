-- Of the prefixes before the rest of a text, the longest element is found.
use Rattle.std.proofs.Common.{◌≡◌, ◌+◌, ◌++◌, ℕ, List, chars, length}
use denote.Text.{Utf8}
use denote.Shadow.{shadow}
use Rattle.coll_nodes.specs.ElementTexts.{element_entry}
use Rattle.coll_nodes.specs.TableLayout.{collation}
use Rattle.coll_elements.specs.ElementEntries.{longest_prefix, FindsPrefix}
use Rattle.coll_elements.proofs.element_entries.longest_element.Given as goal

abbrev pub invariant-prefixes : goal.invariant-prefixes
invariant-prefixes l = record {
  text : shadow (Utf8 l.rest);
  prefix : (prefix : List ℕ) × (l.text ≡ prefix ++ l.rest);
  counted : l._size + length (chars l.rest) ≡ length (chars l.text);
  found : FindsPrefix (chars l.text) (longest_prefix (element_entry (collation l.table)) (chars l.text) l._size) l.longest;
}
