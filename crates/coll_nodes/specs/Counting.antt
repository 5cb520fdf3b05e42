-- How many declarations, sections and entries a layout has.
use Rattle.std.specs.Prelude.{◌≡◌, ◌+◌, ◌^◌, ◌<◌, ◌≤◌, true, List, IsSome, length}
use Rattle.coll_order.specs.Lists.{has_node}
use Rattle.coll_order.specs.Sound.{AreDistinct}
use Rattle.coll_order.specs.declared.places.NodeId.{NodeId}
use Rattle.coll_nodes.specs.Table.{joined_entries}
use Rattle.coll_nodes.specs.TableLayout.{TableLayout, content_of, declared_at, sections_at}
use Rattle.coll_nodes.specs.declared.contents.Content.{Content}
use Rattle.coll_nodes.specs.declared.contents.Content.TheVariants as content
use Rattle.coll_nodes.specs.declared.counts.Counts.{Counts}

-- nothing
abbrev pub no_counts : Counts
no_counts = record { declarations = 0; sections = 0; entries = 0 }

-- the lengths of the lists of a layout
abbrev pub counts_at : TableLayout → Counts
counts_at layout = record {
  declarations = length (declared_at layout);
  sections = length (sections_at layout);
  entries = length (joined_entries (sections_at layout));
}

-- with one more node that is this
abbrev pub counts_with : Content → Counts → Counts
counts_with (content.Declared declaration) counts = record counts { declarations = counts.declarations + 1 }
counts_with (content.Begun name ring) counts = record counts { sections = counts.sections + 1 }
counts_with (content.Placed entry) counts = record counts { entries = counts.entries + 1 }

-- one more is a number that can be kept
abbrev pub HasRoomFor : Content → Counts → Type 0
HasRoomFor (content.Declared declaration) counts = counts.declarations + 1 < 2 ^ 64
HasRoomFor (content.Begun name ring) counts = counts.sections + 1 < 2 ^ 64
HasRoomFor (content.Placed entry) counts = counts.entries + 1 < 2 ^ 64

-- there is one of this kind
abbrev pub HasOneOf : Content → Counts → Type 0
HasOneOf (content.Declared declaration) counts = 1 ≤ counts.declarations
HasOneOf (content.Begun name ring) counts = 1 ≤ counts.sections
HasOneOf (content.Placed entry) counts = 1 ≤ counts.entries

-- each of these nodes is there
abbrev pub AreThere : TableLayout → List NodeId → Type 0
AreThere layout nodes = (node : NodeId) → has_node nodes node ≡ true → IsSome (content_of layout node)

-- no list of nodes that are there, each once, is longer than a number that can be kept
abbrev pub AreFew : TableLayout → Type 0
AreFew layout = (nodes : List NodeId) → AreDistinct nodes → AreThere layout nodes → length nodes < 2 ^ 64
