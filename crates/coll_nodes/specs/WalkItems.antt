-- What an item of a walk is.
use Rattle.std.specs.Prelude.{chars}
use Rattle.coll_nodes.specs.Walks.{Visited, VisitedSection, VisitedEntry}
use Rattle.coll_nodes.specs.declared.declarations.Declaration.{Declaration}
use Rattle.coll_nodes.specs.declared.declarations.Declaration.TheVariants as declaration
use Rattle.coll_nodes.specs.declared.walks.WalkItem.{WalkItem}
use Rattle.coll_nodes.specs.declared.walks.WalkItem.TheVariants as item
use Rattle.coll_nodes.specs.declared.walks.DeclaredItem.{DeclaredItem}
use Rattle.coll_nodes.specs.declared.walks.DeclaredItem.TheVariants as declared

-- what an item says that a walk visits
abbrev pub visited_by : WalkItem → Visited
visited_by (item.Section name) = VisitedSection (chars name.now)
visited_by (item.Entry entry) = VisitedEntry entry.now

-- what an item says that a table declares
abbrev pub declared_by : DeclaredItem → Declaration
declared_by (declared.Symbol name) = declaration.Symbol (chars name.now)
declared_by (declared.Element name text) = declaration.Element (chars name.now) (chars text.now)
declared_by (declared.Equivalence name symbol) = declaration.Equivalence (chars name.now) (chars symbol.now)
