-- Where the numbers of an element at a level come from (POSIX.1-2017, 7.3.2.4; the numbers are the project's own).
use Rattle.std.specs.Prelude.{ℕ, if◌then◌else◌, List, [], ◌∷◌, map}
use Rattle.coll_syntax.specs.declared.identifiers.Id.{Id}
use Rattle.coll_syntax.specs.declared.identifiers.Id.TheVariants.{Undefined}
use Rattle.coll_syntax.specs.declared.weights.Weight.{Weight}
use Rattle.coll_syntax.specs.declared.weights.Weight.TheVariants.{Ignore, Own, Names}
use Rattle.coll_nodes.specs.Table.{Collation, is_placed}
use Rattle.coll_elements.specs.Rank.{known_rank}
use Rattle.coll_ranks.specs.Ranks.{added_to}
use Rattle.coll_ranks.specs.WeightNumbers.{code_point, weight_at}

-- a number, the identifier that has its rank, and the element that it comes from
pub record Source : Type 0 where
  pub number : ℕ
  pub id : Id
  pub element : Id

-- the number of an identifier's rank, with what is added to it, in a weight of an element
abbrev pub source : Collation → (added : ℕ) → (element id : Id) → Source
source table added element id = record { number = added_to added (known_rank table id); id = id; element = element }

-- the number of an element that stands for itself; without an entry it is that of UNDEFINED, and the code point is added
abbrev pub own_source : Collation → (element : Id) → Source
own_source table element =
    if is_placed table element then source table 0 element element else source table (code_point element) element Undefined

-- the numbers of a weight of an element, of which this is its own
abbrev pub weight_sources : Collation → (element : Id) → (own : Source) → Weight → List Source
weight_sources table element own Ignore = []
weight_sources table element own Own = own ∷ []
weight_sources table element own (Names ids) = map (source table 0 element) ids

-- the numbers of an element at a level
unfoldable pub sources_at : Collation → (level : ℕ) → (element : Id) → List Source
sources_at table level element = weight_sources table element (own_source table element) (weight_at table level element)
