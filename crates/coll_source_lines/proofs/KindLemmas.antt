-- The kinds of change, each at its place.
use Rattle.std.proofs.Common.{◌≡◌, ◌==◌, refl, ap, ◌∙◌}
use denote.Enum.Bare.{sameb}
use denote.Enum.Declared.{tag_of}
use Rattle.coll_source_lines.specs.contracts.adjustments.Adjustment.{the_type}
use Rattle.coll_source_lines.specs.declared.adjustments.Adjustment.{Adjustment}
use Rattle.coll_source_lines.specs.declared.adjustments.Adjustment.TheVariants.{CopyInlined, CopyKept, Conditional, SymbolRange, OrderStartPut}
use Rattle.coll_source_lines.specs.declared.adjustments.Adjustment.TheVariants.{RulesMadeAlike, SectionNamed, EllipsisExpanded, ElementOfOne}
use Rattle.coll_source_lines.specs.declared.adjustments.Adjustment.TheVariants.{ElementStringTwice, SymbolWeights, UndeclaredDeclared}
use Rattle.coll_source_lines.specs.declared.adjustments.Adjustment.TheVariants.{DeclaredAlready, PlacedTwice, WeightsLater, UnplacedInWeight}
use Rattle.coll_source_lines.specs.declared.adjustments.Adjustment.TheVariants.{WeightsBeyondRules, BlockCut, OwnWeights, TargetUnplaced}
use Rattle.coll_source_lines.specs.declared.adjustments.Adjustment.TheVariants.{OwnTarget, BlockClosed, SectionsMoved, Dropped}
use Rattle.coll_source_lines.specs.Adjustments.{kind_place, same_kind, all_kinds, HasEachKind}

-- the place of a kind is that of its variant
variant_place : (kind : Adjustment) → tag_of the_type kind ≡ kind_place kind
unfolding kind_place
variant_place CopyInlined = refl
variant_place CopyKept = refl
variant_place Conditional = refl
variant_place SymbolRange = refl
variant_place OrderStartPut = refl
variant_place RulesMadeAlike = refl
variant_place SectionNamed = refl
variant_place EllipsisExpanded = refl
variant_place ElementOfOne = refl
variant_place ElementStringTwice = refl
variant_place SymbolWeights = refl
variant_place UndeclaredDeclared = refl
variant_place DeclaredAlready = refl
variant_place PlacedTwice = refl
variant_place WeightsLater = refl
variant_place UnplacedInWeight = refl
variant_place WeightsBeyondRules = refl
variant_place BlockCut = refl
variant_place OwnWeights = refl
variant_place TargetUnplaced = refl
variant_place OwnTarget = refl
variant_place BlockClosed = refl
variant_place SectionsMoved = refl
variant_place Dropped = refl

-- two variants are told apart by the places of their kinds
pub same_variant : (a b : Adjustment) → sameb the_type a b ≡ same_kind a b
same_variant a b = ap (λ n. n == tag_of the_type b) (variant_place a) ∙ ap (λ n. kind_place a == n) (variant_place b)

-- each kind is among all kinds
pub each_kind : HasEachKind all_kinds
unfolding kind_place all_kinds
each_kind CopyInlined = refl
each_kind CopyKept = refl
each_kind Conditional = refl
each_kind SymbolRange = refl
each_kind OrderStartPut = refl
each_kind RulesMadeAlike = refl
each_kind SectionNamed = refl
each_kind EllipsisExpanded = refl
each_kind ElementOfOne = refl
each_kind ElementStringTwice = refl
each_kind SymbolWeights = refl
each_kind UndeclaredDeclared = refl
each_kind DeclaredAlready = refl
each_kind PlacedTwice = refl
each_kind WeightsLater = refl
each_kind UnplacedInWeight = refl
each_kind WeightsBeyondRules = refl
each_kind BlockCut = refl
each_kind OwnWeights = refl
each_kind TargetUnplaced = refl
each_kind OwnTarget = refl
each_kind BlockClosed = refl
each_kind SectionsMoved = refl
each_kind Dropped = refl
