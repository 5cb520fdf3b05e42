-- The kinds of change between a source and what is made of it: their order, and the names that messages show.
use Rattle.std.specs.Prelude.{◌≡◌, ℕ, ◌==◌, Bool, List, [], ◌∷◌, Some, slice_get, codes}
use Rattle.coll_source_lines.specs.declared.adjustments.Adjustment.{Adjustment}
use Rattle.coll_source_lines.specs.declared.adjustments.Adjustment.TheVariants.{CopyInlined, CopyKept, Conditional, SymbolRange, OrderStartPut}
use Rattle.coll_source_lines.specs.declared.adjustments.Adjustment.TheVariants.{RulesMadeAlike, SectionNamed, EllipsisExpanded, ElementOfOne}
use Rattle.coll_source_lines.specs.declared.adjustments.Adjustment.TheVariants.{ElementStringTwice, SymbolWeights, UndeclaredDeclared}
use Rattle.coll_source_lines.specs.declared.adjustments.Adjustment.TheVariants.{DeclaredAlready, PlacedTwice, WeightsLater, UnplacedInWeight}
use Rattle.coll_source_lines.specs.declared.adjustments.Adjustment.TheVariants.{WeightsBeyondRules, BlockCut, OwnWeights, TargetUnplaced}
use Rattle.coll_source_lines.specs.declared.adjustments.Adjustment.TheVariants.{OwnTarget, BlockClosed, SectionsMoved, Dropped}

-- the place of a kind among all kinds, from 0, in the order in which they are told
unfoldable pub kind_place : Adjustment → ℕ
kind_place CopyInlined = 0
kind_place CopyKept = 1
kind_place Conditional = 2
kind_place SymbolRange = 3
kind_place OrderStartPut = 4
kind_place RulesMadeAlike = 5
kind_place SectionNamed = 6
kind_place EllipsisExpanded = 7
kind_place ElementOfOne = 8
kind_place ElementStringTwice = 9
kind_place SymbolWeights = 10
kind_place UndeclaredDeclared = 11
kind_place DeclaredAlready = 12
kind_place PlacedTwice = 13
kind_place WeightsLater = 14
kind_place UnplacedInWeight = 15
kind_place WeightsBeyondRules = 16
kind_place BlockCut = 17
kind_place OwnWeights = 18
kind_place TargetUnplaced = 19
kind_place OwnTarget = 20
kind_place BlockClosed = 21
kind_place SectionsMoved = 22
kind_place Dropped = 23

-- two kinds are the same
abbrev pub same_kind : Adjustment → Adjustment → Bool
same_kind a b = kind_place a == kind_place b

-- all kinds, in the order in which they are told
unfoldable pub all_kinds : List Adjustment
all_kinds =
    CopyInlined ∷ CopyKept ∷ Conditional ∷ SymbolRange ∷ OrderStartPut ∷ RulesMadeAlike ∷ SectionNamed ∷
    EllipsisExpanded ∷ ElementOfOne ∷ ElementStringTwice ∷ SymbolWeights ∷ UndeclaredDeclared ∷ DeclaredAlready ∷
    PlacedTwice ∷ WeightsLater ∷ UnplacedInWeight ∷ WeightsBeyondRules ∷ BlockCut ∷ OwnWeights ∷ TargetUnplaced ∷
    OwnTarget ∷ BlockClosed ∷ SectionsMoved ∷ Dropped ∷ []

-- each kind stands in a list, at its place
abbrev pub HasEachKind : List Adjustment → Type 0
HasEachKind kinds = (kind : Adjustment) → slice_get kinds (kind_place kind) ≡ Some kind

-- the name of a kind
abbrev pub adjustment_name : Adjustment → List ℕ
adjustment_name CopyInlined = codes "CopyInlined"
adjustment_name CopyKept = codes "CopyKept"
adjustment_name Conditional = codes "Conditional"
adjustment_name SymbolRange = codes "SymbolRange"
adjustment_name OrderStartPut = codes "OrderStartPut"
adjustment_name RulesMadeAlike = codes "RulesMadeAlike"
adjustment_name SectionNamed = codes "SectionNamed"
adjustment_name EllipsisExpanded = codes "EllipsisExpanded"
adjustment_name ElementOfOne = codes "ElementOfOne"
adjustment_name ElementStringTwice = codes "ElementStringTwice"
adjustment_name SymbolWeights = codes "SymbolWeights"
adjustment_name UndeclaredDeclared = codes "UndeclaredDeclared"
adjustment_name DeclaredAlready = codes "DeclaredAlready"
adjustment_name PlacedTwice = codes "PlacedTwice"
adjustment_name WeightsLater = codes "WeightsLater"
adjustment_name UnplacedInWeight = codes "UnplacedInWeight"
adjustment_name WeightsBeyondRules = codes "WeightsBeyondRules"
adjustment_name BlockCut = codes "BlockCut"
adjustment_name OwnWeights = codes "OwnWeights"
adjustment_name TargetUnplaced = codes "TargetUnplaced"
adjustment_name OwnTarget = codes "OwnTarget"
adjustment_name BlockClosed = codes "BlockClosed"
adjustment_name SectionsMoved = codes "SectionsMoved"
adjustment_name Dropped = codes "Dropped"
