-- Cells and the lists that they stand for: what one more does.
use Rattle.std.proofs.Common.{◌≡◌, ◌≤◌, ℕ, ◌+◌, List, [], ◌∷◌, ◌++◌, length, get_or, map, sym, ap, ap₂, subst, ◌∙◌, refl, arith, length-append}
use Rattle.std.proofs.Math.ListN.{get_or-append}
use Rattle.std.proofs.Math.Seq.{get_or-append_seam}
use Rattle.std.proofs.lemmas.List.{map-append}
use Rattle.coll_ranks.specs.WeightCells.{cell_list, AreCells, IsCell}
use Rattle.coll_ranks.specs.declared.weight_cells.WeightCell.{WeightCell}
use Rattle.coll_ranks.specs.declared.weight_cells.WeightCell.TheVariants.{Empty, Single, Long}

-- a cell's list is the same where a long list follows
kept_cell : (long : List (List ℕ)) (list : List ℕ) (cell : WeightCell) → IsCell (length long) cell → cell_list (long ++ list ∷ []) cell ≡ cell_list long cell
kept_cell long list Empty is = refl
kept_cell long list (Single rank) is = refl
kept_cell long list (Long place) is = get_or-append long (list ∷ []) [] place is

-- and so are those of all cells
kept_cells : (long : List (List ℕ)) (list : List ℕ) (cells : List WeightCell) → AreCells (length long) cells → map (cell_list (long ++ list ∷ [])) cells ≡ map (cell_list long) cells
kept_cells long list [] are = refl
kept_cells long list (cell ∷ cells) are = ap₂ (λ (l : List ℕ) (ls : List (List ℕ)). l ∷ ls) (kept_cell long list cell are.0) (kept_cells long list cells are.1)

-- a cell is one where there are more long lists
cell_among_more : (count more : ℕ) (cell : WeightCell) → count ≤ more → IsCell count cell → IsCell more cell
cell_among_more count more Empty few is = tt
cell_among_more count more (Single rank) few is = tt
cell_among_more count more (Long place) few is = omega (arith, few, is)

-- cells are cells where there are more long lists, and with one more behind them
cells_more : (count more : ℕ) (cell : WeightCell) (cells : List WeightCell) → count ≤ more → AreCells count cells → IsCell more cell → AreCells more (cells ++ cell ∷ [])
cells_more count more cell [] few are is = (is, tt)
cells_more count more cell (first ∷ cells) few are is = (cell_among_more count more first few are.0, cells_more count more cell cells few are.1 is)

-- a cell is put behind others
pub cell_put : (count : ℕ) (cell : WeightCell) (cells now : List WeightCell) → AreCells count cells → IsCell count cell → now ≡ cells ++ cell ∷ [] → AreCells count now
cell_put count cell cells now are is put = subst (AreCells count) (sym put) (cells_more count count cell cells (omega arith) are is)

-- and so is that of a long list
pub long_cell_put : (long grown : List (List ℕ)) (list : List ℕ) (place : ℕ) (cells now : List WeightCell) → AreCells (length long) cells → grown ≡ long ++ list ∷ [] → place ≡ length long
    → now ≡ cells ++ Long place ∷ [] → AreCells (length grown) now
long_cell_put long grown list place cells now are put is cell =
    let one_more : length grown ≡ length long + 1 = ap length put ∙ length-append long (list ∷ []) in
    subst (AreCells (length grown)) (sym cell) (cells_more (length long) (length grown) (Long place) cells (omega (arith, one_more)) are (omega (arith, one_more, is)))

-- one cell more is one list more
pub list_more : (long : List (List ℕ)) (cell : WeightCell) (cells : List WeightCell) → map (cell_list long) (cells ++ cell ∷ []) ≡ map (cell_list long) cells ++ cell_list long cell ∷ []
list_more long cell cells = map-append (cell_list long) cells (cell ∷ [])

-- and so is a long list with its cell
pub long_more : (long grown : List (List ℕ)) (list : List ℕ) (place : ℕ) (cells now : List WeightCell) → AreCells (length long) cells → grown ≡ long ++ list ∷ [] → place ≡ length long
    → now ≡ cells ++ Long place ∷ [] → map (cell_list grown) now ≡ map (cell_list long) cells ++ list ∷ []
long_more long grown list place cells now are put is cell =
    ap₂ (λ (ls : List (List ℕ)) (cs : List WeightCell). map (cell_list ls) cs) put cell
    ∙ (list_more (long ++ list ∷ []) (Long place) cells
    ∙ ap₂ (λ (ls : List (List ℕ)) (l : List ℕ). ls ++ l ∷ []) (kept_cells long list cells are) (ap (λ n. get_or (long ++ list ∷ []) n []) is ∙ get_or-append_seam long list [] []))
