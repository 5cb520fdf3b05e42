-- What is put in, and what is left, is the whole.
use Rattle.std.proofs.Common.{◌≡◌, ◌≤◌, ◌+◌, ◌++◌, drop}
use Rattle.std.specs.List.{flat_map}
use Rattle.coll_elements.specs.Rank.{known_rank}
use Rattle.coll_ranks.specs.TextWeights.{elements_by_rows, element_row}
use Rattle.coll_ranks.proofs.text_weights.compiled_elements.Given as goal

abbrev pub invariant-loop-element : goal.invariant-loop-element
invariant-loop-element l =
    record {
      few : l.row ≤ l.element-index + 1;
      text_elements : l.text_elements.items ++ elements_by_rows l.row (drop l.element-index l.elements) ≡ elements_by_rows 1 l.elements;
      levels : l.weights.levels ≡ l.initial.weights.levels;
      own : l.weights.own ≡ l.initial.weights.own;
      lists : l.weights.lists ++ flat_map (element_row (known_rank l.initial.ranks) l.initial.weights.levels) (drop l.element-index l.elements)
          ≡ l.initial.weights.lists ++ flat_map (element_row (known_rank l.initial.ranks) l.initial.weights.levels) l.elements;
      same : l.ranks ≡ l.initial.ranks;
    }
