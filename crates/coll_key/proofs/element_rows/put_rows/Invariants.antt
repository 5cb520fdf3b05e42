use Rattle.std.proofs.Common.{◌≡◌, ◌≤◌, ◌++◌, ◌+◌, chars, length, map, take}
use denote.Shadow.{shadow}
use denote.Text.{Utf8}
use Rattle.coll_ranks.specs.LevelWeights.{row_of}
use Rattle.coll_ranks.specs.Ranks.{elements_by_ranks}
use Rattle.coll_key.proofs.element_rows.put_rows.Given as goal

abbrev pub invariant-elements : goal.invariant-elements
invariant-elements l = record {
  text : shadow (Utf8 l.left);
  places : length l.rows ≡ length l.initial.rows;
  rows : map (row_of l.ranks.compiled) (elements_by_ranks l.ranks (chars l.text)) ≡ take l.count l.rows ++ map (row_of l.ranks.compiled) (elements_by_ranks l.ranks (chars l.left));
  few : l.count + length (chars l.left) ≤ length (chars l.text);
}

abbrev pub decreases-elements : goal.decreases-elements
decreases-elements l = length (chars l.left)
