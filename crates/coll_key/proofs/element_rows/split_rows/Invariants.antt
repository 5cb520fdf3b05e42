use Rattle.std.proofs.Common.{◌≡◌, ◌≤◌, ◌++◌, ◌+◌, chars, length, map}
use Rattle.std.specs.Prelude.{vec_len, vec_capacity}
use denote.Shadow.{shadow}
use denote.Text.{Utf8}
use Rattle.coll_ranks.specs.LevelWeights.{row_of}
use Rattle.coll_ranks.specs.Ranks.{elements_by_ranks}
use Rattle.coll_key.proofs.element_rows.split_rows.Given as goal

abbrev pub invariant-elements : goal.invariant-elements
invariant-elements l = record {
  text : shadow (Utf8 l.left);
  rows : map (row_of l.ranks.compiled) (elements_by_ranks l.ranks (chars l.text)) ≡ l.rows.items ++ map (row_of l.ranks.compiled) (elements_by_ranks l.ranks (chars l.left));
  counted : l.room + length (chars l.text) ≡ 65_536 + length (chars l.left);
  few : vec_len l.rows + length (chars l.left) ≤ length (chars l.text);
  room : vec_capacity l.rows ≡ vec_capacity l.initial.rows;
}

abbrev pub decreases-elements : goal.decreases-elements
decreases-elements l = length (chars l.left)
