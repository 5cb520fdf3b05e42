-- What is packed, and the numbers of the text left, are those of the text; and there is room for these, one for each character.
use Rattle.std.proofs.Common.{◌≡◌, ◌≤◌, ◌+◌, ◌++◌, chars, length}
use Rattle.std.specs.Prelude.{vec_len, vec_capacity}
use denote.Text.{Utf8}
use denote.Shadow.{shadow}
use Rattle.std.specs.List.{flat_map}
use Rattle.coll_nodes.specs.TableLayout.{collation}
use Rattle.coll_elements.specs.Elements.{elements_of}
use Rattle.coll_ranks.specs.WeightNumbers.{numbers_at}
use Rattle.coll_word_lists.specs.PackedKeys.{packed_key}
use Rattle.coll_words.proofs.letter_keys.LetterKeys.with_first_key.Given as goal

abbrev pub invariant-letters : goal.invariant-letters
invariant-letters l = record {
  text : shadow (Utf8 l.left);
  few : length (chars l.left) ≤ l.later;
  most : l.later ≤ 65_536;
  room : vec_len l.with + l.later ≤ vec_capacity l.with;
  same : l.initial.with.items ++ packed_key (flat_map (numbers_at (collation l.table) 0) (elements_of (collation l.table) (chars l.text)))
      ≡ l.with.items ++ packed_key (flat_map (numbers_at (collation l.table) 0) (elements_of (collation l.table) (chars l.left)));
}

abbrev pub decreases-letters : goal.decreases-letters
decreases-letters l = length (chars l.left)
