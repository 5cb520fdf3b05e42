-- The words so far have their keys.
use Rattle.std.proofs.Common.{◌≡◌, map, take}
use Rattle.coll_nodes.specs.TableLayout.{collation}
use Rattle.coll_reviews.specs.ListedKeys.{HaveKeys, word_of}
use Rattle.coll_reviews.specs.declared.listed_words.ListedWord.{ListedWord}
use Rattle.coll_reviews.proofs.listed_keys.with_keys.Given as goal

abbrev pub invariant-loop-listed : goal.invariant-loop-listed
invariant-loop-listed l = record {
  words : map word_of l.keyed.items ≡ map (λ (listed : ListedWord). listed) (take l.listed-index l.list);
  keys : HaveKeys (collation l.table) l.keyed.items;
}
