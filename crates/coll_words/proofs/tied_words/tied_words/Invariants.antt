-- The words so far have their keys.
use Rattle.std.proofs.Common.{◌≡◌, take}
use Rattle.coll_nodes.specs.TableLayout.{collation}
use Rattle.coll_word_lists.specs.KeyedWords.{AreKeyed, texts_of}
use Rattle.coll_words.proofs.tied_words.tied_words.Given as goal

abbrev pub invariant-loop-word : goal.invariant-loop-word
invariant-loop-word l = record {
  texts : texts_of l.tied.items ≡ texts_of (take l.word-index l.run);
  keyed : AreKeyed (collation l.table) l.tied.items;
}
