-- The words so far have their texts and their keys, and what is left are the texts at the places left.
use Rattle.std.proofs.Common.{◌≡◌, ◌++◌, drop}
use Rattle.coll_nodes.specs.TableLayout.{collation}
use Rattle.coll_words.specs.FirstKeys.{AreFirstKeyed}
use Rattle.coll_word_lists.specs.KeyedWords.{texts_of}
use Rattle.coll_word_lists.specs.StoredTexts.{texts_at}
use Rattle.coll_words.specs.StoredWords.{ArePlaces, words_at}
use Rattle.coll_words.proofs.stored_words.keyed_at.Given as goal

abbrev pub invariant-loop-place : goal.invariant-loop-place
invariant-loop-place l = record {
  places : ArePlaces l.texts l.keys.items l.places.items;
  texts : texts_at l.texts l.text_places ≡ texts_of (words_at l.texts l.keys.items l.places.items) ++ texts_at l.texts (drop l.place-index l.text_places);
  keyed : AreFirstKeyed (collation l.table) (words_at l.texts l.keys.items l.places.items);
}
