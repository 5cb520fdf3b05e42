-- The words so far have the texts of the others, and are as many as there were.
use Rattle.std.proofs.Common.{◌≡◌, take}
use Rattle.coll_word_lists.specs.KeyedWords.{texts_of}
use Rattle.coll_words.proofs.tied_words.put_texts.Given as goal

abbrev pub invariant-loop-word : goal.invariant-loop-word
invariant-loop-word l = record {
  place : l.place ≡ l.word-index;
  same : texts_of (take l.word-index l.words) ≡ texts_of (take l.word-index l.tied);
}
