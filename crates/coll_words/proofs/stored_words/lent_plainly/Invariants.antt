-- The words that are lent, and those at the places left, are all words, and each that is lent has the lead 0.
use Rattle.std.proofs.Common.{◌≡◌, ◌++◌, [], All, map, drop}
use Rattle.coll_words.specs.LentWords.{HasLead, without_lead}
use Rattle.coll_words.specs.StoredWords.{words_at}
use Rattle.coll_words.proofs.stored_words.lent_plainly.Given as goal

abbrev pub invariant-loop-place : goal.invariant-loop-place
invariant-loop-place l = record {
  same : words_at l.texts l.keys l.places ≡ map without_lead l.words.items ++ words_at l.texts l.keys (drop l.place-index l.places);
  led : All (HasLead [] 1 0) l.words.items;
}
