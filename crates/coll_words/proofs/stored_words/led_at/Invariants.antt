-- The words that are lent, and those at the places left, are all words, and each that is lent has its lead.
use Rattle.std.proofs.Common.{◌≡◌, ◌++◌, All, map, drop}
use Rattle.coll_words.specs.LentWords.{HasLead, without_lead}
use Rattle.coll_words.specs.StoredWords.{words_at}
use Rattle.coll_words.proofs.stored_words.led_at.Given as goal

abbrev pub invariant-loop-place : goal.invariant-loop-place
invariant-loop-place l = record {
  same : words_at l.texts l.keys l.places ≡ map without_lead l.words.items ++ words_at l.texts l.keys (drop l.place-index l.places);
  led : All (HasLead l.digits.numbers.items l.digits.base l.digits.count) l.words.items;
}
