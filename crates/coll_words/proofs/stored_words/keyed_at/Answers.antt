-- One word more has its text and its key.
use Rattle.std.proofs.Common.{◌≡◌, ◌+◌, ◌∙◌, ◌++◌, ◌∷◌, [], ℕ, List, append-nil, drop, get_or, refl, sym, ap, arith}
use Rattle.std.proofs.lemmas.List.{drop_all, drop_more}
use Rattle.coll_nodes.specs.TableLayout.{collation}
use Rattle.coll_words.specs.FirstKeys.{packed_first_key}
use Rattle.coll_word_lists.specs.KeyedWords.{KeyedWord, texts_of}
use Rattle.coll_word_lists.specs.StoredTexts.{IsTextPlace, text_in, texts_at}
use Rattle.coll_words.specs.StoredWords.{words_at}
use Rattle.coll_word_lists.specs.declared.stored_texts.TextPlace.{TextPlace}
use Rattle.coll_words.proofs.StoredWordLemmas.{keys_more, places_with, texts_more, words_with}
use Rattle.coll_words.proofs.stored_words.keyed_at.Goals as goal

pub loop-place-preserved : goal.loop-place-preserved
loop-place-preserved c =
    let texts = c.args.texts.now in
    let none : TextPlace = record { start = 0; end = 0 } in
    let place : TextPlace = get_or c.args.text_places.now c.loop-place.place-index none in
    let is : IsTextPlace texts place = c.requires.places c.loop-place.place-index none c.loop-place-test.true in
    let key = packed_first_key (collation c.args.table.now) in
    let keys = c.loop-place.keys.items in
    let keys_now = c.in_ok-keys.keys in
    let text = text_in texts place in
    let keys_are : keys_now.items ≡ keys ++ key text = c.in_ok-keys.ensures ∙ ap (λ (l : List ℕ). keys ++ key l) c.text_of-text.ensures in
    let places = c.loop-place.places.items in
    let words = words_at texts keys places in
    let word : KeyedWord = record { text = text; key = key text } in
    let words_are : words_at texts keys_now.items c.push.new.self.items ≡ words ++ word ∷ [] =
    words_with texts keys (key text) keys_now.items keys_are place is c.len-key_start.result c.len.result (c.len-key_start.ensures ∙ c.loop-place.keys.ok.0) (c.len.ensures ∙ keys_now.ok.0) places
    c.push.new.self.items c.in_ok-push.ensures.items c.loop-place.invariant.places in
    record {
      places = places_with texts keys (key text) keys_now.items keys_are place is c.len-key_start.result c.len.result (c.len-key_start.ensures ∙ c.loop-place.keys.ok.0) (c.len.ensures ∙ keys_now.ok.0) places
          c.push.new.self.items c.in_ok-push.ensures.items c.loop-place.invariant.places;
      texts = texts_more words (words_at texts keys_now.items c.push.new.self.items) word (texts_at texts c.args.text_places.now)
          (texts_at texts (drop c.loop-place.place-index c.args.text_places.now)) (texts_at texts (drop (c.loop-place.place-index + 1) c.args.text_places.now)) words_are
          (ap (texts_at texts) (drop_more c.args.text_places.now c.loop-place.place-index none c.loop-place-test.true)) c.loop-place.invariant.texts;
      keyed = keys_more key words (words_at texts keys_now.items c.push.new.self.items) word words_are refl c.loop-place.invariant.keyed;
    }

pub returns-clause-texts : goal.returns-clause-texts
returns-clause-texts c =
    let texts = c.args.texts.now in
    let words = words_at texts c.loop-place.keys.items c.loop-place.places.items in
    sym
    (c.loop-place.invariant.texts
    ∙ ap (λ (places : List TextPlace). texts_of words ++ texts_at texts places) (drop_all c.loop-place.place-index c.args.text_places.now (omega (arith, c.loop-place-test.false)))
    ∙ append-nil (texts_of words))
