-- The word at a place goes behind those that are lent.
use Rattle.std.proofs.Common.{◌∙◌, ◌+◌, ◌++◌, [], List, get_or, map, drop, ap, arith}
use Rattle.std.proofs.lemmas.List.{drop_all, drop_more}
use Rattle.coll_words.specs.LentWords.{without_lead}
use Rattle.coll_words.specs.StoredWords.{word_at, words_at}
use Rattle.coll_words.specs.declared.stored_words.WordPlace.{WordPlace}
use Rattle.coll_words.proofs.LentLemmas.{all_lent, led_more, no_digits, same_more}
use Rattle.coll_words.proofs.stored_words.lent_plainly.Goals as goal

pub lent-requires : goal.lent-requires
lent-requires c =
    let none : WordPlace = record { text = 0; text_end = 0; key = 0; key_end = 0 } in
    c.requires c.loop-place.place-index none c.loop-place-test.true

pub loop-place-preserved : goal.loop-place-preserved
loop-place-preserved c =
    let none : WordPlace = record { text = 0; text_end = 0; key = 0; key_end = 0 } in
    let words = words_at c.args.texts.now c.args.keys.now in
    let lent = c.loop-place.words.items in
    let more = c.in_ok-push.ensures.items in
    let is = c.lent.ensures in
    record {
      same = same_more (words c.args.places.now) lent c.push.new.self.items (words (drop (c.loop-place.place-index + 1) c.args.places.now)) c.lent.result
          (word_at c.args.texts.now c.args.keys.now (get_or c.args.places.now c.loop-place.place-index none))
          (c.loop-place.invariant.same
          ∙ ap (λ (places : List WordPlace). map without_lead lent ++ words places) (drop_more c.args.places.now c.loop-place.place-index none c.loop-place-test.true))
          is.same more;
      led = led_more [] 1 0 lent c.push.new.self.items c.lent.result (word_at c.args.texts.now c.args.keys.now (get_or c.args.places.now c.loop-place.place-index none)) is more c.loop-place.invariant.led;
    }

pub returns : goal.returns
returns c =
    all_lent [] 1 0 (words_at c.args.texts.now c.args.keys.now c.args.places.now) c.loop-place.words.items no_digits c.loop-place.invariant.led
    (c.loop-place.invariant.same
    ∙ ap (λ (places : List WordPlace). map without_lead c.loop-place.words.items ++ words_at c.args.texts.now c.args.keys.now places)
    (drop_all c.loop-place.place-index c.args.places.now (omega (arith, c.loop-place-test.false))))
