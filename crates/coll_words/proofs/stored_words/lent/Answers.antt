-- The lead 0 is that of no digit.
use Rattle.std.proofs.Common.{◌≡◌, ◌∷◌, [], chars, slice_range, sym, subst, rules}
use Rattle.coll_word_lists.specs.KeyedWords.{KeyedWord}
use Rattle.coll_words.specs.LentWords.{IsLent}
use Rattle.coll_words.specs.StoredWords.{text_at, word_at}
use Rattle.coll_words.proofs.LentLemmas.{led_zero}
use Rattle.coll_words.proofs.stored_words.lent.Goals as goal

pub returns : goal.returns
returns c =
    let texts = c.args.texts.now in
    let keys = c.args.keys.now in
    let place = c.args.place.now in
    let word = word_at texts keys place in
    let is : c.new.result ≡ record { text = chars (text_at texts place); key = 0 ∷ slice_range keys place.key place.key_end } = search rules in
    subst (λ (lent : KeyedWord). IsLent [] 1 0 word lent) (sym is) (led_zero word)
