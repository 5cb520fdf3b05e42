-- The words are those at the places.
use Rattle.coll_words.proofs.stored_words.StoredWords.lend.Goals as goal

pub led_at-led-requires : goal.led_at-led-requires
led_at-led-requires c = rw (c.deref-keys.ensures.value, c.deref-places.ensures.value) c.self.invariant

pub lent_plainly-requires : goal.lent_plainly-requires
lent_plainly-requires c = rw (c.deref-keys.ensures.value, c.deref-places.ensures.value) c.self.invariant
