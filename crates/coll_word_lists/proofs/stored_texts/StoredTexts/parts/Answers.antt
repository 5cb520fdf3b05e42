-- The texts are those at the places.
use Rattle.coll_word_lists.proofs.stored_texts.StoredTexts.parts.Goals as goal

pub returns-clause-places : goal.returns-clause-places
returns-clause-places c = rw (c.deref.ensures.value, c.deref-2.ensures.value) c.self.invariant
