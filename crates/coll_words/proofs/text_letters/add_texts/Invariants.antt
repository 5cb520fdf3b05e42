-- Each text is looked at once.
use Rattle.std.proofs.Common.{◌-◌, length}
use Rattle.coll_words.proofs.text_letters.add_texts.Given as goal

abbrev pub decreases-texts : goal.decreases-texts
decreases-texts l = length l.texts - l.place
