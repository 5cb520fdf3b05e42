-- The leads decide where they differ, or the keys do.
use Rattle.std.proofs.Common.{◌∙◌, sym}
use Rattle.coll_words.proofs.LentLemmas.{leads_apart, leads_alike}
use Rattle.coll_words.proofs.lent_words.LentWord.order.Goals as goal

pub returns-then-self-other : goal.returns-then-self-other
returns-then-self-other c =
    let key = c.self.inside.key.now in
    let other = c.other.inside.key.now in
    rw (← c.self.view_is, ← c.other.view_is)
    (c.cmp.ensures ∙ sym (leads_apart c.self.inside.lead c.other.inside.lead key other c.if-self-other.true))

pub returns : goal.returns
returns c =
    let key = c.self.inside.key.now in
    let other = c.other.inside.key.now in
    rw (← c.self.view_is, ← c.other.view_is)
    (c.cmp-2.ensures ∙ sym (leads_alike c.self.inside.lead c.other.inside.lead key other c.if-self-other.false))
