-- The prefix is the longest where it is an element's string.
use Rattle.std.proofs.Common.{sym, ap, refl, ◌∙◌, chars}
use Rattle.std.specs.Option.{option_copied}
use Rattle.coll_nodes.specs.ElementTexts.{element_entry}
use Rattle.coll_nodes.specs.TableLayout.{collation}
use Rattle.coll_elements.proofs.ElementEntries.{prefix_is, prefix_is_none, next_prefix}
use Rattle.coll_elements.proofs.element_entries.longer_prefix.Goals as goal

pub returns-in-Some : goal.returns-in-Some
returns-in-Some c = λ size counted shorter.
    let text = chars c.args.text.now in
    let prefix = chars c.before-2.result.now in
    let is = next_prefix text prefix (chars c.args.rest.now) size c.before-2.ensures counted in
    prefix_is (element_entry (collation c.args.table.now)) text prefix size is c.in-Some.entry.now _ (sym c.element_entry.ensures ∙ ap option_copied c.in-Some.is) refl c.before-2.ensures counted

pub returns-in-None : goal.returns-in-None
returns-in-None c = λ size counted shorter.
    let text = chars c.args.text.now in
    let prefix = chars c.before-2.result.now in
    let is = next_prefix text prefix (chars c.args.rest.now) size c.before-2.ensures counted in
    prefix_is_none (element_entry (collation c.args.table.now)) text prefix size is _ (sym c.element_entry.ensures ∙ ap option_copied c.in-None.is) shorter
