-- Each word in turn gets its key.
use Rattle.std.proofs.Common.{arith, ap, sym, subst, ◌∙◌}
use Rattle.coll_word_lists.specs.KeyedWords.{KeyedWord, IsKeyed}
use Rattle.coll_nodes.specs.TableLayout.{collation}
use Rattle.coll_edit_replies.proofs.ToldLemmas.{keyed_more}
use Rattle.coll_edit_replies.proofs.word_lists.key_anew.Goals as goal

pub loop-listed-preserved : goal.loop-listed-preserved
loop-listed-preserved c =
    keyed_more (collation c.args.table.now) c.args.list.now c.loop-listed.list c.loop-listed.listed-index c.loop-listed.invariant c.replace.new.dest c.listed-item.result
    (omega (arith, c.loop-listed-test.true, c.loop-listed.auto.list))
    (ap (λ (word : KeyedWord). word.text) c.replace.ensures.after ∙ c.in-Ok.ensures.text ∙ c.text.ensures.characters)
    (subst (IsKeyed (collation c.args.table.now)) (sym c.replace.ensures.after) c.in-Ok.ensures.key)
