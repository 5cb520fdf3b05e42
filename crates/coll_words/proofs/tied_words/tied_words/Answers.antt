-- One word more has its text and its key.
use Rattle.std.proofs.Common.{◌≡◌, ◌++◌, ◌∷◌, [], ◌∙◌, List, ap, arith, subst, sym}
use Rattle.std.proofs.lemmas.List.Elements.{All-append, All-cons, All-nil}
use Rattle.std.specs.Prelude.{All}
use Rattle.coll_nodes.specs.Table.{Collation}
use Rattle.coll_nodes.specs.TableLayout.{collation}
use Rattle.coll_word_lists.specs.KeyedWords.{AreKeyed, IsKeyed, KeyedWord}
use Rattle.coll_reviews.proofs.KeptLemmas.{all_alike, one_more_alike}
use Rattle.coll_words.proofs.tied_words.tied_words.Goals as goal

one_more_keyed : (table : Collation) (words with : List KeyedWord) (word : KeyedWord) → with ≡ words ++ word ∷ [] → IsKeyed table word → AreKeyed table words → AreKeyed table with
one_more_keyed table words with word is key keyed =
    subst (All (IsKeyed table)) (sym is) (All-append (IsKeyed table) words (word ∷ []) keyed (All-cons (IsKeyed table) word [] key (All-nil (IsKeyed table))))

pub loop-word-preserved : goal.loop-word-preserved
loop-word-preserved c =
    let text = λ (word : KeyedWord). word.text in
    record {
      texts = one_more_alike text text c.loop-word.tied.items c.push.new.self.items c.in_ok-word.word c.args.run.now c.loop-word.word-index c.word-item.result (omega (arith, c.loop-word-test.true))
          c.loop-word.invariant.texts c.in_ok-push.ensures.items (c.in_ok-word.ensures.text ∙ c.text.ensures.text ∙ ap text c.word-item.is);
      keyed = one_more_keyed (collation c.args.table.now) c.loop-word.tied.items c.push.new.self.items c.in_ok-word.word c.in_ok-push.ensures.items c.in_ok-word.ensures.key c.loop-word.invariant.keyed;
    }

pub returns-clause-texts : goal.returns-clause-texts
returns-clause-texts c =
    let text = λ (word : KeyedWord). word.text in
    all_alike text text c.loop-word.tied.items c.args.run.now c.loop-word.word-index c.loop-word-test.false c.loop-word.invariant.texts
