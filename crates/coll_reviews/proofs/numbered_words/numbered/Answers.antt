-- Each word in turn, up to the last.
use Rattle.std.proofs.Common.{arith, ◌∙◌, ◌+◌, ◌++◌, ◌∷◌, [], sym, ap, subst}
use Rattle.std.proofs.lemmas.Iterator.Adapters.{YieldsList-from_vec}
use Rattle.std.proofs.lemmas.Iterator.Consumers.{YieldsList-turn, YieldsList-end}
use Rattle.coll_word_lists.specs.KeyedWords.{texts_of}
use Rattle.coll_word_lists.specs.NumberedWords.{numbered_from}
use Rattle.coll_reviews.proofs.KeptLemmas.{NumberedSoFar, as_many_numbered, one_more_numbered, same_words}
use Rattle.coll_reviews.proofs.numbered_words.numbered.Goals as goal

pub push_reserved-requires : goal.push_reserved-requires
push_reserved-requires c =
    let b = c.into_iter-word-iterator.ensures.into_iter_gives in
    let turn = YieldsList-turn (YieldsList-from_vec {s = c.into_iter-word-iterator.result} c.args.words.items b.0 (b.1 ∙ c.args.words.ok.0)) c.loop-word.yielded c.loop-word.word-iterator
    c.loop-word.yielded_by
    c.next.result c.next.new.self c.in-Some.word c.in-Some.is c.next.ensures.steps in
    omega (arith, c.loop-word.invariant.room, as_many_numbered c.loop-word.yielded c.loop-word.list.items c.loop-word.invariant.numbered, turn.0, c.loop-word.list.ok.0, c.args.words.ok.0)

pub loop-word-preserved : goal.loop-word-preserved
loop-word-preserved c = record {
  numbered = subst (NumberedSoFar (c.loop-word.yielded ++ c.in-Some.word ∷ [])) (sym c.push_reserved.ensures.items)
      (one_more_numbered c.loop-word.yielded c.loop-word.list.items c.loop-word.invariant.numbered c.in-Some.word (c.len-line.result + 1)
      (omega (arith, c.len-line.ensures, c.loop-word.list.ok.0)));
  room = c.push_reserved.ensures.capacity ∙ c.loop-word.invariant.room;
}

pub returns-clause-lines : goal.returns-clause-lines
returns-clause-lines c =
    let b = c.into_iter-word-iterator.ensures.into_iter_gives in
    let all = YieldsList-end (YieldsList-from_vec {s = c.into_iter-word-iterator.result} c.args.words.items b.0 (b.1 ∙ c.args.words.ok.0)) c.loop-word.yielded c.loop-word.word-iterator
    c.loop-word.yielded_by
    c.next.result c.next.new.self c.in-None.is c.next.ensures.steps in
    c.loop-word.invariant.numbered.lines ∙ ap (λ words. numbered_from 1 (texts_of words)) (sym (same_words c.loop-word.yielded) ∙ all.0)

pub returns-clause-words : goal.returns-clause-words
returns-clause-words c =
    let b = c.into_iter-word-iterator.ensures.into_iter_gives in
    let all = YieldsList-end (YieldsList-from_vec {s = c.into_iter-word-iterator.result} c.args.words.items b.0 (b.1 ∙ c.args.words.ok.0)) c.loop-word.yielded c.loop-word.word-iterator
    c.loop-word.yielded_by
    c.next.result c.next.new.self c.in-None.is c.next.ensures.steps in
    c.loop-word.invariant.numbered.words_are ∙ sym (same_words c.loop-word.yielded) ∙ all.0
