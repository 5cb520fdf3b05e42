-- One word more is the same as the one before it.
use Rattle.std.proofs.Common.{◌≡◌, ◌∙◌, sym, ap, chars, arith, rules}
use Rattle.std.proofs.lemmas.List.Sorted.{all_adjacent_more}
use Rattle.coll_word_lists.specs.KeyedWords.{texts_of}
use Rattle.coll_words.proofs.TiedLemmas.{neighbours_alike}
use Rattle.coll_words.proofs.tied_words.are_same.Goals as goal

pub words-preserved : goal.words-preserved
words-preserved c =
    let bytes : c.text.result.now ≡ c.text-in-words.result.now = search rules in
    record {
      above = omega arith;
      alike = all_adjacent_more (texts_of c.args.words.now) (λ word other. word ≡ other) c.words.place c.words.invariant.above c.words.invariant.alike
          (neighbours_alike c.args.words.now c.words.place c.index-words-place.result c.index-words-place-in-words.result c.words.invariant.above c.words-test.true c.index-words-place.is
          c.index-words-place-in-words.is (sym c.text.ensures.text ∙ ap chars bytes ∙ c.text-in-words.ensures.text));
    }
