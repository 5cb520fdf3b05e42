-- Words that are all the same are sorted, and those that are sorted are as many.
use Rattle.std.proofs.Common.{◌∙◌, length, sym, ap}
use Rattle.std.proofs.lemmas.List.{length-map}
use Rattle.std.proofs.lemmas.List.Sorted.{length_permutation}
use Rattle.coll_nodes.specs.TableLayout.{collation}
use Rattle.coll_word_lists.specs.KeyedWords.{KeyedWord, texts_of}
use Rattle.coll_words.proofs.TiedLemmas.{alike_sorted}
use Rattle.coll_words.proofs.tied_words.sort_run.Goals as goal

pub returns-then-are_same : goal.returns-then-are_same
returns-then-are_same c =
    alike_sorted (collation c.args.table.now) c.lemma_well_formed.ensures.well_formed (texts_of c.args.run.now) (c.are_same.ensures c.if-are_same.true)

pub put_texts-requires : goal.put_texts-requires
put_texts-requires c =
    let text = λ (word : KeyedWord). word.text in
    sym (length-map c.args.run.now text)
    ∙ sym (length_permutation (texts_of c.args.run.now) (texts_of c.in-Ok.tied.items) c.in-Ok.ensures.same)
    ∙ length-map c.in-Ok.tied.items text
    ∙ sym (ap length c.deref.ensures.value)
