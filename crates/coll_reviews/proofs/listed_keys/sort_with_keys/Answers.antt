-- The words get keys, are sorted by these, and lose them.
use Rattle.std.proofs.Common.{List, map, sym, ap, subst, ◌∙◌}
use Rattle.coll_nodes.specs.TableLayout.{collation}
use Rattle.coll_reviews.specs.ListedKeys.{word_of}
use Rattle.coll_reviews.specs.MovedWords.{StandInOrder}
use Rattle.coll_reviews.specs.declared.listed_keys.KeyedListed.{KeyedListed}
use Rattle.coll_reviews.proofs.ListedKeyLemmas.{moved_so}
use Rattle.coll_reviews.proofs.listed_keys.sort_with_keys.Goals as goal

pub returns : goal.returns
returns c =
    let words_are = c.in_ok-sorted.ensures ∙ ap (λ (l : List KeyedListed). map word_of l) c.deref-2.ensures.value in
    record {
      moved = moved_so c.args.list.now.items c.in_ok-sorted.sorted.items c.in_ok-keyed.keyed.items c.sort_keyed.new.keyed.items (c.in_ok-keyed.ensures.words ∙ c.deref.ensures.value) words_are
          c.in_ok-sort_keyed.ensures.same;
      ordered = subst (StandInOrder (collation c.args.table.now)) (sym words_are)
          (c.in_ok-sort_keyed.ensures.sorted (collation c.args.table.now) c.lemma_well_formed.ensures.well_formed c.in_ok-keyed.ensures.keys);
    }
