-- Each word that moves is put behind those that come before it, and the rest behind all.
use Rattle.std.proofs.Common.{◌++◌, List, arith}
use Rattle.std.specs.List.Sorted.{IsPermutation}
use Rattle.std.proofs.lemmas.List.Sorted.{IsPermutation-append_comm, IsPermutation-trans}
use Rattle.coll_nodes.specs.TableLayout.{collation}
use Rattle.coll_reviews.specs.MovedWords.{StandInOrder}
use Rattle.coll_reviews.specs.declared.listed_words.ListedWord.{ListedWord}
use Rattle.coll_reviews.proofs.OrderedWords.{all_ordered, all_same, none_together, nothing_left, one_together, rest_of}
use Rattle.coll_reviews.proofs.moved_words.put_together.Goals as goal

pub moved-init : goal.moved-init
moved-init c = record {
  together = none_together (collation c.args.table.now) c.args.moved.now.items c.args.kept.now.items c.args.list.now.items c.requires.none c.requires.moved c.requires.kept;
  serves = c.requires.order;
}

pub moved-preserved : goal.moved-preserved
moved-preserved c = record {
  together = one_together (collation c.args.table.now) c.args.moved.now.items c.args.kept.now.items c.moved.list.items c.moved.moved.items c.moved.kept.items c.moved.invariant.together c.pop.new.self.items
      c.in-Some.next c.in-Some.ensures.items c.put_before.new.list.items c.put_before.new.kept.items c.in_ok-put_before.ensures.put c.push.new.self.items c.in_ok-push.ensures.items;
  serves = c.in_ok-put_before.ensures.serves;
}

pub returns-clause-same : goal.returns-clause-same
returns-clause-same c =
    rest_of (λ (l : List ListedWord). IsPermutation (c.args.kept.now.items ++ c.args.moved.now.items) l) c.put_rest.result c.put_rest.new.list.items _ c.put_rest.ensures
    (IsPermutation-trans _ _ _ (IsPermutation-append_comm c.args.kept.now.items c.args.moved.now.items)
    (all_same (collation c.args.table.now) c.args.moved.now.items c.args.kept.now.items c.moved.list.items c.moved.moved.items c.moved.kept.items c.moved.invariant.together
    (nothing_left c.moved.moved.items (omega (arith, c.moved.moved.ok.0, c.in_default.ensures.cases.0)))))

pub returns-clause-ordered : goal.returns-clause-ordered
returns-clause-ordered c =
    rest_of (StandInOrder (collation c.args.table.now)) c.put_rest.result c.put_rest.new.list.items _ c.put_rest.ensures
    (all_ordered (collation c.args.table.now) c.args.moved.now.items c.args.kept.now.items c.moved.list.items c.moved.moved.items c.moved.kept.items c.moved.invariant.together)
