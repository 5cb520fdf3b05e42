-- The changes that are left lead to the layout behind all of them.
use Rattle.std.proofs.Common.{◌≡◌}
use Rattle.std.specs.Prelude.{All, IsTrue}
use Rattle.std.specs.Vec.Iter.{into_iter_items}
use Rattle.coll_order.specs.Layout.{is_in}
use Rattle.coll_texts.specs.OwnWeights.{changed_nodes}
use Rattle.coll_texts.specs.declared.own_weights.Change.{Change}
use Rattle.coll_texts.proofs.own_weights.exchange_all.Given as goal

abbrev pub invariant-loop-change : goal.invariant-loop-change
invariant-loop-change l = record {
  rings : l.body.layout.rings ≡ l.fn.body.layout.rings;
  stand : All (λ (change : Change). IsTrue (is_in l.fn.body.layout.rings change.node)) (into_iter_items l.change-iterator);
  left : record l.body.layout { nodes = changed_nodes (into_iter_items l.change-iterator) l.body.layout.nodes }
      ≡ record l.fn.body.layout { nodes = changed_nodes l.fn.changes.items l.fn.body.layout.nodes };
}
