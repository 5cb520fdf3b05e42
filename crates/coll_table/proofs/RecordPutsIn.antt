-- An undone record puts in nodes that are loose, each once, and all others that are loose were loose.
use Rattle.std.proofs.Common.{◌≡◌, true, false, ◌||◌, List, [], ◌∷◌, ◌++◌, Option, Some, None, sym, ap, subst, ◌∙◌, refl}
use Rattle.coll_order.specs.Layout.{is_in}
use Rattle.coll_order.specs.Lists.{same_node, has_node}
use Rattle.coll_order.specs.declared.places.NodeId.{NodeId}
use Rattle.coll_order.specs.declared.places.Place.{Place}
use Rattle.coll_order.proofs.Sameness.{by_test, not_both, same_node_is}
use Rattle.coll_table.proofs.TurningSound.{lands, made_alike, stays_linked}
use Rattle.coll_nodes.specs.Bodies.{IsLooseNode}
use Rattle.coll_table.specs.Record.{AreLoose, CanTurn, added_by, added_nodes, turn, turned_layout}
use Rattle.coll_table.specs.RecordLaws.{UndonePutIn}
use Rattle.coll_nodes.specs.TableLayout.{TableLayout}
use Rattle.coll_table.specs.Turning.{CanGoOn, CanTurnOn, ItemGoes, item_on, turned_on}
use Rattle.coll_table.specs.declared.records.Item.{Item}

-- each node that stood in a ring stands in one once items are done
stays_on : (layout : TableLayout) (items : List Item) (node : NodeId) → CanTurnOn layout items → is_in layout.rings node ≡ true → is_in (turned_on layout items).rings node ≡ true
unfolding CanTurnOn turned_on
stays_on layout [] node goes there = there
stays_on layout (item ∷ items) node goes there = stays_on (item_on layout item) items node goes.1 (stays_linked layout item node goes.0 there)

-- a node that is loose once an item is done was loose
was_loose : (layout : TableLayout) (item : Item) (node : NodeId) → CanGoOn layout item → IsLooseNode (item_on layout item) node → IsLooseNode layout node
was_loose layout item node goes loose = record {
  made = made_alike layout item node loose.made;
  apart = by_test (λ b. is_in layout.rings node ≡ b → b ≡ false) (is_in layout.rings node) (λ on e. not_both (stays_linked layout item node goes e) loose.apart) (λ off e. refl) refl;
}

-- what nodes that items put in are before and after
record PutIn (old new : TableLayout) (nodes : List NodeId) : Type 0 where
  pub loose : AreLoose old nodes
  pub linked : (node : NodeId) → has_node nodes node ≡ true → is_in new.rings node ≡ true
  pub others : (node : NodeId) → IsLooseNode new node → IsLooseNode old node

-- one item more, which put in no node
puts_none : (layout : TableLayout) (item : Item) (new : TableLayout) (nodes : List NodeId) → CanGoOn layout item → PutIn (item_on layout item) new nodes → PutIn layout new nodes
puts_none layout item new nodes goes later = record {
  loose = record { loose = λ node there. was_loose layout item node goes (later.loose.loose node there); once = later.loose.once };
  linked = later.linked;
  others = λ node loose. was_loose layout item node goes (later.others node loose);
}

-- or put in one
puts_one : (layout : TableLayout) (item : Item) (new : TableLayout) (nodes : List NodeId) → CanGoOn layout item → IsLooseNode layout item.node → is_in (item_on layout item).rings item.node ≡ true
    → is_in new.rings item.node ≡ true
    → PutIn (item_on layout item) new nodes → PutIn layout new (item.node ∷ nodes)
puts_one layout item new nodes goes own there still later =
    let after = puts_none layout item new nodes goes later in
    record {
      loose = record {
        loose = λ node has. by_test (λ b. same_node node item.node ≡ b → (b || has_node nodes node) ≡ true → IsLooseNode layout node) (same_node node item.node)
            (λ on e _. subst (λ n. IsLooseNode layout n) (sym (same_node_is node item.node e)) own)
            (λ off e has. after.loose.loose node has) refl has;
        once = (
          by_test (λ b. has_node nodes item.node ≡ b → b ≡ false) (has_node nodes item.node) (λ on e. not_both there (later.loose.loose item.node e).apart) (λ off e. refl) refl,
          after.loose.once,
        );
      };
      linked = λ node has. by_test (λ b. same_node node item.node ≡ b → (b || has_node nodes node) ≡ true → is_in new.rings node ≡ true) (same_node node item.node)
          (λ on e _. ap (is_in new.rings) (same_node_is node item.node e) ∙ still)
          (λ off e has. after.linked node has) refl has;
      others = after.others;
    }

-- all items
puts_in : (layout : TableLayout) (items : List Item) → CanTurnOn layout items → PutIn layout (turned_on layout items) (added_nodes items)
unfolding CanTurnOn turned_on added_nodes
puts_in layout [] goes = record { loose = record { loose = λ node there. not_both there refl; once = tt }; linked = λ node there. not_both there refl; others = λ node loose. loose }
puts_in layout (item ∷ items) goes = by item.old item.new refl refl (puts_in (item_on layout item) items goes.1) where
  by : (had gets : Option Place) → item.old ≡ had → item.new ≡ gets → PutIn (item_on layout item) (turned_on (item_on layout item) items) (added_nodes items)
      → PutIn layout (turned_on (item_on layout item) items) (added_by had gets item.node ++ added_nodes items)
  by None None was is later = puts_none layout item (turned_on (item_on layout item) items) (added_nodes items) goes.0 later
  by (Some other) gets was is later = puts_none layout item (turned_on (item_on layout item) items) (added_nodes items) goes.0 later
  by None (Some place) was is later =
      let there : is_in (item_on layout item).rings item.node ≡ true = lands layout item place is goes.0 in
      puts_one layout item (turned_on (item_on layout item) items) (added_nodes items) goes.0 (own item.new item.old is was goes.0) there (stays_on (item_on layout item) items item.node goes.1 there)
      later where
        own : (gets had : Option Place) → gets ≡ Some place → had ≡ None → ItemGoes gets had layout item.node had gets → IsLooseNode layout item.node
        own None had is was goes = cc
        own (Some to) None is was goes = goes.stands
        own (Some to) (Some from) is was goes = cc

-- each undone record that fits puts its nodes in
pub undone_puts_in : UndonePutIn
unfolding turn
undone_puts_in table kept is undone fits =
    let puts = puts_in table.layout kept.items (subst (λ b. CanTurn b table.layout kept.items) undone fits.goes) in
    let same : turned_on table.layout kept.items ≡ turned_layout kept.undone table.layout kept.items = ap (λ b. turned_layout b table.layout kept.items) (sym undone) in
    record {
      loose = puts.loose;
      linked = λ node there. ap (λ (l : TableLayout). is_in l.rings node) (sym same) ∙ puts.linked node there;
      others = λ node loose. puts.others node (subst (λ l. IsLooseNode l node) (sym same) loose);
    }
