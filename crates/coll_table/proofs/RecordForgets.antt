-- A record that is given up: the nodes that an undone one added are dropped, one after another, and the table stays.
use Rattle.std.proofs.Common.{◌≡◌, ℕ, suc, ◌+◌, ◌<◌, ◌≤◌, Bool, true, false, not, ◌||◌, cond, List, [], ◌∷◌, ◌++◌, Option, Some}
use Rattle.std.proofs.Common.{None, IsSome, length, drop, get_or, drop-cons, sym, ap, subst, ◌∙◌, refl, arith}
use Rattle.std.proofs.Math.ListN.{drop_of_length-le}
use Rattle.coll_order.specs.Lists.{same_node, has_node}
use Rattle.coll_order.specs.declared.places.NodeId.{NodeId}
use Rattle.coll_order.specs.declared.places.Place.{Place}
use Rattle.coll_order.proofs.ListLemmas.{or_second}
use Rattle.coll_order.proofs.Sameness.{by_test, not_both, same_node_is}
use Rattle.coll_syntax.specs.declared.rules.Rule.{Rule}
use Rattle.coll_table.proofs.RecordExtends.{same_collation}
use Rattle.coll_nodes.specs.Bodies.{BodyValue, value_of}
use Rattle.coll_nodes.specs.Linking.{nodes_without}
use Rattle.coll_table.specs.Record.{AreLoose, added_by, added_nodes, dropped_nodes, item_added, without_loose, without_nodes}
use Rattle.coll_nodes.specs.SoundLayouts.{IsTable}
use Rattle.coll_nodes.specs.TableLayout.{MadeNode, TableLayout, TableValue, collation, content_among}
use Rattle.coll_nodes.specs.WellFormed.{IsWellFormed}
use Rattle.coll_table.specs.declared.records.Item.{Item}
use Rattle.coll_table.specs.declared.records.Record.{Record}

-- nodes of which none is dropped
none_without : (nodes : List MadeNode) → nodes_without [] nodes ≡ nodes
none_without [] = refl
none_without (first ∷ later) = ap (λ nodes. first ∷ nodes) (none_without later)

-- nodes without one, and then without others
more_without : (node : NodeId) (others : List NodeId) (nodes : List MadeNode) → nodes_without (node ∷ others) nodes ≡ nodes_without others (nodes_without (node ∷ []) nodes)
more_without node others [] = refl
more_without node others (first ∷ later) =
    by_test (λ b. cond (not (b || has_node others first.node)) (first ∷ nodes_without (node ∷ others) later) (nodes_without (node ∷ others) later)
    ≡ nodes_without others (cond (not (b || false)) (first ∷ nodes_without (node ∷ []) later) (nodes_without (node ∷ []) later))) (same_node first.node node)
    (λ on. more_without node others later)
    (λ off. ap (λ rest. cond (not (has_node others first.node)) (first ∷ rest) rest) (more_without node others later))

-- what a node is that isn't dropped
pub content_without : (dropped : List NodeId) (nodes : List MadeNode) (node : NodeId) → has_node dropped node ≡ false → content_among (nodes_without dropped nodes) node ≡ content_among nodes node
content_without dropped [] node stays = refl
content_without dropped (first ∷ later) node stays =
    by_test (λ b. has_node dropped first.node ≡ b → content_among (cond (not b) (first ∷ nodes_without dropped later) (nodes_without dropped later)) node ≡ content_among (first ∷ later) node)
    (has_node dropped first.node)
    (λ on e. by_test (λ b. same_node node first.node ≡ b → content_among (nodes_without dropped later) node ≡ cond b (Some first.content) (content_among later node)) (same_node node first.node)
    (λ same f. not_both (ap (has_node dropped) (same_node_is node first.node f) ∙ e) stays)
    (λ differ f. content_without dropped later node stays) refl)
    (λ off e. ap (λ found. cond (same_node node first.node) (Some first.content) found) (content_without dropped later node stays)) refl

-- nodes behind one that is dropped are loose still
loose_behind : (layout : TableLayout) (node : NodeId) (others : List NodeId) → AreLoose layout (node ∷ others) → AreLoose (without_loose layout (node ∷ [])) others
loose_behind layout node others are = record {
  loose = λ other there.
      let was = are.loose other (or_second (same_node other node) _ there) in
      let differ : same_node other node ≡ false = by_test (λ b. same_node other node ≡ b → b ≡ false) (same_node other node)
      (λ on e. not_both (ap (has_node others) (sym (same_node_is other node e)) ∙ there) are.once.0) (λ off e. refl) refl in
      record {
        made = subst (λ (found : Option _). IsSome found) (sym (content_without (node ∷ []) layout.nodes other (ap (λ b. b || false) differ))) was.made;
        apart = was.apart;
      };
  once = are.once.1;
}

-- one item more
abbrev Drops : TableLayout → List NodeId → List NodeId → Type 0
Drops layout prefix rest = AreLoose layout prefix × AreLoose (without_loose layout prefix) rest × (without_loose layout (prefix ++ rest) ≡ without_loose (without_loose layout prefix) rest)

drops_none : (layout : TableLayout) (rest : List NodeId) → AreLoose layout rest → Drops layout [] rest
drops_none layout rest are =
    let same : without_loose layout [] ≡ layout = ap (λ nodes. record layout { nodes = nodes }) (none_without layout.nodes) in
    (record { loose = λ node there. not_both there refl; once = tt }, subst (λ l. AreLoose l rest) (sym same) are, ap (λ l. without_loose l rest) (sym same))

drops_one : (layout : TableLayout) (node : NodeId) (rest : List NodeId) → AreLoose layout (node ∷ rest) → Drops layout (node ∷ []) rest
drops_one layout node rest are = (
  record {
    loose = λ other there. are.loose other (by_test (λ b. (b || false) ≡ true → (b || has_node rest other) ≡ true) (same_node other node) (λ on e. refl) (λ off e. not_both e refl) there);
    once = (refl, tt);
  },
  loose_behind layout node rest are,
  ap (λ nodes. record layout { nodes = nodes }) (more_without node rest layout.nodes),
)

drops : (had gets : Option Place) (node : NodeId) (layout : TableLayout) (rest : List NodeId) → AreLoose layout (added_by had gets node ++ rest) → Drops layout (added_by had gets node) rest
drops None None node layout rest are = drops_none layout rest are
drops None (Some place) node layout rest are = drops_one layout node rest are
drops (Some place) gets node layout rest are = drops_none layout rest are

-- the items up to a number are given up, and the nodes of those from it on are loose
pub record AreDropped (first : TableLayout) (items : List Item) (before at : ℕ) (layout : TableLayout) (steps : ℕ) : Type 0 where
  pub loose : AreLoose layout (added_nodes (drop at items))
  pub goes_on : without_loose first (added_nodes items) ≡ without_loose layout (added_nodes (drop at items))
  pub counted : steps ≡ before

module _ (first : TableLayout) (items : List Item) (before at : ℕ) (layout : TableLayout) (steps : ℕ) (are : AreDropped first items before at layout steps) (below : at < length items) (item : Item)
    (is_item : item ≡ get_or items at item) where
  next_item : drop at items ≡ item ∷ drop (suc at) items
  next_item = drop-cons items at item below ∙ ap (λ own. own ∷ drop (suc at) items) (sym is_item)

  next_drops : Drops layout (item_added item) (added_nodes (drop (suc at) items))
  unfolding added_nodes
  next_drops = drops item.old item.new item.node layout (added_nodes (drop (suc at) items)) (subst (λ xs. AreLoose layout (added_nodes xs)) next_item are.loose)

  -- the node of the next item is loose, if the item added it
  pub drop_next : AreLoose layout (item_added item)
  drop_next = next_drops.0

  -- then one item more is given up
  pub drop_more : (after : TableLayout) (now : ℕ) → after ≡ without_loose layout (item_added item) → now ≡ steps → AreDropped first items before (at + 1) after now
  unfolding added_nodes
  drop_more after now is same =
      let next : suc at ≡ at + 1 = omega arith in
      subst (λ k. AreDropped first items before k after now) next (record {
        loose = subst (λ l. AreLoose l (added_nodes (drop (suc at) items))) (sym is) next_drops.1;
        goes_on = are.goes_on ∙ (ap (λ xs. without_loose layout (added_nodes xs)) next_item ∙ (next_drops.2 ∙ ap (λ l. without_loose l (added_nodes (drop (suc at) items))) (sym is)));
        counted = same ∙ are.counted;
      })

-- at the end all are
pub drop_done : (first : TableLayout) (items : List Item) (before at : ℕ) (layout : TableLayout) (steps : ℕ) → AreDropped first items before at layout steps → length items ≤ at
    → layout ≡ without_loose first (added_nodes items)
unfolding added_nodes
drop_done first items before at layout steps are all =
    sym (are.goes_on ∙ (ap (λ xs. without_loose layout (added_nodes xs)) (drop_of_length-le items all) ∙ ap (λ nodes. record layout { nodes = nodes }) (none_without layout.nodes)))

-- Tables.

-- without loose nodes a table stands for what it stood for
pub well_formed_without : (table : TableValue) (nodes : List NodeId) → IsTable table → AreLoose table.layout nodes → IsWellFormed (collation (without_nodes table nodes))
unfolding without_nodes
well_formed_without table nodes is are =
    subst (λ it. IsWellFormed it) (sym (same_collation table (without_nodes table nodes) refl is.sound (record {
      rings = refl;
      contents = λ node linked. content_without nodes table.layout.nodes node
          (by_test (λ b. has_node nodes node ≡ b → b ≡ false) (has_node nodes node) (λ on e. not_both linked (are.loose node e).apart) (λ off e. refl) refl);
    }))) is.well_formed

-- without none it is the table
pub without_none : (table : TableValue) → without_nodes table [] ≡ table
unfolding without_nodes
without_none table = ap (λ nodes. record table { layout = record table.layout { nodes = nodes } }) (none_without table.layout.nodes)

-- an item that added no node leaves the layout
pub item_added_none : (had gets : Option Place) (layout : TableLayout) (node : NodeId) → gets ≡ None → layout ≡ without_loose layout (added_by had gets node)
item_added_none None None layout node is = ap (λ nodes. record layout { nodes = nodes }) (sym (none_without layout.nodes))
item_added_none None (Some place) layout node is = cc
item_added_none (Some place) gets layout node is = ap (λ nodes. record layout { nodes = nodes }) (sym (none_without layout.nodes))

pub item_moved_none : (had gets : Option Place) (layout : TableLayout) (node : NodeId) (place : Place) → had ≡ Some place → layout ≡ without_loose layout (added_by had gets node)
item_moved_none None gets layout node place is = cc
item_moved_none (Some other) gets layout node place is = ap (λ nodes. record layout { nodes = nodes }) (sym (none_without layout.nodes))

-- a table whose record is in force stays when that is given up
pub kept_nodes : (table : TableValue) (kept : Record) → kept.undone ≡ false → table ≡ without_nodes table (dropped_nodes kept)
kept_nodes table kept is = sym (ap (without_nodes table) (none kept.undone is) ∙ without_none table) where
  none : (undone : Bool) → undone ≡ false → cond undone (added_nodes kept.items) [] ≡ []
  none true is = cc
  none false is = refl

-- a body from which the added nodes were dropped
pub forgotten_body : (rules : List Rule) (body new : BodyValue) (table : TableValue) (kept : Record) (given : List Item) → value_of rules body ≡ table → kept.undone ≡ true → given ≡ kept.items
    → new.layout ≡ without_loose body.layout (added_nodes given) → new.steps ≡ body.steps → value_of rules new ≡ without_nodes table (dropped_nodes kept)
unfolding without_nodes
forgotten_body rules body new table kept given view undone same is_layout is_steps =
    let nodes : dropped_nodes kept ≡ added_nodes given = all kept.undone undone ∙ ap added_nodes (sym same) in
    ap (λ layout. record { rules = rules; layout = layout; steps = new.steps }) is_layout
    ∙ (ap (λ steps. record { rules = rules; layout = without_loose body.layout (added_nodes given); steps = steps }) is_steps
    ∙ (ap (λ (t : TableValue). record t { layout = without_loose t.layout (added_nodes given) }) view
    ∙ ap (without_nodes table) (sym nodes))) where
      all : (undone : Bool) → undone ≡ true → cond undone (added_nodes kept.items) [] ≡ added_nodes kept.items
      all true is = refl
      all false is = cc
