-- Records that are given up: the nodes that they would put in are dropped, and those of the others stay.
use Rattle.std.proofs.Common.{◌≡◌, Bool, true, false, not, ◌||◌, cond, List, [], ◌∷◌, ◌++◌, Option, Some, None, reverse, refl, sym, ap, ◌∙◌, subst}
use Rattle.std.specs.Prelude.{IsSome, is_some}
use Rattle.std.proofs.lemmas.Bool.{false≢true}
use Rattle.std.proofs.lemmas.List.Folds.{list_any-append}
use Rattle.coll_order.specs.Layout.{is_in}
use Rattle.coll_order.specs.Lists.{has_node, same_node}
use Rattle.coll_order.specs.Sound.{AreDistinct}
use Rattle.coll_order.specs.declared.places.NodeId.{NodeId}
use Rattle.coll_order.proofs.Sameness.{by_test, not_both, same_node_is, same_node_itself}
use Rattle.coll_history.proofs.HistorySteps.{reversed}
use Rattle.coll_nodes.specs.Bodies.{IsLooseNode}
use Rattle.coll_history.specs.Kept.{added_by_all, LeadsOn}
use Rattle.coll_nodes.specs.Linking.{nodes_without}
use Rattle.coll_table.specs.Record.{AreLoose, Extends, KeepsLoose, added_nodes, dropped_nodes, turn, without_nodes}
use Rattle.coll_table.specs.RecordLaws.{RecordsTurnBack, UndonePutIn}
use Rattle.coll_nodes.specs.SoundLayouts.{IsTable}
use Rattle.coll_nodes.specs.TableLayout.{TableLayout, TableValue, MadeNode, content_of, content_among}
use Rattle.coll_nodes.specs.declared.contents.Content.{Content}
use Rattle.coll_history.specs.declared.histories.Kept.{Kept}

has_joined : (a b : List NodeId) (node : NodeId) → has_node (a ++ b) node ≡ (has_node a node || has_node b node)
has_joined a b node = list_any-append (same_node node) a b

neither : (x y : Bool) → (x || y) ≡ false → (x ≡ false) × (y ≡ false)
neither true y e = absurd (false≢true (sym e))
neither false y e = (refl, e)

-- what holds of two lists of nodes in which none is named twice
record AreApart (a b : List NodeId) : Type 0 where
  pub first : AreDistinct a
  pub second : AreDistinct b
  pub apart : (node : NodeId) → has_node b node ≡ true → has_node a node ≡ false

apart_parts : (a b : List NodeId) → AreDistinct (a ++ b) → AreApart a b
apart_parts [] b d = record { first = tt; second = d; apart = λ node there. refl }
apart_parts (x ∷ a) b d =
    let rest = apart_parts a b d.1 in
    let out = neither (has_node a x) (has_node b x) (sym (has_joined a b x) ∙ d.0) in
    record {
      first = (out.0, rest.first);
      second = rest.second;
      apart = λ node there.
          by_test (λ t. (t || has_node a node) ≡ false) (same_node node x)
          (λ same. not_both there (ap (has_node b) (same_node_is node x same) ∙ out.1))
          (λ other. rest.apart node there);
    }

apart_joined : (a b : List NodeId) → AreDistinct a → AreDistinct b → ((node : NodeId) → has_node a node ≡ true → has_node b node ≡ false) → AreDistinct (a ++ b)
apart_joined [] b first second apart = second
apart_joined (x ∷ a) b first second apart = (
  has_joined a b x ∙ ap (λ t. t || has_node b x) first.0 ∙ apart x (ap (λ t. t || has_node a x) (same_node_itself x)),
  apart_joined a b first.1 second (λ node there. apart node (or_later (same_node node x) (has_node a node) there)),
) where
  or_later : (t u : Bool) → u ≡ true → (t || u) ≡ true
  or_later true u e = refl
  or_later false u e = e

-- A layout without some nodes.

still_there : (dropped : List NodeId) (nodes : List MadeNode) (node : NodeId) → has_node dropped node ≡ false → content_among (nodes_without dropped nodes) node ≡ content_among nodes node
still_there dropped [] node kept = refl
still_there dropped (first ∷ later) node kept =
    by_test (λ t. content_among (cond (not t) (first ∷ nodes_without dropped later) (nodes_without dropped later)) node ≡ content_among (first ∷ later) node) (has_node dropped first.node)
    (λ out. still_there dropped later node kept
    ∙ by_test (λ t. content_among later node ≡ cond t (Some first.content) (content_among later node)) (same_node node first.node)
    (λ same. not_both (ap (has_node dropped) (same_node_is node first.node same) ∙ out) kept) (λ other. refl))
    (λ stays. ap (cond (same_node node first.node) (Some first.content)) (still_there dropped later node kept))

none_there : (dropped : List NodeId) (nodes : List MadeNode) (node : NodeId) → has_node dropped node ≡ true → content_among (nodes_without dropped nodes) node ≡ None
none_there dropped [] node out = refl
none_there dropped (first ∷ later) node out =
    by_test (λ t. content_among (cond (not t) (first ∷ nodes_without dropped later) (nodes_without dropped later)) node ≡ None) (has_node dropped first.node)
    (λ gone. none_there dropped later node out)
    (λ stays. by_test (λ t. cond t (Some first.content) (content_among (nodes_without dropped later) node) ≡ None) (same_node node first.node)
    (λ same. not_both out (ap (has_node dropped) (same_node_is node first.node same) ∙ stays))
    (λ other. none_there dropped later node out))

no_content : (it : Content) → None ≡ Some it → ⊥
no_content it e = absurd (false≢true (ap is_some e))

-- a table extends itself without some loose nodes
pub extends_without : (table : TableValue) (dropped : List NodeId) → Extends table (without_nodes table dropped)
unfolding without_nodes
extends_without table dropped = record {
  rules = refl;
  rings = refl;
  nodes = λ node it there.
      by_test (λ t. has_node dropped node ≡ t → content_of table.layout node ≡ Some it) (has_node dropped node)
      (λ out e. absurd (no_content it (sym (none_there dropped table.layout.nodes node out) ∙ there)))
      (λ kept e. sym (still_there dropped table.layout.nodes node kept) ∙ there)
      refl;
}

pub steps_without : (table : TableValue) (dropped : List NodeId) → (without_nodes table dropped).steps ≡ table.steps
unfolding without_nodes
steps_without table dropped = refl

pub extends_on : (a b c : TableValue) → Extends a b → Extends b c → Extends a c
extends_on a b c p q = record { rules = p.rules ∙ q.rules; rings = p.rings ∙ q.rings; nodes = λ node it there. p.nodes node it (q.nodes node it there) }

pub extends_self : (a : TableValue) → Extends a a
extends_self a = record { rules = refl; rings = refl; nodes = λ node it there. there }

-- the nodes that one record would put in, and those of the others
pub loose_first : (layout : TableLayout) (a b : List NodeId) → AreLoose layout (a ++ b) → AreLoose layout a
loose_first layout a b l = record {
  loose = λ node there. l.loose node (has_joined a b node ∙ ap (λ t. t || has_node b node) there);
  once = (apart_parts a b l.once).first;
}

pub loose_later : (table : TableValue) (a b : List NodeId) → AreLoose table.layout (a ++ b) → AreLoose (without_nodes table a).layout b
unfolding without_nodes
loose_later table a b l =
    let parts = apart_parts a b l.once in
    record {
      loose = λ node there.
          let was = l.loose node (has_joined a b node ∙ either (has_node a node) (has_node b node) there) in
          record { made = subst (λ (x : Option Content). IsSome x) (sym (still_there a table.layout.nodes node (parts.apart node there))) was.made; apart = was.apart };
      once = parts.second;
    } where
      either : (t u : Bool) → u ≡ true → (t || u) ≡ true
      either true u e = refl
      either false u e = e

-- the last record that was undone is given up first
pub given_up_first : (undone : List Kept) (k : Kept) → added_by_all (reverse (undone ++ k ∷ [])) ≡ dropped_nodes k.change ++ added_by_all (reverse undone)
given_up_first undone k = ap added_by_all (reversed undone k)

-- Undone records, in the table that they fit.

module _ (turns : RecordsTurnBack) (put_in : UndonePutIn) where
  pub undone_loose : (table : TableValue) → IsTable table → (kept : List Kept) → LeadsOn table kept → AreLoose table.layout (added_by_all kept)
  unfolding LeadsOn
  undone_loose table t [] leads = record { loose = λ node there. absurd (false≢true there); once = tt }
  undone_loose table t (k ∷ later) leads =
      let own = put_in table k.change t leads.1 leads.2 in
      let rest = undone_loose (turn table k.change) (turns table k.change t leads.2).stands later leads.3 in
      let nodes : dropped_nodes k.change ≡ added_nodes k.change.items = ap (λ u. cond u (added_nodes k.change.items) []) leads.1 in
      subst (λ (ns : List NodeId). AreLoose table.layout (ns ++ added_by_all later)) (sym nodes)
      (record {
        loose = λ node there.
            by_test (λ b. (b || has_node (added_by_all later) node) ≡ true → has_node (added_nodes k.change.items) node ≡ b → IsLooseNode table.layout node)
            (has_node (added_nodes k.change.items) node)
            (λ e p q. own.loose.loose node e)
            (λ e p q. own.others node (rest.loose node p))
            (sym (has_joined (added_nodes k.change.items) (added_by_all later) node) ∙ there) refl;
        once = apart_joined (added_nodes k.change.items) (added_by_all later) own.loose.once rest.once
            (λ node there. by_test (λ b. has_node (added_by_all later) node ≡ b → b ≡ false) (has_node (added_by_all later) node)
            (λ e p. not_both (own.linked node there) (rest.loose node e).apart) (λ e p. refl) refl);
      })

-- loose nodes stay loose in a table that keeps them
pub loose_kept : (old new : TableLayout) (nodes : List NodeId) → KeepsLoose old new → AreLoose old nodes → AreLoose new nodes
loose_kept old new nodes keeps l = record {
  loose = λ node there.
      let was = l.loose node there in
      by_content node (content_of old node) refl was.made (keeps node) was.apart;
  once = l.once;
} where
  by_content : (node : NodeId) (it : Option Content) → content_of old node ≡ it → IsSome (content_of old node)
      → ((c : Content) → is_in old.rings node ≡ false → content_of old node ≡ Some c → (is_in new.rings node ≡ false) × (content_of new node ≡ Some c)) → is_in old.rings node ≡ false
      → IsLooseNode new node
  by_content node None e made stays apart = absurd (false≢true (subst (λ (x : Option Content). IsSome x) e made))
  by_content node (Some c) e made stays apart =
      let both = stays c apart e in
      record { made = subst (λ (x : Option Content). IsSome x) (sym both.1) refl; apart = both.0 }

-- the nodes of undone records, those of the last one first
pub in_order : (layout : TableLayout) (undone rest : List Kept) (k : Kept) → undone ≡ rest ++ k ∷ [] → AreLoose layout (added_by_all (reverse undone))
    → AreLoose layout (dropped_nodes k.change ++ added_by_all (reverse rest))
in_order layout undone rest k shrunk l = subst (AreLoose layout) (ap (λ (ks : List Kept). added_by_all (reverse ks)) shrunk ∙ given_up_first rest k) l

-- Nodes dropped one list after another.

nodes_without_joined : (a b : List NodeId) (nodes : List MadeNode) → nodes_without (a ++ b) nodes ≡ nodes_without b (nodes_without a nodes)
nodes_without_joined a b [] = refl
nodes_without_joined a b (first ∷ later) =
    ap (λ t. cond (not t) (first ∷ nodes_without (a ++ b) later) (nodes_without (a ++ b) later)) (has_joined a b first.node)
    ∙ ap (λ (ns : List MadeNode). cond (not (has_node a first.node || has_node b first.node)) (first ∷ ns) ns) (nodes_without_joined a b later)
    ∙ by (has_node a first.node) refl where
      by : (t : Bool) → has_node a first.node ≡ t
          → cond (not (t || has_node b first.node)) (first ∷ nodes_without b (nodes_without a later)) (nodes_without b (nodes_without a later))
          ≡ nodes_without b (cond (not t) (first ∷ nodes_without a later) (nodes_without a later))
      by true e = refl
      by false e = refl

pub without_joined : (table : TableValue) (a b : List NodeId) → without_nodes table (a ++ b) ≡ without_nodes (without_nodes table a) b
unfolding without_nodes
without_joined table a b = ap (λ (nodes : List MadeNode). record table { layout = record table.layout { nodes = nodes } }) (nodes_without_joined a b table.layout.nodes)

nodes_without_none : (nodes : List MadeNode) → nodes_without [] nodes ≡ nodes
nodes_without_none [] = refl
nodes_without_none (first ∷ later) = ap (λ (ns : List MadeNode). first ∷ ns) (nodes_without_none later)

-- a table without no nodes
pub without_none : (table : TableValue) (undone : List Kept) → undone ≡ [] → without_nodes table (added_by_all (reverse undone)) ≡ table
unfolding without_nodes
without_none table undone none =
    ap (λ (ks : List Kept). without_nodes table (added_by_all (reverse ks))) none
    ∙ ap (λ (nodes : List MadeNode). record table { layout = record table.layout { nodes = nodes } }) (nodes_without_none table.layout.nodes)

-- the nodes of the record that was undone last, and then those of the others
pub without_first : (table next : TableValue) (undone rest : List Kept) (k : Kept) → undone ≡ rest ++ k ∷ [] → next ≡ without_nodes table (dropped_nodes k.change)
    → without_nodes next (added_by_all (reverse rest)) ≡ without_nodes table (added_by_all (reverse undone))
without_first table next undone rest k e n =
    ap (λ (t : TableValue). without_nodes t (added_by_all (reverse rest))) n
    ∙ sym (without_joined table (dropped_nodes k.change) (added_by_all (reverse rest)))
    ∙ ap (without_nodes table) (sym (ap (λ (ks : List Kept). added_by_all (reverse ks)) e ∙ given_up_first rest k))
