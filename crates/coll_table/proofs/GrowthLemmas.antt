-- A table that got loose nodes: it stands for what it stood for, and without them it is as it was.
use Rattle.std.proofs.Common.{◌≡◌, true, false, ◌||◌, not, cond, IsSome, is_some, List, [], ◌∷◌, ◌++◌, Some, None, flat_map, slice_index_or, sym, ap, subst, ◌∙◌, refl}
use Rattle.std.proofs.lemmas.List.Folds.{list_any-append}
use Rattle.coll_order.specs.Layout.{is_in}
use Rattle.coll_order.specs.Lists.{same_node, has_node}
use Rattle.coll_order.specs.Sound.{AreDistinct}
use Rattle.coll_order.specs.declared.places.NodeId.{NodeId}
use Rattle.coll_order.specs.declared.places.RingId.{RingId}
use Rattle.coll_order.proofs.ListLemmas.{nor, or_first, or_second}
use Rattle.coll_order.proofs.Sameness.{by_test, not_both, same_node_is, same_node_itself}
use Rattle.coll_nodes.proofs.LayoutReads.{in_rings}
use Rattle.coll_nodes.proofs.NodeLists.{same_read}
use Rattle.coll_syntax.specs.declared.rules.Rule.{Rule}
use Rattle.coll_nodes.specs.Bodies.{BodyValue, IsLooseNode, Makes, value_of}
use Rattle.coll_table.specs.Growth.{AddsLoose}
use Rattle.coll_nodes.specs.Linking.{nodes_without}
use Rattle.coll_table.specs.Record.{Extends, HasNodesOf, without_nodes}
use Rattle.coll_nodes.specs.TableLayout.{TableValue, MadeNode, collation, content_of, content_among, contents_in, entry_in, section_in}
use Rattle.coll_nodes.specs.TableLayout.{if_any, declared_at, sections_at, declarations_ring, sections_ring, declaration_in}
use Rattle.coll_nodes.specs.declared.contents.Content.{Content}
use Rattle.coll_nodes.specs.declared.contents.Content.TheVariants as content

-- without none of them the nodes are all there
kept_all : (nodes : List MadeNode) → nodes_without [] nodes ≡ nodes
kept_all [] = refl
kept_all (made ∷ nodes) = ap (λ ms. made ∷ ms) (kept_all nodes)

-- nodes are dropped one list after the other
dropped_both : (first second : List NodeId) (nodes : List MadeNode) → nodes_without (first ++ second) nodes ≡ nodes_without first (nodes_without second nodes)
dropped_both first second [] = refl
dropped_both first second (made ∷ nodes) =
    let later = dropped_both first second nodes in
    let all = nodes_without (first ++ second) nodes in
    let rest = nodes_without second nodes in
    ap (λ b. cond (not b) (made ∷ all) all) (list_any-append (same_node made.node) first second)
    ∙ by_test (λ b. cond (not (has_node first made.node || b)) (made ∷ all) all ≡ nodes_without first (cond (not b) (made ∷ rest) rest)) (has_node second made.node)
    (λ on. ap (λ b. cond (not b) (made ∷ all) all) (or_second (has_node first made.node) true refl) ∙ later)
    (λ off. by_test (λ b. cond (not (b || false)) (made ∷ all) all ≡ cond (not b) (made ∷ nodes_without first rest) (nodes_without first rest)) (has_node first made.node)
    (λ on. later) (λ off. ap (λ ms. made ∷ ms) later))

-- what a node is once some are dropped
pub content_without : (dropped : List NodeId) (nodes : List MadeNode) (node : NodeId) → content_among (nodes_without dropped nodes) node ≡ cond (has_node dropped node) None (content_among nodes node)
content_without dropped [] node = by_test (λ b. content_among [] node ≡ cond b None (content_among [] node)) (has_node dropped node) (λ on. refl) (λ off. refl)
content_without dropped (made ∷ nodes) node =
    let rest = nodes_without dropped nodes in
    let later = content_without dropped nodes node in
    by_test (λ b. has_node dropped made.node ≡ b → content_among (cond (not b) (made ∷ rest) rest) node
    ≡ cond (has_node dropped node) None (cond (same_node node made.node) (Some made.content) (content_among nodes node))) (has_node dropped made.node)
    (λ on t. later ∙ by_test (λ s. same_node node made.node ≡ s → cond (has_node dropped node) None (content_among nodes node)
    ≡ cond (has_node dropped node) None (cond s (Some made.content) (content_among nodes node))) (same_node node made.node)
    (λ same e.
    let there : has_node dropped node ≡ true = subst (λ m. has_node dropped m ≡ true) (sym (same_node_is node made.node e)) t in
    ap (λ b. cond b None (content_among nodes node)) there ∙ sym (ap (λ b. cond b None (Some made.content)) there))
    (λ differs e. refl) refl)
    (λ off t. by_test (λ s. same_node node made.node ≡ s → cond s (Some made.content) (content_among rest node)
    ≡ cond (has_node dropped node) None (cond s (Some made.content) (content_among nodes node))) (same_node node made.node)
    (λ same e.
    let apart : has_node dropped node ≡ false = subst (λ m. has_node dropped m ≡ false) (sym (same_node_is node made.node e)) t in
    sym (ap (λ b. cond b None (Some made.content)) apart))
    (λ differs e. later) refl) refl

-- readings that agree everywhere read the same
read_alike : {X Y : Type 0} (f g : X → List Y) → ((x : X) → g x ≡ f x) → (xs : List X) → flat_map g xs ≡ flat_map f xs
read_alike f g same [] = refl
read_alike f g same (x ∷ xs) = ap (λ ys. ys ++ flat_map g xs) (same x) ∙ ap (λ ys. f x ++ ys) (read_alike f g same xs)

-- nothing is added
pub none_added : (table : TableValue) → AddsLoose table table []
unfolding without_nodes
none_added table = record {
  loose = record { loose = λ node there. not_both there refl; once = tt };
  dropped = ap (λ nodes. record table { layout = record table.layout { nodes = nodes } }) (kept_all table.layout.nodes);
}

module _ (old new : TableValue) (added : List NodeId) (adds : AddsLoose old new added) where
  -- the rules are the same
  pub same_rules : new.rules ≡ old.rules
  unfolding without_nodes
  same_rules = ap (λ (t : TableValue). t.rules) adds.dropped

  -- the rings are the same
  pub same_rings : new.layout.rings ≡ old.layout.rings
  unfolding without_nodes
  same_rings = ap (λ (t : TableValue). t.layout.rings) adds.dropped

  -- what a node was
  pub content_was : (node : NodeId) → content_of old.layout node ≡ cond (has_node added node) None (content_of new.layout node)
  unfolding without_nodes
  content_was node = sym (ap (λ (t : TableValue). content_of t.layout node) adds.dropped) ∙ content_without added new.layout.nodes node

  -- what is added wasn't there
  pub was_absent : (node : NodeId) → has_node added node ≡ true → content_of old.layout node ≡ None
  was_absent node there = content_was node ∙ ap (λ b. cond b None (content_of new.layout node)) there

  -- what was there is what it was
  pub has_nodes : HasNodesOf new.layout old.layout
  has_nodes node it at =
      by_test (λ b. cond b None (content_of new.layout node) ≡ Some it → content_of new.layout node ≡ Some it) (has_node added node)
      (λ on e. not_both (ap is_some e) refl) (λ off e. e) (sym (content_was node) ∙ at)

  -- what was there isn't added
  pub was_there : (node : NodeId) (it : Content) → content_of old.layout node ≡ Some it → has_node added node ≡ false
  was_there node it at =
      by_test (λ b. has_node added node ≡ b → b ≡ false) (has_node added node)
      (λ on t. not_both (ap is_some (sym (was_absent node t) ∙ at)) refl) (λ off t. refl) refl

  -- the table is wider
  pub extends : Extends new old
  extends = record { rules = same_rules; rings = same_rings; nodes = has_nodes }

  -- what stands in a ring isn't added
  pub linked_apart : (node : NodeId) → is_in new.layout.rings node ≡ true → has_node added node ≡ false
  linked_apart node linked =
      by_test (λ b. has_node added node ≡ b → b ≡ false) (has_node added node)
      (λ on t. not_both linked (adds.loose.loose node t).apart) (λ off t. refl) refl

  -- what stands in a ring is what it was
  pub linked_same : (node : NodeId) → is_in new.layout.rings node ≡ true → content_of new.layout node ≡ content_of old.layout node
  linked_same node linked = sym (content_was node ∙ ap (λ b. cond b None (content_of new.layout node)) (linked_apart node linked))

  contents_same : (ring : RingId) → contents_in new.layout ring ≡ contents_in old.layout ring
  contents_same ring =
      same_read (λ node. if_any (content_of old.layout node)) (λ node. if_any (content_of new.layout node)) (slice_index_or new.layout.rings ring.index [])
      (λ node there. ap if_any (linked_same node (in_rings new.layout ring.index node there)))
      ∙ ap (λ rings. flat_map (λ node. if_any (content_of old.layout node)) (slice_index_or rings ring.index [])) same_rings

  section_same : (it : Content) → section_in new.layout it ≡ section_in old.layout it
  section_same (content.Declared declaration) = refl
  section_same (content.Begun name ring) = ap (λ contents. record { name = name; entries = flat_map entry_in contents } ∷ []) (contents_same ring)
  section_same (content.Placed entry) = refl

  -- the table stands for what it stood for
  pub collation_grown : collation new ≡ collation old
  unfolding collation declared_at sections_at
  collation_grown =
      let rules = same_rules in
      let declared = ap (λ contents. flat_map declaration_in contents) (contents_same declarations_ring) in
      let sections = read_alike (section_in old.layout) (section_in new.layout) section_same (contents_in new.layout sections_ring)
      ∙ ap (λ contents. flat_map (section_in old.layout) contents) (contents_same sections_ring) in
      ap (λ rules. record { rules = rules; declared = declared_at new.layout; sections = sections_at new.layout }) rules
      ∙ (ap (λ declared. record { rules = old.rules; declared = declared; sections = sections_at new.layout }) declared
      ∙ ap (λ sections. record { rules = old.rules; declared = declared_at old.layout; sections = sections }) sections)

-- two lists of nodes, none of which is in both, are one in which none stands twice
distinct_joined : (first second : List NodeId) → AreDistinct first → AreDistinct second → ((node : NodeId) → has_node first node ≡ true → has_node second node ≡ false) → AreDistinct (first ++ second)
distinct_joined [] second once_first once_second apart = once_second
distinct_joined (node ∷ first) second once_first once_second apart = (
  list_any-append (same_node node) first second ∙ nor _ _ once_first.0 (apart node (or_first _ _ (same_node_itself node))),
  distinct_joined first second once_first.1 once_second (λ other there. apart other (or_second (same_node other node) _ there)),
)

-- nodes are added, and then more
pub joined : (old mid new : TableValue) (first second : List NodeId) → AddsLoose old mid first → AddsLoose mid new second → AddsLoose old new (first ++ second)
unfolding without_nodes
joined old mid new first second adds more = record {
  loose = record {
    loose = λ node there.
        by_test (λ b. has_node first node ≡ b → (b || has_node second node) ≡ true → IsLooseNode new.layout node) (has_node first node)
        (λ on t e. kept_loose node (adds.loose.loose node t))
        (λ off t e. more.loose.loose node e) refl (sym (list_any-append (same_node node) first second) ∙ there);
    once = distinct_joined first second adds.loose.once more.loose.once (λ node there.
        by_test (λ b. has_node second node ≡ b → b ≡ false) (has_node second node)
        (λ on t. not_both (adds.loose.loose node there).made (ap is_some (was_absent mid new second more node t))) (λ off t. refl) refl);
  };
  dropped = ap (λ nodes. record new { layout = record new.layout { nodes = nodes } }) (dropped_both first second new.layout.nodes)
      ∙ (ap (λ t. without_nodes t first) more.dropped ∙ adds.dropped);
} where
  kept_loose : (node : NodeId) → IsLooseNode mid.layout node → IsLooseNode new.layout node
  kept_loose node is = record {
    made = elim (content_of mid.layout node) as (λ found. content_of mid.layout node ≡ found → IsSome found → IsSome (content_of new.layout node)) [
      | None ↦ λ at there. not_both there refl
      | Some it ↦ λ at there. ap is_some (has_nodes mid new second more node it at)
    ] refl is.made;
    apart = ap (λ rings. is_in rings node) (same_rings mid new second more) ∙ is.apart;
  }

-- a loose node is made
pub made_added : (rules : List Rule) (old new : BodyValue) (node : NodeId) (it : Content) → Makes old.layout new.layout node it → is_in old.layout.rings node ≡ false
    → new.layout.rings ≡ old.layout.rings → new.steps ≡ old.steps → nodes_without (node ∷ []) new.layout.nodes ≡ old.layout.nodes
    → AddsLoose (value_of rules old) (value_of rules new) (node ∷ [])
unfolding without_nodes
made_added rules old new node it makes apart rings steps dropped = record {
  loose = record {
    loose = λ other there.
        let same : other ≡ node = same_node_is other node (by_test (λ b. (b || false) ≡ true → b ≡ true) (same_node other node) (λ on e. refl) (λ off e. not_both e refl) there) in
        subst (IsLooseNode new.layout) (sym same) (record {
          made = ap is_some (makes.contents node ∙ ap (λ b. cond b (Some it) (content_of old.layout node)) (same_node_itself node));
          apart = ap (λ rings. is_in rings node) rings ∙ apart;
        });
    once = (refl, tt);
  };
  dropped = rw (rings, steps, dropped) refl;
}
