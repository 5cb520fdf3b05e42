-- Weights that are exchanged for those by own names: what changes are gathered on a walk, and what the layout reads behind them.
use Rattle.std.proofs.Common.{◌≡◌, ℕ, zero, suc, ◌≤◌, true, false, ◌||◌, cond, List, [], ◌∷◌, ◌++◌, Option, Some, None, flat_map, map, sym, ap, subst, ◌∙◌, refl, arith}
use Rattle.std.specs.Prelude.{All, IsTrue}
use Rattle.std.specs.List.{list_any}
use Rattle.std.specs.Option.{option_map, option_or}
use Rattle.std.proofs.lemmas.List.Elements.{All-nil, All-cons, All-head, All-tail, All-push, All-append, All-weaker}
use Rattle.std.proofs.lemmas.List.Folds.{list_any-append}
use Rattle.coll_order.specs.Layout.{head_of, is_in}
use Rattle.coll_order.specs.Lists.{same_node, has_node, end_of}
use Rattle.coll_order.specs.declared.places.NodeId.{NodeId}
use Rattle.coll_order.specs.declared.places.RingId.{RingId}
use Rattle.coll_order.specs.declared.places.Place.{Place}
use Rattle.coll_order.proofs.Sameness.{by_test, not_both, same_node_is, same_node_itself}
use Rattle.coll_syntax.specs.Identifier.{same_id, has_id}
use Rattle.coll_syntax.specs.declared.identifiers.Id.{Id}
use Rattle.coll_syntax.specs.declared.identifiers.Id.TheVariants.{Char, Named, Undefined}
use Rattle.coll_syntax.specs.declared.weights.Weight.{Weight}
use Rattle.coll_nodes.specs.Moving.{weighed_nodes}
use Rattle.coll_nodes.specs.OwnNames.{own_weights, own_entry, own_section, own_sections, declares_second, is_second, names_second}
use Rattle.coll_nodes.specs.SoundBodies.{read_at, ring_at, has_key, ids_in, IsShaped, IsSoundBuilder, HaveNames, FirstAloneUnnamed, end_in}
use Rattle.coll_nodes.specs.SoundLayouts.{AreOnce}
use Rattle.coll_nodes.specs.Table.{Section, ids_of, joined_entries}
use Rattle.coll_nodes.specs.TableLayout.{TableLayout, MadeNode, content_of, content_among, if_any, entry_in, section_in, entries_in, declared_at, sections_at}
use Rattle.coll_nodes.specs.Walks.{Visited, VisitedSection, VisitedEntry, visited, entries_visited}
use Rattle.coll_nodes.specs.declared.contents.Content.{Content}
use Rattle.coll_nodes.specs.declared.contents.Content.TheVariants as content
use Rattle.coll_nodes.specs.declared.declarations.Declaration.{Declaration}
use Rattle.coll_nodes.specs.declared.declarations.Declaration.TheVariants.{Symbol, Element, Equivalence}
use Rattle.coll_nodes.specs.declared.entries.Entry.{Entry}
use Rattle.coll_nodes.proofs.AlikeLayouts.{AreAlike, reweighed, declared_alike}
use Rattle.coll_nodes.proofs.ChangedNodes.{content_weighed, kept_weights}
use Rattle.coll_nodes.proofs.LayoutReads.{entry_is, and_true, read_known, sections_read, entries_read, joined_at, joined_read, joined_known, in_rings, section_at, placed_to}
use Rattle.coll_nodes.proofs.NodeLists.{any_map, map_read, same_read}
use Rattle.coll_nodes.proofs.OwnNames.{own_weights_same}
use Rattle.coll_nodes.proofs.OwnTables.{own_sections_plain}
use Rattle.coll_lookups.proofs.Sameness.{same_id_itself, neither, nor}
use Rattle.coll_nodes.proofs.WalkShapes.{members}
use Rattle.coll_texts.proofs.BuilderSteps.{last_in}
use Rattle.coll_texts.proofs.VisitedEntries.{visited_all}
use Rattle.coll_texts.specs.OwnWeights.{is_equivalence, StandsIn, IsChangeOf, IsChange, is_changed, AreChanges, changed_nodes, HasOwnWeights}
use Rattle.coll_texts.specs.declared.own_weights.Change.{Change}

-- Each entry stands somewhere.

-- what holds of all that is read of each node holds of all that is read
all_read : {X : Type 0} (P : X → Type 0) (f : NodeId → List X) (nodes : List NodeId) → ((node : NodeId) → has_node nodes node ≡ true → All P (f node)) → All P (flat_map f nodes)
all_read P f [] each = All-nil P
all_read P f (node ∷ nodes) each = let both = members node nodes each in All-append P (f node) (flat_map f nodes) both.0 (all_read P f nodes both.1)

module _ (layout : TableLayout) (shaped : IsShaped layout) where
  -- each entry of a section's ring is that of a node
  ring_stands : (index : ℕ) → 2 ≤ index → All (StandsIn layout) (flat_map (read_at entry_in layout) (ring_at layout index))
  ring_stands zero high = absurd (omega (arith, high))
  ring_stands (suc zero) high = absurd (omega (arith, high))
  ring_stands (suc (suc index)) high = all_read (StandsIn layout) (read_at entry_in layout) (ring_at layout (suc (suc index))) (λ node there.
      let is = entry_is (content_of layout node) (shaped.placed index node there).0 in
      subst (All (StandsIn layout)) (sym (read_known entry_in layout node (content.Placed is.0) is.1))
      (All-cons (StandsIn layout) is.0 [] (node, in_rings layout (suc (suc index)) node there, is.1) (All-nil (StandsIn layout))))

  -- so is each entry
  all_stand : All (StandsIn layout) (joined_entries (sections_at layout))
  all_stand = subst (All (StandsIn layout)) (sym (joined_read layout)) (all_read (StandsIn layout) (joined_at layout) (ring_at layout 1) (λ node there.
      let is = section_at layout shaped node there in
      subst (All (StandsIn layout)) (sym (joined_known layout node is.0 is.1 is.2 ∙ entries_read layout is.1)) (ring_stands is.1.index is.3)))

-- a node that is an entry has its identifier
has_its_id : (layout : TableLayout) (node : NodeId) (entry : Entry) (id : Id) → is_in layout.rings node ≡ true → content_of layout node ≡ Some (content.Placed entry) → same_id id entry.id ≡ true
    → has_key same_id ids_in layout id node ≡ true
has_its_id layout node entry id linked is same = and_true linked (ap (list_any (same_id id)) (read_known ids_in layout node (content.Placed entry) is) ∙ ap (λ b. b || false) same)

-- the node that has the identifier of an entry is that of the entry
pub change_found : (layout : TableLayout) (change : Change) (entry : Entry) → AreOnce same_id ids_in layout → StandsIn layout entry → has_key same_id ids_in layout entry.id change.node ≡ true
    → change.weights ≡ own_weights (declared_at layout) entry.weights → IsChangeOf layout entry change
change_found layout change entry once stands found own =
    let it : change.node ≡ stands.0 = once entry.id change.node stands.0 found (has_its_id layout stands.0 entry entry.id stands.1 stands.2 (same_id_itself entry.id)) in
    record {
      stands = ap (is_in layout.rings) it ∙ stands.1;
      is = ap (content_of layout) it ∙ stands.2;
      own = own;
    }

-- The changes that are gathered on a walk.

-- what is left of the walk are entries that stand; each change is one; and an entry that was met and has no change has its
-- weights by own names
pub record IsGathered (layout : TableLayout) (changes : List Change) (left : List Visited) : Type 0 where
  pub stand : All (StandsIn layout) (entries_visited left)
  pub each : All (IsChange layout) changes
  pub others : (node : NodeId) (entry : Entry) → is_in layout.rings node ≡ true → content_of layout node ≡ Some (content.Placed entry) → is_changed changes node ≡ false
      → has_id (ids_of (entries_visited left)) entry.id ≡ false → own_entry (declared_at layout) entry ≡ entry

-- equal contents are of one entry
same_entry : {a b : Entry} → Some (content.Placed a) ≡ Some (content.Placed b) → a ≡ b
same_entry e = cc

-- before the walk none is met
pub none_gathered : (layout : TableLayout) → IsShaped layout → IsGathered layout [] (visited (sections_at layout))
none_gathered layout shaped = record {
  stand = subst (All (StandsIn layout)) (sym (visited_all (sections_at layout))) (all_stand layout shaped);
  each = All-nil (IsChange layout);
  others = λ node entry linked is unchanged absent.
      let there : list_any (λ (e : Entry). same_id entry.id e.id) (joined_entries (sections_at layout)) ≡ true = placed_to layout shaped (λ (e : Entry). same_id entry.id e.id) node linked
      (ap (list_any (λ (e : Entry). same_id entry.id e.id)) (read_known entry_in layout node (content.Placed entry) is) ∙ ap (λ b. b || false) (same_id_itself entry.id)) in
      not_both (ap (λ es. has_id (ids_of es) entry.id) (visited_all (sections_at layout)) ∙ any_map (same_id entry.id) (λ (e : Entry). e.id) (joined_entries (sections_at layout)) ∙ there) absent;
}

-- a section is no entry
pub gathered_section : (layout : TableLayout) (changes : List Change) (name : List ℕ) (left : List Visited) → IsGathered layout changes (VisitedSection name ∷ left) → IsGathered layout changes left
gathered_section layout changes name left gathered = record { stand = gathered.stand; each = gathered.each; others = gathered.others }

module _ (layout : TableLayout) (once : AreOnce same_id ids_in layout) (changes : List Change) (visited_entry : Entry) (left : List Visited)
    (gathered : IsGathered layout changes (VisitedEntry visited_entry ∷ left)) where
  -- the entry that is met stands
  pub visited_stands : StandsIn layout visited_entry
  visited_stands = All-head (StandsIn layout) visited_entry (entries_visited left) gathered.stand

  -- an entry that isn't left is the one that is met, or was met before
  by_visited : (more : List Change) (node : NodeId) (entry : Entry) → is_in layout.rings node ≡ true → content_of layout node ≡ Some (content.Placed entry) → is_changed changes node ≡ false
      → has_id (ids_of (entries_visited left)) entry.id ≡ false
      → (same_id entry.id visited_entry.id ≡ true → own_entry (declared_at layout) entry ≡ entry) → own_entry (declared_at layout) entry ≡ entry
  by_visited more node entry linked is unchanged absent here =
      by_test (λ b. same_id entry.id visited_entry.id ≡ b → own_entry (declared_at layout) entry ≡ entry) (same_id entry.id visited_entry.id)
      (λ on same. here same) (λ off differ. gathered.others node entry linked is unchanged (nor _ _ differ absent)) refl

  -- two nodes of one identifier are one
  one_node : (node other : NodeId) (entry : Entry) → is_in layout.rings node ≡ true → content_of layout node ≡ Some (content.Placed entry) → same_id entry.id visited_entry.id ≡ true
      → is_in layout.rings other ≡ true → content_of layout other ≡ Some (content.Placed visited_entry) → node ≡ other
  one_node node other entry linked is same other_linked other_is =
      once entry.id node other (has_its_id layout node entry entry.id linked is (same_id_itself entry.id)) (has_its_id layout other visited_entry entry.id other_linked other_is same)

  -- where its weights name no second name they stay
  pub gathered_same : list_any (names_second (declared_at layout)) visited_entry.weights ≡ false → IsGathered layout changes left
  gathered_same none = record {
    stand = All-tail (StandsIn layout) visited_entry (entries_visited left) gathered.stand;
    each = gathered.each;
    others = λ node entry linked is unchanged absent. by_visited changes node entry linked is unchanged absent (λ same.
        let node_is = one_node node visited_stands.0 entry linked is same visited_stands.1 visited_stands.2 in
        let it : entry ≡ visited_entry = same_entry (sym is ∙ (ap (content_of layout) node_is ∙ visited_stands.2)) in
        subst (λ (e : Entry). own_entry (declared_at layout) e ≡ e) (sym it)
        (ap (λ weights. record visited_entry { weights = weights }) (own_weights_same (declared_at layout) visited_entry.weights none)));
  }

  -- and else it has a change
  pub gathered_more : (change : Change) → IsChangeOf layout visited_entry change → IsGathered layout (changes ++ change ∷ []) left
  gathered_more change is_change = record {
    stand = All-tail (StandsIn layout) visited_entry (entries_visited left) gathered.stand;
    each = All-push (IsChange layout) changes change gathered.each (visited_entry, is_change);
    others = λ node entry linked is unchanged absent.
        let apart = neither _ _ (sym (list_any-append (λ (c : Change). same_node node c.node) changes (change ∷ [])) ∙ unchanged) in
        by_visited changes node entry linked is apart.0 absent (λ same.
        let node_is = one_node node change.node entry linked is same is_change.stands is_change.is in
        not_both (ap (same_node node) (sym node_is) ∙ same_node_itself node) (neither _ _ apart.1).0);
  }

-- behind the walk all are met
pub all_gathered : (layout : TableLayout) (changes : List Change) → IsGathered layout changes [] → AreChanges layout changes
all_gathered layout changes gathered = record { each = gathered.each; others = λ node entry linked is unchanged. gathered.others node entry linked is unchanged refl }

-- The exchange.

-- what a node is, with its weights by own names if it is an entry
abbrev own_content : List Declaration → Content → Content
own_content declared (content.Declared declaration) = content.Declared declaration
own_content declared (content.Begun name ring) = content.Begun name ring
own_content declared (content.Placed entry) = content.Placed (own_entry declared entry)

-- what is weighed twice has the later weights
twice_weighed : (later earlier : Option (List Weight)) (found : Option Content) → reweighed later (reweighed earlier found) ≡ reweighed (option_or later earlier) found
twice_weighed later earlier None = refl
twice_weighed None earlier (Some it) = refl
twice_weighed (Some w) None (Some it) = refl
twice_weighed (Some w) (Some v) (Some (content.Declared declaration)) = refl
twice_weighed (Some w) (Some v) (Some (content.Begun name ring)) = refl
twice_weighed (Some w) (Some v) (Some (content.Placed entry)) = refl

-- an entry that gets weights has them, whatever it had
weighed_last : (later : List Weight) (earlier : Option (List Weight)) (entry : Entry) → reweighed (Some later) (reweighed earlier (Some (content.Placed entry)))
    ≡ Some (content.Placed (record entry { weights = later }))
weighed_last later None entry = refl
weighed_last later (Some w) entry = refl

module _ (old : TableLayout) where
  -- what a node is by own names
  abbrev owned : Option Content → Option Content
  owned found = option_map (own_content (declared_at old)) found

  -- behind all changes each node has its weights by own names, where those without one have them before
  all_changed : (nodes : List MadeNode) (changes : List Change) → AreAlike old nodes → All (IsChange old) changes
      → ((node : NodeId) → is_in old.rings node ≡ true → is_changed changes node ≡ false → content_among nodes node ≡ owned (content_of old node))
      → (node : NodeId) → is_in old.rings node ≡ true → content_among (changed_nodes changes nodes) node ≡ owned (content_of old node)
  all_changed nodes [] alike each others node linked = others node linked refl
  all_changed nodes (change ∷ changes) alike each others node linked =
      all_changed next changes next_alike (All-tail (IsChange old) change changes each) next_others node linked where
        next : List MadeNode
        next = weighed_nodes change.node (Some change.weights) nodes

        first : IsChange old change
        first = All-head (IsChange old) change changes each

        next_is : (other : NodeId) → content_among next other ≡ reweighed (cond (same_node change.node other) (Some change.weights) None) (content_among nodes other)
        next_is other = content_weighed change.node other (Some change.weights) nodes

        next_alike : AreAlike old next
        next_alike other linked =
            let was = alike other linked in
            let gives = cond (same_node change.node other) (Some change.weights) None in
            (option_or gives was.0, next_is other ∙ (ap (reweighed gives) was.1 ∙ twice_weighed gives was.0 (content_of old other)))

        next_others : (other : NodeId) → is_in old.rings other ≡ true → is_changed changes other ≡ false → content_among next other ≡ owned (content_of old other)
        next_others other linked unchanged = by_test (λ b. same_node other change.node ≡ b → content_among next other ≡ owned (content_of old other)) (same_node other change.node)
            (λ on same.
            let it : other ≡ change.node = same_node_is other change.node same in
            let was = alike change.node first.1.stands in
            subst (λ n. content_among next n ≡ owned (content_of old n)) (sym it)
            (next_is change.node ∙ (ap (λ b. reweighed (cond b (Some change.weights) None) (content_among nodes change.node)) (same_node_itself change.node)
            ∙ (ap (reweighed (Some change.weights)) (was.1 ∙ ap (reweighed was.0) first.1.is) ∙ (weighed_last change.weights was.0 first.0
            ∙ (ap (λ weights. Some (content.Placed (record first.0 { weights = weights }))) first.1.own ∙ sym (ap owned first.1.is)))))))
            (λ off differ.
            let apart : same_node change.node other ≡ false = by_test (λ b. same_node change.node other ≡ b → b ≡ false) (same_node change.node other)
            (λ on same. not_both (ap (same_node other) (same_node_is change.node other same) ∙ same_node_itself other) differ) (λ off e. refl) refl in
            next_is other ∙ (ap (λ b. reweighed (cond b (Some change.weights) None) (content_among nodes other)) apart
            ∙ (sym (kept_weights (content_among nodes other)) ∙ others other linked (nor _ _ differ unchanged)))) refl

  -- an entry without a change has its weights by own names before
  unchanged_own : (changes : List Change) → AreChanges old changes → (node : NodeId) → is_in old.rings node ≡ true → is_changed changes node ≡ false → content_of old node ≡ owned (content_of old node)
  unchanged_own changes are node linked unchanged = by_content (content_of old node) refl where
    by_content : (found : Option Content) → content_of old node ≡ found → found ≡ owned found
    by_content None is = refl
    by_content (Some (content.Declared declaration)) is = refl
    by_content (Some (content.Begun name ring)) is = refl
    by_content (Some (content.Placed entry)) is = ap (λ e. Some (content.Placed e)) (sym (are.others node entry linked is unchanged))

module _ (old : TableLayout) (shaped : IsShaped old) (nodes : List MadeNode)
    (contents : (node : NodeId) → is_in old.rings node ≡ true → content_among nodes node ≡ owned old (content_of old node)) where
  abbrev new : TableLayout
  new = record old { nodes = nodes }

  -- by own names a node is what it was, but for weights
  own_alike : AreAlike old nodes
  own_alike node linked = let is = by_content (content_of old node) in (is.0, contents node linked ∙ is.1) where
    by_content : (found : Option Content) → (weights : Option (List Weight)) × (owned old found ≡ reweighed weights found)
    by_content None = (None, refl)
    by_content (Some (content.Declared declaration)) = (None, refl)
    by_content (Some (content.Begun name ring)) = (None, refl)
    by_content (Some (content.Placed entry)) = (Some (own_weights (declared_at old) entry.weights), refl)

  -- the entries of a ring by own names
  entries_own : (ring : RingId) → entries_in new ring ≡ map (own_entry (declared_at old)) (entries_in old ring)
  entries_own ring =
      entries_read new ring
      ∙ (same_read (λ node. map (own_entry (declared_at old)) (read_at entry_in old node)) (read_at entry_in new) (ring_at old ring.index) (λ node there.
      ap (λ found. flat_map entry_in (if_any found)) (contents node (in_rings old ring.index node there)) ∙ by_content (content_of old node))
      ∙ sym (ap (map (own_entry (declared_at old))) (entries_read old ring) ∙ map_read (own_entry (declared_at old)) (read_at entry_in old) (ring_at old ring.index))) where
        by_content : (found : Option Content) → flat_map entry_in (if_any (owned old found)) ≡ map (own_entry (declared_at old)) (flat_map entry_in (if_any found))
        by_content None = refl
        by_content (Some (content.Declared declaration)) = refl
        by_content (Some (content.Begun name ring)) = refl
        by_content (Some (content.Placed entry)) = refl

  -- the sections by own names
  sections_own : sections_at new ≡ own_sections (declared_at old) (sections_at old)
  sections_own =
      sections_read new
      ∙ (same_read (λ node. map (own_section (declared_at old)) (read_at (section_in old) old node)) (read_at (section_in new) new) (ring_at old 1) (λ node there.
      let is = section_at old shaped node there in
      read_known (section_in new) new node (content.Begun is.0 is.1) (contents node (in_rings old 1 node there) ∙ ap (owned old) is.2)
      ∙ (ap (λ (entries : List Entry). record { name = is.0; entries = entries } ∷ []) (entries_own is.1)
      ∙ sym (ap (map (own_section (declared_at old))) (read_known (section_in old) old node (content.Begun is.0 is.1) is.2))))
      ∙ sym (ap (map (own_section (declared_at old))) (sections_read old) ∙ map_read (own_section (declared_at old)) (read_at (section_in old) old) (ring_at old 1)))

  -- the layout has its weights by own names
  has_own : HasOwnWeights old new
  has_own = record {
    rings = refl;
    begun = λ node name ring linked is. contents node linked ∙ ap (owned old) is;
    declared = declared_alike old nodes own_alike;
    sections = sections_own;
  }

-- behind the changes that give all entries their weights by own names a layout has them
pub changes_own : (old : TableLayout) (changes : List Change) → IsShaped old → AreChanges old changes → HasOwnWeights old (record old { nodes = changed_nodes changes old.nodes })
changes_own old changes shaped are = has_own old shaped (changed_nodes changes old.nodes)
    (all_changed old old.nodes changes (λ node linked. (None, kept_weights (content_of old node))) are.each (unchanged_own old changes are))

-- each change is of a node that stands
pub changes_stand : (layout : TableLayout) (changes : List Change) → AreChanges layout changes → All (λ (change : Change). IsTrue (is_in layout.rings change.node)) changes
changes_stand layout changes are = All-weaker (IsChange layout) (λ (change : Change). IsTrue (is_in layout.rings change.node)) (λ change is. is.1.stands) changes are.each

-- the first of the changes that are left is done
pub one_exchanged : (old now next : TableLayout) (whole : TableLayout) (change : Change) (left later : List Change) → left ≡ change ∷ later → now.rings ≡ old.rings
    → record now { nodes = changed_nodes left now.nodes } ≡ whole → next ≡ record now { nodes = weighed_nodes change.node (Some change.weights) now.nodes }
    → (next.rings ≡ old.rings) × (record next { nodes = changed_nodes later next.nodes } ≡ whole)
one_exchanged old now next whole change left later cut rings leads done = (
  ap (λ (layout : TableLayout). layout.rings) done ∙ rings,
  ap (λ (layout : TableLayout). record layout { nodes = changed_nodes later layout.nodes }) done
      ∙ (ap (λ changes. record now { nodes = changed_nodes changes now.nodes }) (sym cut) ∙ leads),
)

-- Where no second name is declared.

-- no name is one
no_second_name : (declared : List Declaration) (name : List ℕ) → list_any is_equivalence declared ≡ false → list_any (declares_second name) declared ≡ false
no_second_name [] name e = refl
no_second_name (first ∷ later) name e = let none = neither _ _ e in nor _ _ (by_kind first none.0) (no_second_name later name none.1) where
  by_kind : (first : Declaration) → is_equivalence first ≡ false → declares_second name first ≡ false
  by_kind (Symbol other) e = refl
  by_kind (Element other text) e = refl
  by_kind (Equivalence other symbol) e = not_both refl e

-- no identifier is one
no_second : (declared : List Declaration) → list_any is_equivalence declared ≡ false → (id : Id) → is_second declared id ≡ false
no_second declared e (Char c) = refl
no_second declared e (Named name) = no_second_name declared name e
no_second declared e Undefined = refl

-- a layout has its weights by own names
pub plain_own : (layout : TableLayout) → list_any is_equivalence (declared_at layout) ≡ false → HasOwnWeights layout layout
plain_own layout none = record {
  rings = refl;
  begun = λ node name ring linked is. is;
  declared = refl;
  sections = sym (own_sections_plain (declared_at layout) (no_second (declared_at layout) none) (sections_at layout));
}

-- The builder.

-- sections by own names have their names
own_names : (declared : List Declaration) (sections : List Section) → HaveNames sections → HaveNames (own_sections declared sections)
own_names declared [] named = tt
own_names declared (first ∷ later) named = (named.0, own_names declared later named.1)

own_alone : (declared : List Declaration) (sections : List Section) → FirstAloneUnnamed sections → FirstAloneUnnamed (own_sections declared sections)
own_alone declared [] unnamed = unnamed
own_alone declared (first ∷ later) unnamed = (unnamed.0, own_names declared later unnamed.1)

-- the sections and the last of them end where they ended
pub own_builder : (old new : TableLayout) (sections_end entries_end : Place) → HasOwnWeights old new → IsSoundBuilder old sections_end entries_end → IsSoundBuilder new sections_end entries_end
own_builder old new sections_end entries_end own sound =
    let end = sound.entries in
    let rings : (index : ℕ) → ring_at new index ≡ ring_at old index = λ index. ap (λ rings. ring_at (record old { rings = rings }) index) own.rings in
    let ends : (index : ℕ) → end_in new index ≡ end_in old index = λ index. ap (end_of (head_of index)) (rings index) in
    record {
      sections = sound.sections ∙ sym (ends 1);
      entries = (
        end.0,
        end.1,
        end.2,
        record {
          last = (end.3.last.0, rings 1 ∙ end.3.last.1);
          begun = own.begun end.0 end.1 end.2 (in_rings old 1 end.0 (last_in old end.0 end.1 end.2 end.3)) end.3.begun;
        },
        end.4 ∙ sym (ends end.2.index),
      );
      unnamed = subst FirstAloneUnnamed (sym own.sections) (own_alone (declared_at old) (sections_at old) sound.unnamed);
    }
