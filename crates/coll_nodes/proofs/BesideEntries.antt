-- What stands beside an entry is what stands beside its node.
use Rattle.std.proofs.Common.{◌≡◌, ℕ, zero, suc, ◌==◌, ◌||◌, Bool, true, false, cond, List, [], ◌∷◌, ◌++◌, Option, Some, None, is_some, IfSome, IfNone, flat_map, sym, ap, ap₂, ◌∙◌, refl}
use Rattle.std.specs.List.{list_any}
use Rattle.std.specs.Option.{option_and_then}
use Rattle.std.proofs.lemmas.Bool.Decides.{Decides-eqb}
use Rattle.std.proofs.lemmas.List.Folds.{list_any-append}
use Rattle.std.proofs.lemmas.List.{map-append}
use Rattle.coll_order.specs.Layout.{is_in}
use Rattle.coll_order.specs.Lists.{same_node, has_node, first_in, next_in}
use Rattle.coll_order.specs.declared.places.NodeId.{NodeId}
use Rattle.coll_order.specs.declared.places.RingId.{RingId}
use Rattle.coll_order.proofs.ListLemmas.{neither, or_first, or_second}
use Rattle.coll_order.proofs.RingLemmas.{in_some}
use Rattle.coll_order.proofs.Sameness.{by_test, not_both, same_node_itself}
use Rattle.coll_syntax.specs.Identifier.{same_id, has_id}
use Rattle.coll_syntax.specs.declared.identifiers.Id.{Id}
use Rattle.coll_nodes.specs.Beside.{entry_before, entry_behind, entry_between, first_of, last_behind, last_entry, section_name}
use Rattle.coll_nodes.specs.NodeNumbers.{entry_nodes, entry_nodes_in}
use Rattle.coll_nodes.specs.NodesBeside.{is_asked, name_if, node_between, node_entry, ring_if, section_among}
use Rattle.coll_nodes.specs.SoundBodies.{entry_if, has_key, ids_in, read_at, ring_at, Finds, IsShaped}
use Rattle.coll_nodes.specs.SoundLayouts.{IsSoundLayout}
use Rattle.coll_nodes.specs.Table.{Section, ids_of, is_placed_in, joined_entries}
use Rattle.coll_nodes.specs.TableLayout.{TableLayout, content_of, entries_in, entry_in, nodes_in, section_in, sections_at, sections_ring}
use Rattle.coll_nodes.specs.declared.contents.Content.{Content}
use Rattle.coll_nodes.specs.declared.contents.Content.TheVariants as content
use Rattle.coll_nodes.specs.declared.entries.Entry.{Entry}
use Rattle.coll_nodes.proofs.BesideNodes.{one_ring}
use Rattle.coll_nodes.proofs.BodyReads.{id_found}
use Rattle.coll_nodes.proofs.LayoutReads.{both_true, declaration_is, entries_read, nothing_read, owner_at, read_known, section_at, sections_read}
use Rattle.coll_nodes.proofs.NodeLists.{any_to}
use Rattle.coll_nodes.proofs.NumberedNodes.{entries_of_nodes, entry_at_node, nodes_known, same_entry}

-- An identifier that isn't there.

-- it has nothing before it
none_between : (before : Option Entry) (entries : List Entry) (id : Id) → has_id (ids_of entries) id ≡ false → entry_between before entries id ≡ None
none_between before [] id off = refl
none_between before (entry ∷ entries) id off =
    by_test (λ b. (b || has_id (ids_of entries) id) ≡ false → cond b before (entry_between (Some entry) entries id) ≡ None) (same_id id entry.id)
    (λ on e. not_both refl e)
    (λ off e. none_between (Some entry) entries id e) off

-- and nothing behind it
none_behind : (entries : List Entry) (id : Id) → has_id (ids_of entries) id ≡ false → entry_behind entries id ≡ None
none_behind [] id off = refl
none_behind (entry ∷ entries) id off =
    by_test (λ b. (b || has_id (ids_of entries) id) ≡ false → cond b (first_of entries) (entry_behind entries id) ≡ None) (same_id id entry.id)
    (λ on e. not_both refl e)
    (λ off e. none_behind entries id e) off

-- Entries by their nodes.

module _ (layout : TableLayout) where
  -- each of these nodes is an entry, and stands in a ring
  abbrev pub AreEntries : List NodeId → Type 0
  AreEntries nodes = (node : NodeId) → has_node nodes node ≡ true → ((entry : Entry) × (content_of layout node ≡ Some (content.Placed entry))) × (is_in layout.rings node ≡ true)

  -- the entries of these nodes
  abbrev pub entries_at : List NodeId → List Entry
  entries_at nodes = flat_map (read_at entry_in layout) nodes

  -- the entry of the first node, and those of the others
  cut_first : (node : NodeId) (nodes : List NodeId) (entry : Entry) → content_of layout node ≡ Some (content.Placed entry) → entries_at (node ∷ nodes) ≡ entry ∷ entries_at nodes
  cut_first node nodes entry is = ap (λ es. es ++ entries_at nodes) (read_known entry_in layout node (content.Placed entry) is)

  first_entry : (node : NodeId) (nodes : List NodeId) → AreEntries (node ∷ nodes) → ((entry : Entry) × (content_of layout node ≡ Some (content.Placed entry))) × (is_in layout.rings node ≡ true)
  first_entry node nodes are = are node (or_first (same_node node node) _ (same_node_itself node))

  later_entries : (node : NodeId) (nodes : List NodeId) → AreEntries (node ∷ nodes) → AreEntries nodes
  later_entries node nodes are other there = are other (or_second (same_node other node) _ there)

  -- the entry that a node is
  entry_is : (node : NodeId) (entry : Entry) → content_of layout node ≡ Some (content.Placed entry) → node_entry layout node ≡ Some entry
  entry_is node entry is = ap (option_and_then entry_if) is

  -- the first entry is that of the first node
  first_at : (nodes : List NodeId) → AreEntries nodes → first_of (entries_at nodes) ≡ option_and_then (node_entry layout) (first_in nodes)
  first_at [] are = refl
  first_at (node ∷ nodes) are =
      let here = first_entry node nodes are in
      ap first_of (cut_first node nodes here.0.0 here.0.1) ∙ sym (entry_is node here.0.0 here.0.1)

  -- the last entry is that of the last node
  last_at : (before : Option Entry) (last : Option NodeId) (nodes : List NodeId) → before ≡ option_and_then (node_entry layout) last → AreEntries nodes
      → last_behind before (entries_at nodes) ≡ option_and_then (node_entry layout) (last_behind last nodes)
  last_at before last [] same are = same
  last_at before last (first ∷ nodes) same are =
      let here = first_entry first nodes are in
      ap (last_behind before) (cut_first first nodes here.0.0 here.0.1)
      ∙ last_at (Some here.0.0) (Some first) nodes (sym (entry_is first here.0.0 here.0.1)) (later_entries first nodes are)

  module _ (sound : IsSoundLayout layout) (id : Id) (node : NodeId) (has : has_key same_id ids_in layout id node ≡ true) where
    -- the entry before that of an identifier is that of the node before its own
    before_at : (before : Option Entry) (last : Option NodeId) (nodes : List NodeId) → before ≡ option_and_then (node_entry layout) last → AreEntries nodes
        → entry_between before (entries_at nodes) id ≡ option_and_then (node_entry layout) (node_between last nodes node)
    before_at before last [] same are = refl
    before_at before last (first ∷ nodes) same are =
        let here = first_entry first nodes are in
        let entry = here.0.0 in
        ap (λ es. entry_between before es id) (cut_first first nodes entry here.0.1)
        ∙ (by_test (λ b. cond b before (entry_between (Some entry) (entries_at nodes) id) ≡ option_and_then (node_entry layout) (cond b last (node_between (Some first) nodes node))) (same_id id entry.id)
        (λ on. same)
        (λ off. before_at (Some entry) (Some first) nodes (sym (entry_is first entry here.0.1)) (later_entries first nodes are))
        ∙ sym (ap (λ b. option_and_then (node_entry layout) (cond b last (node_between (Some first) nodes node)))
        (same_entry layout sound.shaped sound.ids id node has first entry here.0.1 here.1)))

    -- so is the one behind it
    behind_at : (nodes : List NodeId) → AreEntries nodes → entry_behind (entries_at nodes) id ≡ option_and_then (node_entry layout) (next_in nodes node)
    behind_at [] are = refl
    behind_at (first ∷ nodes) are =
        let here = first_entry first nodes are in
        let entry = here.0.0 in
        ap (λ es. entry_behind es id) (cut_first first nodes entry here.0.1)
        ∙ (by_test (λ b. cond b (first_of (entries_at nodes)) (entry_behind (entries_at nodes) id) ≡ option_and_then (node_entry layout) (cond b (first_in nodes) (next_in nodes node))) (same_id id entry.id)
        (λ on. first_at nodes (later_entries first nodes are))
        (λ off. behind_at nodes (later_entries first nodes are))
        ∙ sym (ap (λ b. option_and_then (node_entry layout) (cond b (first_in nodes) (next_in nodes node)))
        (same_entry layout sound.shaped sound.ids id node has first entry here.0.1 here.1)))

    -- an identifier is one of those of entries where its node is one of theirs
    has_at : (nodes : List NodeId) → AreEntries nodes → has_id (ids_of (entries_at nodes)) id ≡ has_node nodes node
    has_at [] are = refl
    has_at (first ∷ nodes) are =
        let here = first_entry first nodes are in
        let entry = here.0.0 in
        ap (λ es. has_id (ids_of es) id) (cut_first first nodes entry here.0.1)
        ∙ ap₂ (λ (a : Bool) (b : Bool). a || b) (sym (same_entry layout sound.shaped sound.ids id node has first entry here.0.1 here.1)) (has_at nodes (later_entries first nodes are))

    -- the node of an entry is one of those of all entries
    pub placed_node : has_node (entry_nodes layout) node ≡ true
    placed_node =
        let both = both_true _ _ has in
        let at = in_some layout.rings node both.0 in
        go at.0 at.1 both.1 where
          go : (index : ℕ) → has_node (ring_at layout index) node ≡ true → list_any (same_id id) (read_at ids_in layout node) ≡ true → has_node (entry_nodes layout) node ≡ true
          go zero at has = let is = declaration_is (content_of layout node) (sound.shaped.declared node at) in nothing_read layout (same_id id) ids_in node (content.Declared is.0) is.1 refl has
          go (suc zero) at has = let is = section_at layout sound.shaped node at in nothing_read layout (same_id id) ids_in node (content.Begun is.0 is.1) is.2 refl has
          go (suc (suc index)) at has =
              let owned = (sound.shaped.placed index node at).1 in
              let owner = owner_at layout sound.shaped (suc (suc index)) owned.0 owned.1 in
              let here : read_at (entry_nodes_in layout) layout owned.0 ≡ ring_at layout (suc (suc index)) =
              nodes_known layout sound.shaped owned.0 owner.1.0 owner.1.1 owner.1.2 ∙ ap (ring_at layout) owner.1.3 in
              any_to (same_node node) (read_at (entry_nodes_in layout) layout) (ring_at layout 1) owned.0 owner.0 (ap (λ nodes. has_node nodes node) here ∙ at)

module _ (layout : TableLayout) (sound : IsSoundLayout layout) where
  -- the last entry
  pub last_is : last_entry (joined_entries (sections_at layout)) ≡ option_and_then (node_entry layout) (last_behind None (entry_nodes layout))
  last_is = ap (last_behind None) (entries_of_nodes layout sound.shaped) ∙ last_at layout None None (entry_nodes layout) refl (entry_at_node layout sound.shaped)

  module _ (id : Id) (node : NodeId) (has : has_key same_id ids_in layout id node ≡ true) where
    -- the entry before one
    pub before_is : entry_before (joined_entries (sections_at layout)) id ≡ option_and_then (node_entry layout) (node_between None (entry_nodes layout) node)
    before_is =
        ap (λ es. entry_before es id) (entries_of_nodes layout sound.shaped)
        ∙ before_at layout sound id node has None None (entry_nodes layout) refl (entry_at_node layout sound.shaped)

    -- and the one behind it
    pub behind_is : entry_behind (joined_entries (sections_at layout)) id ≡ option_and_then (node_entry layout) (next_in (entry_nodes layout) node)
    behind_is = ap (λ es. entry_behind es id) (entries_of_nodes layout sound.shaped) ∙ behind_at layout sound id node has (entry_nodes layout) (entry_at_node layout sound.shaped)

  -- an identifier without an entry has none beside it
  pub none_before : (id : Id) → is_placed_in (sections_at layout) id ≡ false → None ≡ entry_before (joined_entries (sections_at layout)) id
  none_before id off = sym (none_between None (joined_entries (sections_at layout)) id off)

  pub nothing_behind : (id : Id) → is_placed_in (sections_at layout) id ≡ false → None ≡ entry_behind (joined_entries (sections_at layout)) id
  nothing_behind id off = sym (none_behind (joined_entries (sections_at layout)) id off)

-- Sections by their nodes.

module _ (layout : TableLayout) (sound : IsSoundLayout layout) (id : Id) (node : NodeId) (has : has_key same_id ids_in layout id node ≡ true) (ring : RingId)
    (there : has_node (nodes_in layout ring) node ≡ true) where
  -- the name of the section that a node is, if it has one
  abbrev pub name_at : NodeId → Option (List ℕ)
  name_at section = option_and_then name_if (content_of layout section)

  -- an identifier stands in a section where that has the ring of its node
  in_section : (section : NodeId) (name : Option (List ℕ)) (own : RingId) → content_of layout section ≡ Some (content.Begun name own) → has_node (ring_at layout 1) section ≡ true
      → has_id (ids_of (entries_in layout own)) id ≡ is_asked (Some ring) (ring_if (content_of layout section))
  in_section section name own is stands =
      ap (λ es. has_id (ids_of es) id) (entries_read layout own)
      ∙ (has_at layout sound id node has (nodes_in layout own) (λ other here. entry_at_node layout sound.shaped other (any_to (same_node other) (read_at (entry_nodes_in layout) layout)
      (ring_at layout 1) section stands (ap (λ nodes. has_node nodes other) (nodes_known layout sound.shaped section name own is) ∙ here)))
      ∙ (by_test (λ b. (ring.index == own.index) ≡ b → has_node (nodes_in layout own) node ≡ b) (ring.index == own.index)
      (λ on t. ap (λ index. has_node (ring_at layout index) node) (sym ((Decides-eqb ring.index own.index).0 t)) ∙ there)
      (λ off t. by_test (λ b. has_node (nodes_in layout own) node ≡ b → b ≡ false) (has_node (nodes_in layout own) node)
      (λ on h. not_both ((Decides-eqb ring.index own.index).1 (one_ring layout.rings ring.index own.index node sound.laid.once there h)) t) (λ absent h. refl) refl) refl
      ∙ sym (ap (λ found. is_asked (Some ring) (ring_if found)) is)))

  -- the name of the section in which an identifier stands is that of the section's node
  name_among : (sections : List NodeId) → ((section : NodeId) → has_node sections section ≡ true → has_node (ring_at layout 1) section ≡ true)
      → section_name (flat_map (read_at (section_in layout) layout) sections) id ≡ option_and_then name_at (section_among layout (Some ring) sections)
  name_among [] stand = refl
  name_among (section ∷ sections) stand =
      let stands = stand section (or_first (same_node section section) _ (same_node_itself section)) in
      let is = section_at layout sound.shaped section stands in
      let later = flat_map (read_at (section_in layout) layout) sections in
      ap (λ here. section_name (here ++ later) id) (read_known (section_in layout) layout section (content.Begun is.0 is.1) is.2)
      ∙ (ap (λ b. cond b is.0 (section_name later id)) (in_section section is.0 is.1 is.2 stands)
      ∙ by_test (λ b. cond b is.0 (section_name later id) ≡ option_and_then name_at (cond b (Some section) (section_among layout (Some ring) sections)))
      (is_asked (Some ring) (ring_if (content_of layout section)))
      (λ on. sym (ap (option_and_then name_if) is.2))
      (λ off. name_among sections (λ other at. stand other (or_second (same_node other section) _ at))))

  pub name_is : section_name (sections_at layout) id ≡ option_and_then name_at (section_among layout (Some ring) (nodes_in layout sections_ring))
  name_is = ap (λ sections. section_name sections id) (sections_read layout) ∙ name_among (ring_at layout 1) (λ section at. at)

-- an identifier without an entry stands in no section
pub no_name : (sections : List Section) (id : Id) → is_placed_in sections id ≡ false → None ≡ section_name sections id
no_name [] id off = refl
no_name (section ∷ sections) id off =
    let both = neither (has_id (ids_of section.entries) id) (is_placed_in sections id) (sym (list_any-append (same_id id) (ids_of section.entries) (ids_of (joined_entries sections)))
    ∙ (ap (λ ids. list_any (same_id id) ids) (sym (map-append (λ (entry : Entry). entry.id) section.entries (joined_entries sections))) ∙ off)) in
    no_name sections id both.1 ∙ sym (ap (λ b. cond b section.name (section_name sections id)) both.0)

-- a node that is found by its key has that key
pub key_found : {Key : Type 0} (same : Key → Key → Bool) (keys : Content → List Key) (layout : TableLayout) (find : Key → Option NodeId) (key : Key) (node : Option NodeId)
    → Finds same keys layout find → node ≡ find key → IfSome node (λ one. has_key same keys layout key one ≡ true)
key_found same keys layout find key None finds is = tt
key_found same keys layout find key (Some node) finds is = finds.leads key node (sym is)

-- an identifier whose node isn't found has no entry
pub not_placed : (layout : TableLayout) → IsShaped layout → (find : Id → Option NodeId) (id : Id) (node : Option NodeId) → Finds same_id ids_in layout find → node ≡ find id
    → IfNone node (is_placed_in (sections_at layout) id ≡ false)
not_placed layout shaped find id None finds is = id_found layout shaped find id finds ∙ ap is_some (sym is)
not_placed layout shaped find id (Some node) finds is = tt
