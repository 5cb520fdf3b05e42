-- What the look-ups of a body answer is what its lists have.
use Rattle.std.proofs.Common.{◌≡◌, ℕ, Bool, true, false, ◌++◌, ◌||◌, cond, is_some, IsSome, List, [], ◌∷◌, Option, Some, None, flat_map, sym, ap, subst, ◌∙◌, refl}
use Rattle.std.specs.List.{list_any}
use Rattle.coll_order.specs.Layout.{is_in}
use Rattle.coll_order.specs.Lists.{same_node, has_node}
use Rattle.coll_order.specs.declared.places.NodeId.{NodeId}
use Rattle.coll_order.specs.Sound.{AreDistinct}
use Rattle.coll_order.proofs.RingLemmas.{distinct_ring}
use Rattle.coll_order.proofs.Sameness.{by_test, not_both, same_node_itself}
use Rattle.coll_order.proofs.ListLemmas.{or_first, or_second}
use Rattle.std.proofs.lemmas.List.{append-nil}
use Rattle.coll_syntax.specs.Identifier.{same_name, same_id, has_name, has_id}
use Rattle.coll_syntax.specs.declared.identifiers.Id.{Id}
use Rattle.coll_nodes.specs.Placement.{entry_at}
use Rattle.coll_nodes.specs.Bodies.{IsLaidOut}
use Rattle.coll_nodes.specs.SoundBodies.{declaration_if, entry_if, read_at, ring_at, ids_in, names_in, texts_in, section_names_in, IsShaped, Finds}
use Rattle.coll_nodes.specs.Table.{is_declared, is_placed_in, name_of, names_of, texts_of, section_names, ids_of, joined_entries}
use Rattle.coll_nodes.specs.OwnNames.{declaration_of}
use Rattle.coll_nodes.specs.SoundLayouts.{AreOnce}
use Rattle.coll_nodes.specs.WellFormed as are
use Rattle.coll_nodes.specs.TableLayout.{TableLayout, content_of, if_any, declaration_in, entry_in, declared_at, sections_at}
use Rattle.coll_nodes.specs.declared.contents.Content.{Content}
use Rattle.coll_nodes.specs.declared.contents.Content.TheVariants as content
use Rattle.coll_nodes.specs.declared.declarations.Declaration.{Declaration}
use Rattle.coll_nodes.specs.declared.entries.Entry.{Entry}
use Rattle.coll_nodes.proofs.LayoutReads.{read_known, both_true, and_true, in_rings, names_read, texts_read, section_names_read, declared_read, declared_covers}
use Rattle.coll_nodes.proofs.LayoutReads.{begun_covers, found_in, joined_at, joined_read, joined_known, entries_read, section_at, placed_from, placed_to}
use Rattle.coll_nodes.proofs.OwnNames.{declaration_is}
use Rattle.coll_lookups.proofs.Sameness.{same_name_decides}
use Rattle.coll_nodes.proofs.NodeLists.{any_map, any_from}

-- what is the same as one of a list of one is it
pub one : (b : Bool) → (b || false) ≡ true → b ≡ true
one true e = refl
one false e = e

-- equal answers are of one node
pub some_same : {a b : NodeId} → Some a ≡ Some b → a ≡ b
some_same e = cc

-- where no two nodes in rings have one name, no name is declared twice
pub names_once : (layout : TableLayout) → IsLaidOut layout → AreOnce same_name names_in layout → are.AreDistinct same_name (names_of (declared_at layout))
names_once layout laid once = subst (are.AreDistinct same_name) (sym (names_read layout)) (each (ring_at layout 0) (distinct_ring layout.rings 0 laid.once) (in_rings layout 0)) where
  with_names : (node : Option Content) (rest : List (List ℕ)) → ((name : List ℕ) → list_any (same_name name) (flat_map names_in (if_any node)) ≡ true → list_any (same_name name) rest ≡ false)
      → are.AreDistinct same_name rest → are.AreDistinct same_name (flat_map names_in (if_any node) ++ rest)
  with_names None rest apart distinct = distinct
  with_names (Some (content.Declared declaration)) rest apart distinct = (apart (name_of declaration) (or_first _ _ ((same_name_decides (name_of declaration) (name_of declaration)).1 refl)), distinct)
  with_names (Some (content.Begun section ring)) rest apart distinct = distinct
  with_names (Some (content.Placed entry)) rest apart distinct = distinct

  each : (nodes : List NodeId) → AreDistinct nodes → ((node : NodeId) → has_node nodes node ≡ true → is_in layout.rings node ≡ true)
      → are.AreDistinct same_name (flat_map (read_at names_in layout) nodes)
  each [] distinct linked = tt
  each (node ∷ nodes) distinct linked =
      with_names (content_of layout node) (flat_map (read_at names_in layout) nodes)
      (λ name mine. by_test (λ b. list_any (same_name name) (flat_map (read_at names_in layout) nodes) ≡ b → b ≡ false) (list_any (same_name name) (flat_map (read_at names_in layout) nodes))
      (λ on e. let other = any_from (same_name name) (read_at names_in layout) nodes e in
      let same : node ≡ other.0 = once name node other.0 (and_true (linked node (or_first (same_node node node) _ (same_node_itself node))) mine)
      (and_true (linked other.0 (or_second (same_node other.0 node) _ other.1)) other.2) in
      not_both (ap (has_node nodes) same ∙ other.1) distinct.0) (λ off e. refl) refl)
      (each nodes distinct.1 (λ other there. linked other (or_second (same_node other node) _ there)))

module _ (layout : TableLayout) (shaped : IsShaped layout) where
  -- a name is declared where it is found
  pub name_found : (find : List ℕ → Option NodeId) (name : List ℕ) → Finds same_name names_in layout find → is_declared (declared_at layout) name ≡ is_some (find name)
  name_found find name sound = ap (λ names. has_name names name) (names_read layout)
      ∙ found_in layout same_name names_in find (ring_at layout 0) sound (in_rings layout 0) (declared_covers layout same_name names_in shaped (λ _ _. refl) (λ _. refl)) name

  -- a string is that of an element where it is found
  pub text_found : (find : List ℕ → Option NodeId) (text : List ℕ) → Finds same_name texts_in layout find → has_name (texts_of (declared_at layout)) text ≡ is_some (find text)
  text_found find text sound = ap (λ texts. has_name texts text) (texts_read layout)
      ∙ found_in layout same_name texts_in find (ring_at layout 0) sound (in_rings layout 0) (declared_covers layout same_name texts_in shaped (λ _ _. refl) (λ _. refl)) text

  -- a section has a name where it is found
  pub section_found : (find : List ℕ → Option NodeId) (name : List ℕ) → Finds same_name section_names_in layout find → has_name (section_names (sections_at layout)) name ≡ is_some (find name)
  section_found find name sound = ap (λ names. has_name names name) (section_names_read layout)
      ∙ found_in layout same_name section_names_in find (ring_at layout 1) sound (in_rings layout 1) (begun_covers layout same_name section_names_in shaped (λ _. refl) (λ _. refl)) name

  -- the entries of a node have an identifier where the node has it as its key
  pub ids_of_node : (id : Id) (found : Option Content) → list_any (same_id id) (flat_map ids_in (if_any found)) ≡ list_any (λ (entry : Entry). same_id id entry.id) (flat_map entry_in (if_any found))
  ids_of_node id None = refl
  ids_of_node id (Some (content.Declared declaration)) = refl
  ids_of_node id (Some (content.Begun name ring)) = refl
  ids_of_node id (Some (content.Placed entry)) = refl

  -- an identifier is placed where it is found
  pub id_found : (find : Id → Option NodeId) (id : Id) → Finds same_id ids_in layout find → is_placed_in (sections_at layout) id ≡ is_some (find id)
  id_found find id sound =
      let test : Entry → Bool = λ entry. same_id id entry.id in
      let among : has_id (ids_of (joined_entries (sections_at layout))) id ≡ list_any test (joined_entries (sections_at layout)) =
      any_map (same_id id) (λ (entry : Entry). entry.id) (joined_entries (sections_at layout)) in
      among ∙ elim (find id) as (λ found. find id ≡ found → list_any test (joined_entries (sections_at layout)) ≡ is_some found) [
        | None ↦ λ none. by_test (λ b. list_any test (joined_entries (sections_at layout)) ≡ b → b ≡ false) (list_any test (joined_entries (sections_at layout)))
            (λ on e. let at = placed_from layout shaped test e in
            let found = sound.finds id at.0 (and_true at.1 (ids_of_node id (content_of layout at.0) ∙ at.2)) in cc)
            (λ off e. refl) refl
        | Some node ↦ λ is. let has = both_true _ _ (sound.leads id node is) in placed_to layout shaped test node has.0 (sym (ids_of_node id (content_of layout node)) ∙ has.1)
      ] refl

  -- a node that is found by a name has the name
  has_the_name : (find : List ℕ → Option NodeId) (name : List ℕ) (node : NodeId) (known : Content) → Finds same_name names_in layout find
      → find name ≡ Some node → content_of layout node ≡ Some known → list_any (same_name name) (names_in known) ≡ true
  has_the_name find name node known sound found is = sym (ap (list_any (same_name name)) (read_known names_in layout node known is)) ∙ (both_true _ _ (sound.leads name node found)).1

  -- the declaration of a name in two lists
  declaration_append : (xs ys : List Declaration) (name : List ℕ) → declaration_of (xs ++ ys) name ≡ cond (is_declared xs name) (declaration_of xs name) (declaration_of ys name)
  declaration_append [] ys name = refl
  declaration_append (x ∷ xs) ys name = by_test (λ b. cond b (Some x) (declaration_of (xs ++ ys) name)
      ≡ cond (b || is_declared xs name) (cond b (Some x) (declaration_of xs name)) (declaration_of ys name)) (same_name name (name_of x))
      (λ on. refl) (λ off. declaration_append xs ys name)

  -- the declaration of a name is read of one of the nodes
  declaration_from : (f : NodeId → List Declaration) (nodes : List NodeId) (name : List ℕ) (found : Declaration) → declaration_of (flat_map f nodes) name ≡ Some found
      → (node : NodeId) × (has_node nodes node ≡ true) × (declaration_of (f node) name ≡ Some found)
  declaration_from f [] name found there = cc
  declaration_from f (node ∷ nodes) name found there =
      by_test (λ b. cond b (declaration_of (f node) name) (declaration_of (flat_map f nodes) name) ≡ Some found → (n : NodeId) × (has_node (node ∷ nodes) n ≡ true)
      × (declaration_of (f n) name ≡ Some found)) (is_declared (f node) name)
      (λ on e. (node, or_first (same_node node node) _ (same_node_itself node), e))
      (λ off e. let later = declaration_from f nodes name found e in (later.0, or_second (same_node later.0 node) _ later.1, later.2))
      (sym (declaration_append (f node) (flat_map f nodes) name) ∙ there)

  -- a node that declares a name has it as its key
  declares_the_name : (name : List ℕ) (node : Option Content) (found : Declaration) → declaration_of (flat_map declaration_in (if_any node)) name ≡ Some found
      → list_any (same_name name) (flat_map names_in (if_any node)) ≡ true
  declares_the_name name None found e = cc
  declares_the_name name (Some (content.Declared declaration)) found e = sym (declaration_is (declaration ∷ []) name) ∙ ap is_some e
  declares_the_name name (Some (content.Begun section ring)) found e = cc
  declares_the_name name (Some (content.Placed entry)) found e = cc

  -- the declaration of a name is read of the node that is found
  declaration_found : (find : List ℕ → Option NodeId) (name : List ℕ) → Finds same_name names_in layout find
      → declaration_of (declared_at layout) name ≡ declaration_of (flat_map (read_at declaration_in layout) (if_any (find name))) name
  declaration_found find name sound = by_answer (declaration_of (declared_at layout) name) refl where
    by_find : (found : Option NodeId) → is_some found ≡ false → None ≡ declaration_of (flat_map (read_at declaration_in layout) (if_any found)) name
    by_find None e = refl
    by_find (Some node) e = not_both refl e

    by_answer : (answer : Option Declaration) → declaration_of (declared_at layout) name ≡ answer → answer ≡ declaration_of (flat_map (read_at declaration_in layout) (if_any (find name))) name
    by_answer None none = by_find (find name) (sym (name_found find name sound) ∙ (sym (declaration_is (declared_at layout) name) ∙ ap is_some none))
    by_answer (Some found) is =
        let at = declaration_from (read_at declaration_in layout) (ring_at layout 0) name found (sym (ap (λ all. declaration_of all name) (declared_read layout)) ∙ is) in
        let leads = sound.finds name at.0 (and_true (in_rings layout 0 at.0 at.1) (declares_the_name name (content_of layout at.0) found at.2)) in
        sym (ap (λ nodes. declaration_of (flat_map (read_at declaration_in layout) (if_any nodes)) name) leads
        ∙ (ap (λ all. declaration_of all name) (append-nil (read_at declaration_in layout at.0)) ∙ at.2))

  -- a node that is found by a name is its declaration
  pub declaration_known : (find : List ℕ → Option NodeId) (name : List ℕ) (node : NodeId) (known : Content) → Finds same_name names_in layout find
      → find name ≡ Some node → content_of layout node ≡ Some known → declaration_if known ≡ declaration_of (declared_at layout) name
  declaration_known find name node known sound found is =
      sym (declaration_found find name sound ∙ (ap (λ nodes. declaration_of (flat_map (read_at declaration_in layout) (if_any nodes)) name) found
      ∙ (ap (λ all. declaration_of all name) (append-nil (read_at declaration_in layout node) ∙ read_known declaration_in layout node known is)
      ∙ by_kind known (has_the_name find name node known sound found is)))) where
        by_kind : (known : Content) → list_any (same_name name) (names_in known) ≡ true → declaration_of (declaration_in known) name ≡ declaration_if known
        by_kind (content.Declared declaration) has =
            by_test (λ b. (b || false) ≡ true → cond b (Some declaration) None ≡ Some declaration) (same_name name (name_of declaration)) (λ on e. refl) (λ off e. not_both e refl) has
        by_kind (content.Begun section ring) has = not_both has refl
        by_kind (content.Placed entry) has = not_both has refl

  -- a name that isn't found has no declaration
  pub no_declaration : (find : List ℕ → Option NodeId) (name : List ℕ) → Finds same_name names_in layout find → find name ≡ None → None ≡ declaration_of (declared_at layout) name
  no_declaration find name sound none = sym (declaration_found find name sound ∙ ap (λ nodes. declaration_of (flat_map (read_at declaration_in layout) (if_any nodes)) name) none)

  -- the entry of an identifier in two lists
  entry_append : (xs ys : List Entry) (id : Id) → entry_at (xs ++ ys) id ≡ cond (list_any (λ (entry : Entry). same_id id entry.id) xs) (entry_at xs id) (entry_at ys id)
  entry_append [] ys id = refl
  entry_append (x ∷ xs) ys id = by_test (λ b. cond b (Some x) (entry_at (xs ++ ys) id)
      ≡ cond (b || list_any (λ (entry : Entry). same_id id entry.id) xs) (cond b (Some x) (entry_at xs id)) (entry_at ys id)) (same_id id x.id)
      (λ on. refl) (λ off. entry_append xs ys id)

  -- an identifier has an entry in a list where one is there
  pub entry_any : (es : List Entry) (id : Id) → is_some (entry_at es id) ≡ list_any (λ (entry : Entry). same_id id entry.id) es
  entry_any [] id = refl
  entry_any (e ∷ es) id = by_test (λ b. is_some (cond b (Some e) (entry_at es id)) ≡ (b || list_any (λ (entry : Entry). same_id id entry.id) es)) (same_id id e.id) (λ on. refl)
      (λ off. entry_any es id)

  -- the entry of an identifier is read of one of the nodes
  entry_from : (f : NodeId → List Entry) (nodes : List NodeId) (id : Id) (entry : Entry) → entry_at (flat_map f nodes) id ≡ Some entry → (node : NodeId) × (has_node nodes node ≡ true)
      × (entry_at (f node) id ≡ Some entry)
  entry_from f [] id entry there = cc
  entry_from f (node ∷ nodes) id entry there =
      let test : Entry → Bool = λ entry. same_id id entry.id in
      by_test (λ b. cond b (entry_at (f node) id) (entry_at (flat_map f nodes) id) ≡ Some entry → (n : NodeId) × (has_node (node ∷ nodes) n ≡ true) × (entry_at (f n) id ≡ Some entry))
      (list_any test (f node))
      (λ on e. (node, or_first (same_node node node) _ (same_node_itself node), e))
      (λ off e. let later = entry_from f nodes id entry e in (later.0, or_second (same_node later.0 node) _ later.1, later.2))
      (sym (entry_append (f node) (flat_map f nodes) id) ∙ there)

  -- a node that stands in a ring and is the entry of an identifier is found
  entry_by : (find : Id → Option NodeId) (id : Id) (node : NodeId) (entry : Entry) → Finds same_id ids_in layout find → is_in layout.rings node ≡ true → entry_at (read_at entry_in layout node) id
      ≡ Some entry
      → Some entry ≡ entry_at (flat_map (read_at entry_in layout) (if_any (find id))) id
  entry_by find id node entry sound linked is =
      let has : list_any (same_id id) (read_at ids_in layout node) ≡ true = ids_of_node id (content_of layout node) ∙ (sym (entry_any (read_at entry_in layout node) id) ∙ ap is_some is) in
      let found : find id ≡ Some node = sound.finds id node (and_true linked has) in
      sym (ap (λ nodes. entry_at (flat_map (read_at entry_in layout) (if_any nodes)) id) found ∙ (ap (λ es. entry_at es id) (append-nil (read_at entry_in layout node)) ∙ is))

  -- the entry of an identifier is read of the node that is found
  pub entry_found : (find : Id → Option NodeId) (id : Id) → Finds same_id ids_in layout find
      → entry_at (joined_entries (sections_at layout)) id ≡ entry_at (flat_map (read_at entry_in layout) (if_any (find id))) id
  entry_found find id sound =
      let joined = joined_entries (sections_at layout) in
      let test : Entry → Bool = λ entry. same_id id entry.id in
      let placed : list_any test joined ≡ is_some (find id) = sym (any_map (same_id id) (λ (entry : Entry). entry.id) joined) ∙ id_found find id sound in
      elim (entry_at joined id) as (λ found. entry_at joined id ≡ found → found ≡ entry_at (flat_map (read_at entry_in layout) (if_any (find id))) id) [
        | None ↦ λ none.
            let off : is_some (find id) ≡ false = sym placed ∙ (sym (entry_any joined id) ∙ ap is_some none) in
            elim (find id) as (λ found. is_some found ≡ false → None ≡ entry_at (flat_map (read_at entry_in layout) (if_any found)) id) [
              | None ↦ λ e. refl
              | Some node ↦ λ e. not_both refl e
            ] off
        | Some entry ↦ λ is.
            let section = entry_from (joined_at layout) (ring_at layout 1) id entry (sym (ap (λ es. entry_at es id) (joined_read layout)) ∙ is) in
            let known = section_at layout shaped section.0 section.1 in
            let at = entry_from (read_at entry_in layout) (ring_at layout known.1.index) id entry
            (sym (ap (λ es. entry_at es id) (joined_known layout section.0 known.0 known.1 known.2 ∙ entries_read layout known.1)) ∙ section.2) in
            entry_by find id at.0 entry sound (in_rings layout known.1.index at.0 at.1) at.2
      ] refl

  -- a node that is found by an identifier is its entry
  pub entry_known : (find : Id → Option NodeId) (id : Id) (node : NodeId) (known : Content) → Finds same_id ids_in layout find
      → find id ≡ Some node → content_of layout node ≡ Some known → entry_if known ≡ entry_at (joined_entries (sections_at layout)) id
  entry_known find id node known sound found is =
      let has : list_any (same_id id) (ids_in known) ≡ true = sym (ap (list_any (same_id id)) (read_known ids_in layout node known is)) ∙ (both_true _ _ (sound.leads id node found)).1 in
      sym (entry_found find id sound ∙ (ap (λ nodes. entry_at (flat_map (read_at entry_in layout) (if_any nodes)) id) found
      ∙ (ap (λ es. entry_at es id) (append-nil (read_at entry_in layout node) ∙ read_known entry_in layout node known is) ∙ by_kind known has))) where
        by_kind : (known : Content) → list_any (same_id id) (ids_in known) ≡ true → entry_at (entry_in known) id ≡ entry_if known
        by_kind (content.Declared declaration) has = refl
        by_kind (content.Begun section ring) has = refl
        by_kind (content.Placed entry) has = by_test (λ b. (b || false) ≡ true → cond b (Some entry) None ≡ Some entry) (same_id id entry.id) (λ on e. refl) (λ off e. not_both e refl) has

  -- an identifier that isn't found has no entry
  pub no_entry : (find : Id → Option NodeId) (id : Id) → Finds same_id ids_in layout find → find id ≡ None → None ≡ entry_at (joined_entries (sections_at layout)) id
  no_entry find id sound none = sym (entry_found find id sound ∙ ap (λ nodes. entry_at (flat_map (read_at entry_in layout) (if_any nodes)) id) none)

  -- a node that is found is there
  pub found_made : {Key : Type 0} (same : Key → Key → Bool) (keys : Content → List Key) (find : Key → Option NodeId) (key : Key) (node : NodeId)
      → Finds same keys layout find → find key ≡ Some node → IsLaidOut layout → IsSome (content_of layout node)
  found_made same keys find key node sound found laid = laid.made node (both_true _ _ (sound.leads key node found)).0
