-- Layouts of the same rings in which each node that stands is what it was, but for weights: they are as sound, and as long.
use Rattle.std.proofs.Common.{◌≡◌, ℕ, suc, Bool, true, ◌&&◌, List, [], ◌∷◌, Option, Some, None, length, flat_map, sym, ap, subst, ◌∙◌, refl}
use Rattle.std.specs.List.{list_any}
use Rattle.coll_order.specs.Layout.{is_in}
use Rattle.coll_order.specs.Lists.{has_node}
use Rattle.coll_order.specs.declared.places.NodeId.{NodeId}
use Rattle.coll_order.specs.declared.places.RingId.{RingId}
use Rattle.coll_order.proofs.Sameness.{by_test}
use Rattle.coll_syntax.specs.Identifier.{same_name, same_id}
use Rattle.coll_syntax.specs.declared.weights.Weight.{Weight}
use Rattle.coll_nodes.specs.Counting.{counts_at}
use Rattle.coll_nodes.specs.KeyedNodes.{FindsAll}
use Rattle.coll_nodes.specs.SoundBodies.{read_at, ring_at, has_key, names_in, texts_in, section_names_in, rings_in, ids_in, same_ring, IsDeclaration, IsSection, IsEntry, IsOwned, IsShaped, Finds}
use Rattle.coll_nodes.specs.Table.{Section}
use Rattle.coll_nodes.specs.TableLayout.{TableLayout, MadeNode, content_of, if_any, declaration_in, entry_in, section_in, entries_in, declared_at}
use Rattle.coll_nodes.specs.Moving.{weighed}
use Rattle.coll_nodes.specs.declared.contents.Content.{Content}
use Rattle.coll_nodes.specs.declared.contents.Content.TheVariants as content
use Rattle.coll_nodes.specs.declared.counts.Counts.{Counts}
use Rattle.coll_nodes.specs.declared.declarations.Declaration.{Declaration}
use Rattle.coll_nodes.specs.declared.entries.Entry.{Entry}
use Rattle.coll_nodes.specs.declared.node_keys.NodeKeys.{NodeKeys}
use Rattle.coll_nodes.proofs.LayoutReads.{declared_read, sections_read, entries_read, joined_at, joined_read, joined_known, read_known, in_rings, section_at}
use Rattle.coll_nodes.proofs.NodeLists.{same_read, same_length}

-- what a node is, with other weights, if some are given
abbrev pub reweighed : Option (List Weight) → Option Content → Option Content
reweighed weights None = None
reweighed weights (Some it) = Some (weighed weights it)

-- each node that stands is what it was, but for weights
abbrev pub AreAlike : TableLayout → List MadeNode → Type 0
AreAlike old nodes = (node : NodeId) → is_in old.rings node ≡ true → (weights : Option (List Weight)) × (content_of (record old { nodes = nodes }) node ≡ reweighed weights (content_of old node))

-- what isn't given stays
pub unweighed : (it : Content) → weighed None it ≡ it
unweighed it = refl

-- what is read of a node, whatever its weights
abbrev pub IgnoresWeights : {X : Type 0} → (Content → List X) → Type 0
IgnoresWeights keys = (weights : Option (List Weight)) (it : Content) → keys (weighed weights it) ≡ keys it

pub names_stay : IgnoresWeights names_in
names_stay None it = refl
names_stay (Some w) (content.Declared declaration) = refl
names_stay (Some w) (content.Begun name ring) = refl
names_stay (Some w) (content.Placed entry) = refl

pub texts_stay : IgnoresWeights texts_in
texts_stay None it = refl
texts_stay (Some w) (content.Declared declaration) = refl
texts_stay (Some w) (content.Begun name ring) = refl
texts_stay (Some w) (content.Placed entry) = refl

pub section_names_stay : IgnoresWeights section_names_in
section_names_stay None it = refl
section_names_stay (Some w) (content.Declared declaration) = refl
section_names_stay (Some w) (content.Begun name ring) = refl
section_names_stay (Some w) (content.Placed entry) = refl

pub rings_stay : IgnoresWeights rings_in
rings_stay None it = refl
rings_stay (Some w) (content.Declared declaration) = refl
rings_stay (Some w) (content.Begun name ring) = refl
rings_stay (Some w) (content.Placed entry) = refl

pub ids_stay : IgnoresWeights ids_in
ids_stay None it = refl
ids_stay (Some w) (content.Declared declaration) = refl
ids_stay (Some w) (content.Begun name ring) = refl
ids_stay (Some w) (content.Placed entry) = refl

declarations_stay : IgnoresWeights declaration_in
declarations_stay None it = refl
declarations_stay (Some w) (content.Declared declaration) = refl
declarations_stay (Some w) (content.Begun name ring) = refl
declarations_stay (Some w) (content.Placed entry) = refl

-- the same is read of a node
read_stays : {X : Type 0} (keys : Content → List X) → IgnoresWeights keys → (weights : Option (List Weight)) (found : Option Content) → flat_map keys (if_any (reweighed weights found))
    ≡ flat_map keys (if_any found)
read_stays keys ignores weights None = refl
read_stays keys ignores weights (Some it) = ap (λ xs. flat_map (λ (ys : List _). ys) (xs ∷ [])) (ignores weights it)

-- as many entries
entries_stay : (weights : Option (List Weight)) (found : Option Content) → length (flat_map entry_in (if_any (reweighed weights found))) ≡ length (flat_map entry_in (if_any found))
entries_stay weights None = refl
entries_stay None (Some it) = refl
entries_stay (Some w) (Some (content.Declared declaration)) = refl
entries_stay (Some w) (Some (content.Begun name ring)) = refl
entries_stay (Some w) (Some (content.Placed entry)) = refl

-- a node is of the kind that it was
declaration_stays : (weights : Option (List Weight)) (found : Option Content) → IsDeclaration found → IsDeclaration (reweighed weights found)
declaration_stays weights None is = is
declaration_stays None (Some it) is = is
declaration_stays (Some w) (Some (content.Declared declaration)) is = is
declaration_stays (Some w) (Some (content.Begun name ring)) is = is
declaration_stays (Some w) (Some (content.Placed entry)) is = is

section_stays : (rings : ℕ) (weights : Option (List Weight)) (found : Option Content) → IsSection rings found → IsSection rings (reweighed weights found)
section_stays rings weights None is = is
section_stays rings None (Some it) is = is
section_stays rings (Some w) (Some (content.Declared declaration)) is = is
section_stays rings (Some w) (Some (content.Begun name ring)) is = is
section_stays rings (Some w) (Some (content.Placed entry)) is = is

entry_stays : (weights : Option (List Weight)) (found : Option Content) → IsEntry found → IsEntry (reweighed weights found)
entry_stays weights None is = is
entry_stays None (Some it) is = is
entry_stays (Some w) (Some (content.Declared declaration)) is = is
entry_stays (Some w) (Some (content.Begun name ring)) is = is
entry_stays (Some w) (Some (content.Placed entry)) is = is

-- counts of these numbers
abbrev counted : ℕ → ℕ → ℕ → Counts
counted a b c = record { declarations = a; sections = b; entries = c }

-- counts that agree are the same
pub same_counts : (a b c d e f : ℕ) → a ≡ d → b ≡ e → c ≡ f → counted a b c ≡ counted d e f
same_counts a b c d e f p q r = ap (λ n. counted n b c) p ∙ (ap (λ n. counted d n c) q ∙ ap (λ n. counted d e n) r)

module _ (old : TableLayout) (nodes : List MadeNode) (alike : AreAlike old nodes) where
  abbrev new : TableLayout
  new = record old { nodes = nodes }

  -- of a node that stands the same is read
  pub read_alike : {X : Type 0} (keys : Content → List X) → IgnoresWeights keys → (node : NodeId) → is_in old.rings node ≡ true → read_at keys new node ≡ read_at keys old node
  read_alike keys ignores node linked = let is = alike node linked in ap (λ found. flat_map keys (if_any found)) is.1 ∙ read_stays keys ignores is.0 (content_of old node)

  -- each node has the keys that it had
  pub key_alike : {Key : Type 0} (same : Key → Key → Bool) (keys : Content → List Key) → IgnoresWeights keys → (key : Key) (node : NodeId)
      → has_key same keys new key node ≡ has_key same keys old key node
  key_alike same keys ignores key node =
      by_test (λ b. is_in old.rings node ≡ b → (b && list_any (same key) (read_at keys new node)) ≡ (b && list_any (same key) (read_at keys old node))) (is_in old.rings node)
      (λ on linked. ap (list_any (same key)) (read_alike keys ignores node linked)) (λ off _. refl) refl

  -- what is found is found
  finds_alike : {Key : Type 0} (same : Key → Key → Bool) (keys : Content → List Key) → IgnoresWeights keys → (find : Key → Option NodeId) → Finds same keys old find → Finds same keys new find
  finds_alike same keys ignores find sound = record {
    leads = λ key node. λ e. key_alike same keys ignores key node ∙ sound.leads key node e;
    finds = λ key node. λ has. sound.finds key node (sym (key_alike same keys ignores key node) ∙ has);
  }

  pub found_alike : (keys : NodeKeys) → FindsAll old keys → FindsAll new keys
  found_alike keys found = record {
    names = finds_alike same_name names_in names_stay _ found.names;
    texts = finds_alike same_name texts_in texts_stay _ found.texts;
    sections = finds_alike same_name section_names_in section_names_stay _ found.sections;
    ids = finds_alike same_id ids_in ids_stay _ found.ids;
  }

  -- a ring that had a section has it still
  pub owned_alike : (index : ℕ) → IsOwned old index → IsOwned new index
  owned_alike index owned = (owned.0, key_alike same_ring rings_in rings_stay (record { index = index }) owned.0 ∙ owned.1)

  -- the layout is one of a table still
  pub shaped_alike : IsShaped old → IsShaped new
  shaped_alike shaped = record {
    two = shaped.two;
    declared = λ node there. let is =
        alike node (in_rings old 0 node there) in subst (λ found. IsDeclaration found) (sym is.1) (declaration_stays is.0 (content_of old node) (shaped.declared node there));
    begun = λ node there. let is = alike node (in_rings old 1 node there) in subst (λ found. IsSection (length old.rings) found) (sym is.1)
        (section_stays (length old.rings) is.0 (content_of old node) (shaped.begun node there));
    placed = λ index node there.
        let is = alike node (in_rings old (suc (suc index)) node there) in
        let was = shaped.placed index node there in
        (subst (λ found. IsEntry found) (sym is.1) (entry_stays is.0 (content_of old node) was.0), owned_alike (suc (suc index)) was.1);
    own = λ ring a b. λ p q. shaped.own ring a b (sym (key_alike same_ring rings_in rings_stay ring a) ∙ p) (sym (key_alike same_ring rings_in rings_stay ring b) ∙ q);
  }

  -- the same is declared
  pub declared_alike : declared_at new ≡ declared_at old
  declared_alike = declared_read new
      ∙ (same_read (read_at declaration_in old) (read_at declaration_in new) (ring_at old 0) (λ node there. read_alike declaration_in declarations_stay node (in_rings old 0 node there))
      ∙ sym (declared_read old))

  -- a ring has as many entries
  entries_alike : (ring : RingId) → length (entries_in new ring) ≡ length (entries_in old ring)
  entries_alike ring =
      ap (λ (xs : List Entry). length xs) (entries_read new ring)
      ∙ (same_length (read_at entry_in old) (read_at entry_in new) (ring_at old ring.index) (λ node there.
      let is = alike node (in_rings old ring.index node there) in
      ap (λ found. length (flat_map entry_in (if_any found))) is.1 ∙ entries_stay is.0 (content_of old node))
      ∙ ap (λ (xs : List Entry). length xs) (sym (entries_read old ring)))

  -- a section's node is that section
  section_known : IsShaped old → (node : NodeId) → has_node (ring_at old 1) node ≡ true
      → (name : Option (List ℕ)) × (ring : RingId) × (content_of old node ≡ Some (content.Begun name ring)) × (content_of new node ≡ Some (content.Begun name ring))
  section_known shaped node there =
      let was = section_at old shaped node there in
      let is = alike node (in_rings old 1 node there) in
      (was.0, was.1, was.2, is.1 ∙ (ap (reweighed is.0) was.2 ∙ same is.0 was.0 was.1)) where
        same : (weights : Option (List Weight)) (name : Option (List ℕ)) (ring : RingId) → reweighed weights (Some (content.Begun name ring)) ≡ Some (content.Begun name ring)
        same None name ring = refl
        same (Some w) name ring = refl

  -- there are as many of each
  pub counts_alike : IsShaped old → counts_at new ≡ counts_at old
  counts_alike shaped = same_counts _ _ _ _ _ _
      (ap (λ (xs : List Declaration). length xs) declared_alike)
      (ap (λ (xs : List Section). length xs) (sections_read new)
      ∙ (same_length (read_at (section_in old) old) (read_at (section_in new) new) (ring_at old 1) (λ node there.
      let is = section_known shaped node there in
      ap (λ (xs : List Section). length xs) (read_known (section_in new) new node (content.Begun is.0 is.1) is.3)
      ∙ sym (ap (λ (xs : List Section). length xs) (read_known (section_in old) old node (content.Begun is.0 is.1) is.2)))
      ∙ ap (λ (xs : List Section). length xs) (sym (sections_read old))))
      (ap (λ (xs : List Entry). length xs) (joined_read new)
      ∙ (same_length (joined_at old) (joined_at new) (ring_at old 1) (λ node there.
      let is = section_known shaped node there in
      ap (λ (xs : List Entry). length xs) (joined_known new node is.0 is.1 is.3) ∙ (entries_alike is.1 ∙ sym (ap (λ (xs : List Entry). length xs) (joined_known old node is.0 is.1 is.2))))
      ∙ ap (λ (xs : List Entry). length xs) (sym (joined_read old))))
