-- A node put behind all others of its ring: the table with one more at the end.
use Rattle.std.proofs.Common.{◌≡◌, ℕ, ◌<◌, ◌++◌, false, true, ◌||◌, List, [], ◌∷◌, Option, Some, length, flat_map, sym, ap, subst, ◌∙◌, refl, arith}
use Rattle.std.proofs.lemmas.List.{append-nil}
use Rattle.std.proofs.lemmas.Grind.{flat_map-append}
use Rattle.coll_order.specs.Layout.{head_of}
use Rattle.coll_order.specs.Lists.{same_node, has_node, put_after, end_of}
use Rattle.coll_order.specs.Sound.{StandOnce, AreDistinct}
use Rattle.coll_order.specs.declared.places.NodeId.{NodeId}
use Rattle.coll_order.specs.declared.places.RingId.{RingId}
use Rattle.coll_order.specs.declared.places.Place.{Place}
use Rattle.coll_order.specs.declared.places.Place.TheVariants.{After}
use Rattle.coll_order.proofs.Sameness.{by_test, not_both, same_node_is, same_node_itself}
use Rattle.coll_order.proofs.ListLemmas.{or_first, or_second}
use Rattle.coll_order.proofs.EndLemmas.{put_last, end_on, end_push}
use Rattle.coll_order.proofs.RingLemmas.{distinct_ring}
use Rattle.coll_texts.specs.Loading.{with_last}
use Rattle.coll_nodes.specs.SoundBodies.{read_at, ring_at, has_key, rings_in, same_ring, IsShaped, IsPlaceIn, Adds, end_in}
use Rattle.coll_nodes.specs.Table.{Section}
use Rattle.coll_nodes.specs.TableLayout.{TableLayout, content_of, declaration_in, entry_in, section_in, entries_in, declared_at, sections_at}
use Rattle.coll_nodes.specs.declared.contents.Content.{Content}
use Rattle.coll_nodes.specs.declared.contents.Content.TheVariants as content
use Rattle.coll_nodes.specs.declared.entries.Entry.{Entry}
use Rattle.coll_nodes.proofs.LayoutLists.{reads_in, section_same, past_two, other_ring, ring_key, other_in}
use Rattle.coll_nodes.proofs.LayoutReads.{read_known, declared_read, sections_read, entries_read, in_rings}
use Rattle.coll_nodes.proofs.LayoutSteps.{content_itself, content_other, ring_put, ring_other, read_itself}
use Rattle.coll_nodes.proofs.NodeLists.{same_read}

-- the place behind a ring's last node is one of the ring
pub end_place : (layout : TableLayout) (index : ℕ) (place : Place) → place ≡ end_in layout index → index < length layout.rings → IsPlaceIn layout index place
end_place layout index place last below = subst (λ p. IsPlaceIn layout index p) (sym last) (record { ring = below; on = end_on (head_of index) (ring_at layout index) })

-- the last of sections has one entry more
pub last_more : (sections : List Section) (section : Section) (entry : Entry) → with_last (sections ++ section ∷ []) entry ≡ sections ++ record section { entries = section.entries ++ entry ∷ [] } ∷ []
last_more [] section entry = refl
last_more (first ∷ []) section entry = refl
last_more (first ∷ second ∷ later) section entry = ap (λ sections. first ∷ sections) (last_more (second ∷ later) section entry)

-- the last of a list is in the list
pub in_back : (prefix : List NodeId) (last : NodeId) → has_node (prefix ++ last ∷ []) last ≡ true
in_back [] last = or_first (same_node last last) false (same_node_itself last)
in_back (first ∷ prefix) last = or_second (same_node last first) _ (in_back prefix last)

-- the last of a list stands nowhere before
before_last : (prefix : List NodeId) (last : NodeId) → AreDistinct (prefix ++ last ∷ []) → (other : NodeId) → has_node prefix other ≡ true → same_node other last ≡ false
before_last [] last distinct other there = not_both there refl
before_last (first ∷ prefix) last distinct other there =
    by_test (λ b. same_node other first ≡ b → (b || has_node prefix other) ≡ true → same_node other last ≡ false) (same_node other first)
    (λ on t e. by_test (λ b. same_node other last ≡ b → b ≡ false) (same_node other last)
    (λ same t. not_both (subst (λ n. has_node (prefix ++ last ∷ []) n ≡ true) (sym (same_node_is other last t) ∙ same_node_is other first on) (in_back prefix last)) distinct.0) (λ off t. refl) refl)
    (λ off t e. before_last prefix last distinct.1 other e) refl there

-- what is in a prefix of a list is in the list
in_prefix : (prefix rest : List NodeId) (other : NodeId) → has_node prefix other ≡ true → has_node (prefix ++ rest) other ≡ true
in_prefix [] rest other there = not_both there refl
in_prefix (first ∷ prefix) rest other there =
    by_test (λ b. (b || has_node prefix other) ≡ true → (b || has_node (prefix ++ rest) other) ≡ true) (same_node other first) (λ on e. refl) (λ off e. in_prefix prefix rest other e) there

module _ (old new : TableLayout) (node : NodeId) (node_content : Content) (place : Place) (index : ℕ)
    (adds : Adds old new node node_content place) (below : index < length old.rings) (once : StandOnce old.rings) (shaped : IsShaped old) (last : place ≡ end_in old index) where
  -- the place is one of the ring
  at : IsPlaceIn old index place
  at = end_place old index place last below

  -- the node is the last of the ring
  pub ring_last : ring_at new index ≡ ring_at old index ++ node ∷ []
  ring_last = ring_put old new node node_content place index adds at once
      ∙ (ap (λ p. put_after p node (head_of index) (ring_at old index)) last ∙ put_last index node (ring_at old index) (distinct_ring old.rings index once))

  -- what is read of it is the last that is read
  reads_last : {X : Type 0} (keys : Content → List X) → flat_map (read_at keys new) (ring_at new index) ≡ flat_map (read_at keys old) (ring_at old index) ++ keys node_content
  reads_last keys = ap (flat_map (read_at keys new)) ring_last ∙ (flat_map-append (read_at keys new) (ring_at old index) (node ∷ [])
      ∙ (ap (λ xs. xs ++ flat_map (read_at keys new) (node ∷ []))
      (same_read (read_at keys old) (read_at keys new) (ring_at old index) (reads_in old new node node_content place index adds at once shaped keys index))
      ∙ ap (λ xs. flat_map (read_at keys old) (ring_at old index) ++ xs) (append-nil (read_at keys new node) ∙ read_itself old new node node_content place index adds at once keys)))

  -- behind it is the ring's end
  pub end_last : end_in new index ≡ After node
  end_last = ap (end_of (head_of index)) ring_last ∙ end_push (head_of index) (ring_at old index) node

  -- the other rings end where they ended
  pub end_other : (other : ℕ) → (index ≡ other → ⊥) → end_in new other ≡ end_in old other
  end_other other differ = ap (end_of (head_of other)) (ring_other old new node node_content place index adds at once other differ)

  -- a declaration more, behind all others
  pub declared_last : index ≡ 0 → declared_at new ≡ declared_at old ++ declaration_in node_content
  declared_last is = declared_read new
      ∙ (subst (λ k. flat_map (read_at declaration_in new) (ring_at new k) ≡ flat_map (read_at declaration_in old) (ring_at old k) ++ declaration_in node_content) is (reads_last declaration_in)
      ∙ ap (λ xs. xs ++ declaration_in node_content) (sym (declared_read old)))

  -- a section more, behind all others
  pub sections_last : index ≡ 1 → (name : Option (List ℕ)) (ring : RingId) → node_content ≡ content.Begun name ring → entries_in new ring ≡ []
      → sections_at new ≡ sections_at old ++ record { name = name; entries = [] } ∷ []
  sections_last is name ring begins none =
      let known : content_of new node ≡ Some (content.Begun name ring) = content_itself old new node node_content place index adds at once ∙ ap Some begins in
      let lists : ring_at new 1 ≡ ring_at old 1 ++ node ∷ [] = subst (λ k. ring_at new k ≡ ring_at old k ++ node ∷ []) is ring_last in
      sections_read new ∙ (ap (flat_map (read_at (section_in new) new)) lists ∙ (flat_map-append (read_at (section_in new) new) (ring_at old 1) (node ∷ [])
      ∙ (ap (λ xs. xs ++ flat_map (read_at (section_in new) new) (node ∷ [])) (same_read (read_at (section_in old) old) (read_at (section_in new) new) (ring_at old 1)
      (λ other there. section_same old new node node_content place index adds at once shaped other there
      (λ name ring known same. past_two old new node node_content place index adds at once shaped other there 1 (omega arith) name ring known (sym is ∙ same))) ∙ sym (sections_read old))
      ∙ ap (λ xs. sections_at old ++ xs) (append-nil (read_at (section_in new) new node)
      ∙ (read_known (section_in new) new node (content.Begun name ring) known ∙ ap (λ (entries : List Entry). record { name = name; entries = entries } ∷ []) none)))))

  -- an entry more, behind all others of the last section
  pub entries_last : (prefix : List NodeId) (section : NodeId) (name : Option (List ℕ)) (ring : RingId) (entry : Entry) → ring_at old 1 ≡ prefix ++ section ∷ []
      → content_of old section ≡ Some (content.Begun name ring)
      → index ≡ ring.index → node_content ≡ content.Placed entry → (index ≡ 1 → ⊥) → sections_at new ≡ with_last (sections_at old) entry
  entries_last prefix section name ring entry lists known is placed differ =
      let in_ring : has_node (ring_at old 1) section ≡ true = ap (λ nodes. has_node nodes section) lists ∙ in_back prefix section in
      let owns = subst (λ k. has_key same_ring rings_in old (record { index = k }) section ≡ true) (sym is) (ring_key old section name ring (in_rings old 1 section in_ring) known) in
      let distinct : AreDistinct (prefix ++ section ∷ []) = subst AreDistinct lists (distinct_ring old.rings 1 once) in
      let same_prefix : flat_map (read_at (section_in new) new) prefix ≡ flat_map (read_at (section_in old) old) prefix =
      same_read (read_at (section_in old) old) (read_at (section_in new) new) prefix (λ other there.
      let here : has_node (ring_at old 1) other ≡ true = ap (λ nodes. has_node nodes other) lists ∙ in_prefix prefix (section ∷ []) other there in
      section_same old new node node_content place index adds at once shaped other here
      (other_ring old new node node_content place index adds at once shaped section owns other here (before_last prefix section distinct other there))) in
      let entries_now : entries_in new ring ≡ entries_in old ring ++ entry ∷ [] =
      entries_read new ring ∙ (subst (λ k. flat_map (read_at entry_in new) (ring_at new k) ≡ flat_map (read_at entry_in old) (ring_at old k) ++ entry_in node_content) is (reads_last entry_in)
      ∙ (ap (λ xs. xs ++ entry_in node_content) (sym (entries_read old ring)) ∙ ap (λ c. entries_in old ring ++ entry_in c) placed)) in
      let still : content_of new section ≡ Some (content.Begun name ring) =
      content_other old new node node_content place index adds at once section (other_in old new node node_content place index adds at once shaped 1 section in_ring) ∙ known in
      let now : read_at (section_in new) new section ≡ record { name = name; entries = entries_in old ring ++ entry ∷ [] } ∷ [] =
      read_known (section_in new) new section (content.Begun name ring) still ∙ ap (λ (entries : List Entry). record { name = name; entries = entries } ∷ []) entries_now in
      let was : sections_at old ≡ flat_map (read_at (section_in old) old) prefix ++ record { name = name; entries = entries_in old ring } ∷ [] =
      sections_read old ∙ (ap (flat_map (read_at (section_in old) old)) lists ∙ (flat_map-append (read_at (section_in old) old) prefix (section ∷ [])
      ∙ ap (λ xs. flat_map (read_at (section_in old) old) prefix ++ xs) (append-nil (read_at (section_in old) old section)
      ∙ read_known (section_in old) old section (content.Begun name ring) known))) in
      sections_read new ∙ (ap (flat_map (read_at (section_in new) new)) (ring_other old new node node_content place index adds at once 1 differ ∙ lists)
      ∙ (flat_map-append (read_at (section_in new) new) prefix (section ∷ []) ∙ (ap (λ xs. xs ++ flat_map (read_at (section_in new) new) (section ∷ [])) same_prefix
      ∙ (ap (λ xs. flat_map (read_at (section_in old) old) prefix ++ xs) (append-nil (read_at (section_in new) new section) ∙ now)
      ∙ (sym (last_more (flat_map (read_at (section_in old) old) prefix) (record { name = name; entries = entries_in old ring }) entry) ∙ ap (λ sections. with_last sections entry) (sym was))))))
