-- A layout with a ring more that has no nodes is the same table.
use Rattle.std.proofs.Common.{◌≡◌, ℕ, suc, ◌+◌, ◌≤◌, ◌++◌, Bool, ◌&&◌, List, [], ◌∷◌, Option, Some, None, length, get_or, flat_map, sym, ap, ◌∙◌, refl, arith}
use Rattle.std.specs.List.{list_any}
use Rattle.std.proofs.lemmas.List.{length-append}
use Rattle.coll_order.specs.Layout.{head_of}
use Rattle.coll_order.specs.Lists.{has_node}
use Rattle.coll_order.specs.Sound.{StandOnce}
use Rattle.coll_order.specs.declared.places.NodeId.{NodeId}
use Rattle.coll_order.specs.declared.places.RingId.{RingId}
use Rattle.coll_order.specs.declared.places.Place.{Place}
use Rattle.coll_order.proofs.RingLemmas.{is_in_push, get_push}
use Rattle.coll_nodes.specs.SoundBodies.{read_at, ring_at, has_key, rings_in, same_ring, is_place_of, IsSection, IsShaped, IsPlaceIn, Finds, with_empty_ring}
use Rattle.coll_nodes.specs.TableLayout.{TableLayout, content_of, if_any, declaration_in, entry_in, section_in, entries_in, declared_at, sections_at}
use Rattle.coll_nodes.specs.declared.contents.Content.{Content}
use Rattle.coll_nodes.specs.declared.contents.Content.TheVariants as content
use Rattle.coll_nodes.specs.declared.entries.Entry.{Entry}
use Rattle.coll_nodes.proofs.LayoutReads.{declared_read, sections_read, entries_read}
use Rattle.coll_nodes.proofs.NodeLists.{same_read}

-- no node stands twice still
pub once_push : (rings : List (List NodeId)) → StandOnce rings → StandOnce (rings ++ [] ∷ [])
once_push [] once = (tt, (λ node there. refl), tt)
once_push (nodes ∷ rings) once = (once.0, (λ node there. is_in_push rings node ∙ once.1 node there), once_push rings once.2)

-- behind the last ring there is none
pub get_past : (rings : List (List NodeId)) → get_or rings (length rings) [] ≡ []
get_past [] = refl
get_past (nodes ∷ rings) = get_past rings

-- a section of few rings is one of more
more_rings : (few many : ℕ) (found : Option Content) → few ≤ many → IsSection few found → IsSection many found
more_rings few many None below is = absurd is
more_rings few many (Some (content.Declared declaration)) below is = absurd is
more_rings few many (Some (content.Begun name ring)) below is = (is.0, (let high = is.1 in omega (arith, high, below)))
more_rings few many (Some (content.Placed entry)) below is = absurd is

module _ (layout : TableLayout) where
  -- there is one ring more
  pub one_ring_more : length (with_empty_ring layout).rings ≡ length layout.rings + 1
  one_ring_more = length-append layout.rings ([] ∷ [])

  -- the nodes have the keys that they had
  pub key_push : {Key : Type 0} (same : Key → Key → Bool) (keys : Content → List Key) (key : Key) (node : NodeId) → has_key same keys (with_empty_ring layout) key node
      ≡ has_key same keys layout key node
  key_push same keys key node = ap (λ b. b && list_any (same key) (read_at keys layout node)) (is_in_push layout.rings node)

  -- what is found is found
  pub finds_push : {Key : Type 0} (same : Key → Key → Bool) (keys : Content → List Key) (find : Key → Option NodeId) → Finds same keys layout find → Finds same keys (with_empty_ring layout) find
  finds_push same keys find sound = record {
    leads = λ key node. λ e. key_push same keys key node ∙ sound.leads key node e;
    finds = λ key node. λ has. sound.finds key node (sym (key_push same keys key node) ∙ has);
  }

  -- the layout is one of a table still
  pub shaped_push : IsShaped layout → IsShaped (with_empty_ring layout)
  shaped_push shaped = record {
    two = let more = one_ring_more in let two = shaped.two in omega (arith, more, two);
    declared = λ node. λ there. shaped.declared node (sym (ap (λ nodes. has_node nodes node) (get_push layout.rings 0)) ∙ there);
    begun = λ node. λ there. more_rings (length layout.rings) (length (with_empty_ring layout).rings) (content_of layout node) (let more = one_ring_more in omega (arith, more))
        (shaped.begun node (sym (ap (λ nodes. has_node nodes node) (get_push layout.rings 1)) ∙ there));
    placed = λ index node. λ there.
        let had = shaped.placed index node (sym (ap (λ nodes. has_node nodes node) (get_push layout.rings (suc (suc index)))) ∙ there) in
        (had.0, (had.1.0, key_push same_ring rings_in (record { index = suc (suc index) }) had.1.0 ∙ had.1.1));
    own = λ ring a b. λ p q. shaped.own ring a b (sym (key_push same_ring rings_in ring a) ∙ p) (sym (key_push same_ring rings_in ring b) ∙ q);
  }

  -- it has the same declarations
  pub declared_push : declared_at (with_empty_ring layout) ≡ declared_at layout
  declared_push = declared_read (with_empty_ring layout) ∙ (ap (flat_map (read_at declaration_in layout)) (get_push layout.rings 0) ∙ sym (declared_read layout))

  -- each ring has the same entries
  pub entries_push : (ring : RingId) → entries_in (with_empty_ring layout) ring ≡ entries_in layout ring
  entries_push ring = entries_read (with_empty_ring layout) ring ∙ (ap (flat_map (read_at entry_in layout)) (get_push layout.rings ring.index) ∙ sym (entries_read layout ring))

  -- each node is the same section
  section_push : (found : Option Content) → flat_map (section_in (with_empty_ring layout)) (if_any found) ≡ flat_map (section_in layout) (if_any found)
  section_push None = refl
  section_push (Some (content.Declared declaration)) = refl
  section_push (Some (content.Begun name ring)) = ap (λ (entries : List Entry). record { name = name; entries = entries } ∷ []) (entries_push ring)
  section_push (Some (content.Placed entry)) = refl

  -- it has the same sections
  pub sections_push : sections_at (with_empty_ring layout) ≡ sections_at layout
  sections_push = sections_read (with_empty_ring layout) ∙ (ap (flat_map (read_at (section_in (with_empty_ring layout)) (with_empty_ring layout))) (get_push layout.rings 1)
      ∙ (same_read (read_at (section_in layout) layout) (read_at (section_in (with_empty_ring layout)) (with_empty_ring layout)) (ring_at layout 1)
      (λ node there. section_push (content_of layout node)) ∙ sym (sections_read layout)))

  -- a place of a ring is one still
  pub place_push : (index : ℕ) (place : Place) → IsPlaceIn layout index place → IsPlaceIn (with_empty_ring layout) index place
  place_push index place at = record {
    ring = let more = one_ring_more in let below = at.ring in omega (arith, more, below);
    on = ap (λ nodes. is_place_of place (head_of index) nodes) (get_push layout.rings index) ∙ at.on;
  }
