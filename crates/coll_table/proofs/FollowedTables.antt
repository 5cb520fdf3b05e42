-- The places of a table's entries are the numbers of their nodes, one after another.
use Rattle.std.proofs.Common.{◌≡◌, ◌+◌, ℕ, suc, true, false, ◌&&◌, cond, List, [], ◌∷◌, ◌++◌, Option, Some, None, IsSome, flat_map, option_map, sym, ap, subst, ◌∙◌, refl, arith}
use Rattle.std.specs.List.{list_any}
use Rattle.coll_order.specs.Layout.{is_in}
use Rattle.coll_order.specs.Lists.{same_node, has_node}
use Rattle.coll_order.specs.declared.places.NodeId.{NodeId}
use Rattle.coll_order.proofs.ListLemmas.{or_first, or_second}
use Rattle.coll_order.proofs.Sameness.{by_test, not_both, same_node_itself}
use Rattle.coll_syntax.specs.Identifier.{same_id}
use Rattle.coll_syntax.specs.declared.identifiers.Id.{Id}
use Rattle.coll_lookups.proofs.Sameness.{same_id_decides}
use Rattle.coll_lookups.specs.EntryNumbers.{number_at}
use Rattle.coll_nodes.proofs.LayoutReads.{and_true, both_true, read_known}
use Rattle.coll_nodes.proofs.NodeLists.{any_map, any_to}
use Rattle.coll_nodes.proofs.NumberedNodes.{are_numbers, as_many, behind, entries_of_nodes, entry_at_node, one_behind}
use Rattle.coll_nodes.specs.NodeNumbers.{entry_nodes, AreNumbersOf}
use Rattle.coll_nodes.specs.Placement.{place_among}
use Rattle.coll_nodes.specs.SoundBodies.{has_key, ids_in, read_at}
use Rattle.coll_nodes.specs.SoundLayouts.{IsTable}
use Rattle.coll_nodes.specs.Table.{Collation, ids_of, joined_entries}
use Rattle.coll_nodes.specs.TableLayout.{TableLayout, TableValue, collation, content_of, entry_in, if_any, sections_at}
use Rattle.coll_nodes.specs.WellFormed as are
use Rattle.coll_nodes.specs.declared.contents.Content.{Content}
use Rattle.coll_nodes.specs.declared.contents.Content.TheVariants as content
use Rattle.coll_nodes.specs.declared.entries.Entry.{Entry}
use Rattle.coll_table.proofs.FollowedLists.{given_last}
use Rattle.coll_table.proofs.RecordExtends.{collation_wider}
use Rattle.coll_table.proofs.RecordTurns.{records_turn}
use Rattle.coll_table.specs.Following.{AreGiven, AreNumbered}
use Rattle.coll_table.specs.Record.{turn, turned_layout, Extends, Fits}
use Rattle.coll_table.specs.RecordLaws.{NumberedAlike, WiderNumberedAlike}
use Rattle.coll_table.specs.Turning.{turned_back, turned_on}
use Rattle.coll_table.specs.declared.records.Record.{Record}

some_number : {a b : ℕ} → Some a ≡ Some b → a ≡ b
some_number e = cc

-- an identifier is itself
itself : (entry : Entry) → same_id entry.id entry.id ≡ true
itself entry = (same_id_decides entry.id entry.id).1 refl

-- nodes of which each has the place of its entry have numbers one after another
given_placed : (layout : TableLayout) (f : NodeId → ℕ) (k : ℕ) (nodes : List NodeId)
    → ((node : NodeId) → has_node nodes node ≡ true → (entry : Entry) × (content_of layout node ≡ Some (content.Placed entry)))
    → are.AreDistinct same_id (ids_of (flat_map (read_at entry_in layout) nodes))
    → ((node : NodeId) (entry : Entry) → has_node nodes node ≡ true → content_of layout node ≡ Some (content.Placed entry)
    → behind k (place_among (flat_map (read_at entry_in layout) nodes) entry.id) ≡ Some (f node))
    → AreGiven f k nodes
given_placed layout f k [] entries distinct placed = tt
given_placed layout f k (first ∷ nodes) entries distinct placed = (own, given_placed layout f (suc k) nodes later_entries apart.1 later_placed) where
  at_first : has_node (first ∷ nodes) first ≡ true
  at_first = or_first (same_node first first) _ (same_node_itself first)

  entry : Entry
  entry = (entries first at_first).0

  is : content_of layout first ≡ Some (content.Placed entry)
  is = (entries first at_first).1

  later : List Entry
  later = flat_map (read_at entry_in layout) nodes

  whole : flat_map (read_at entry_in layout) (first ∷ nodes) ≡ entry ∷ later
  whole = ap (λ es. es ++ later) (read_known entry_in layout first (content.Placed entry) is)

  apart : are.AreDistinct same_id (ids_of (entry ∷ later))
  apart = subst (λ es. are.AreDistinct same_id (ids_of es)) whole distinct

  own : f first ≡ suc k
  own =
      let here = placed first entry at_first is in
      let one : place_among (entry ∷ later) entry.id ≡ Some 1 = ap (λ b. cond b (Some 1) (option_map (λ n. suc n) (place_among later entry.id))) (itself entry) in
      let same : Some (k + 1) ≡ Some (f first) = sym (ap (λ es. behind k (place_among es entry.id)) whole ∙ ap (behind k) one) ∙ here in
      let number = some_number same in
      omega (arith, number)

  later_entries : (node : NodeId) → has_node nodes node ≡ true → (entry : Entry) × (content_of layout node ≡ Some (content.Placed entry))
  later_entries node there = entries node (or_second (same_node node first) _ there)

  later_placed : (node : NodeId) (it : Entry) → has_node nodes node ≡ true → content_of layout node ≡ Some (content.Placed it) → behind (suc k) (place_among later it.id) ≡ Some (f node)
  later_placed node it there known =
      one_behind k (place_among later it.id)
      ∙ (sym (ap (λ es. behind k (place_among es it.id)) whole ∙ ap (λ b. behind k (cond b (Some 1) (option_map (λ n. suc n) (place_among later it.id)))) other)
      ∙ placed node it (or_second (same_node node first) _ there) known) where
        found : list_any (same_id it.id) (ids_of later) ≡ true
        found =
            any_map (same_id it.id) (λ (e : Entry). e.id) later
            ∙ any_to (λ (e : Entry). same_id it.id e.id) (read_at entry_in layout) nodes node there
            (ap (list_any (λ (e : Entry). same_id it.id e.id)) (read_known entry_in layout node (content.Placed it) known) ∙ or_first (same_id it.id it.id) false (itself it))

        other : same_id it.id entry.id ≡ false
        other = by_test (λ b. same_id it.id entry.id ≡ b → b ≡ false) (same_id it.id entry.id)
            (λ on e. not_both (ap (λ i. list_any (same_id i) (ids_of later)) (sym ((same_id_decides it.id entry.id).0 e)) ∙ found) apart.0)
            (λ off e. refl) refl

-- places of a table's entries are numbers of their nodes
pub table_numbered : (table : TableValue) (numbers : List ℕ) → IsTable table → AreNumbersOf numbers table.layout → AreNumbered numbers (entry_nodes table.layout) 1000000
unfolding collation
table_numbered table numbers is numbered =
    let layout = table.layout in
    let shaped = is.sound.shaped in
    let built = is.well_formed.built in
    let many = as_many layout shaped in
    let most = built.few_entries in
    record {
      given = given_placed layout (number_at numbers) 0 (entry_nodes layout) (λ node there. (entry_at_node layout shaped node there).0)
          (subst (λ es. are.AreDistinct same_id (ids_of es)) (entries_of_nodes layout shaped) built.distinct_entries)
          (λ node entry there known.
          let linked = (entry_at_node layout shaped node there).1 in
          let has : has_key same_id ids_in layout entry.id node ≡ true =
          and_true linked (ap (list_any (same_id entry.id)) (read_known ids_in layout node (content.Placed entry) known) ∙ or_first (same_id entry.id entry.id) false (itself entry)) in
          ap (λ es. behind 0 (place_among es entry.id)) (sym (entries_of_nodes layout shaped))
          ∙ (ap (behind 0) (numbered entry.id node has) ∙ ap Some (let same : 0 + number_at numbers node ≡ number_at numbers node = omega arith in same)));
      few = omega (arith, many, most);
    }

-- and numbers of their nodes are places of its entries
pub numbered_table : (table : TableValue) (numbers : List ℕ) (most : ℕ) → IsTable table → AreNumbered numbers (entry_nodes table.layout) most → AreNumbersOf numbers table.layout
unfolding collation
numbered_table table numbers most is numbered =
    are_numbers table.layout numbers numbers is.sound is.well_formed.built.distinct_entries (λ node. given_last (number_at numbers) 0 (entry_nodes table.layout) node numbered.given)

-- Records.

module _ (table : TableValue) (kept : Record) (numbers : List ℕ) (is : IsTable table) (fits : Fits table kept) (numbered : AreNumbersOf numbers (turn table kept).layout) where
  -- the numbers before an undone record was taken back
  pub before_undone : kept.undone ≡ true → AreNumbered numbers (entry_nodes (turned_on table.layout kept.items)) 1000000
  unfolding turn
  before_undone undone =
      subst (λ b. AreNumbered numbers (entry_nodes (turned_layout b table.layout kept.items)) 1000000) undone (table_numbered (turn table kept) numbers (records_turn table kept is fits).stands numbered)

  -- and those before one in force was done
  pub before_done : kept.undone ≡ false → AreNumbered numbers (entry_nodes (turned_back table.layout kept.items)) 1000000
  unfolding turn
  before_done done =
      subst (λ b. AreNumbered numbers (entry_nodes (turned_layout b table.layout kept.items)) 1000000) done (table_numbered (turn table kept) numbers (records_turn table kept is fits).stands numbered)

-- Loose nodes.

module _ (wide table : TableValue) (numbers : List ℕ) (is : IsTable table) (wider : Extends wide table) where
  -- the same is read of a node that stands in a ring
  same_content : (node : NodeId) → is_in table.layout.rings node ≡ true → content_of wide.layout node ≡ content_of table.layout node
  same_content node linked = by (content_of table.layout node) refl (is.sound.laid.made node linked) where
    by : (found : Option Content) → content_of table.layout node ≡ found → IsSome found → content_of wide.layout node ≡ content_of table.layout node
    by None known some = cc
    by (Some it) known some = wider.nodes node it known ∙ sym known

  -- so it has the same keys
  same_key : (id : Id) (node : NodeId) → is_in table.layout.rings node ≡ true → has_key same_id ids_in wide.layout id node ≡ has_key same_id ids_in table.layout id node
  same_key id node linked =
      ap (λ rings. is_in rings node && list_any (same_id id) (read_at ids_in wide.layout node)) wider.rings
      ∙ ap (λ found. is_in table.layout.rings node && list_any (same_id id) (flat_map ids_in (if_any found))) (same_content node linked)

  -- and the sections are the same
  same_sections : sections_at wide.layout ≡ sections_at table.layout
  unfolding collation
  same_sections = ap (λ (c : Collation). c.sections) (collation_wider wide table is wider)

  numbered_alike : NumberedAlike wide table numbers
  numbered_alike = record {
    wider = λ numbered id node has.
        let linked = sym (ap (λ rings. is_in rings node) wider.rings) ∙ (both_true _ _ has).0 in
        ap (λ sections. place_among (joined_entries sections) id) same_sections ∙ numbered id node (sym (same_key id node linked) ∙ has);
    narrower = λ numbered id node has.
        ap (λ sections. place_among (joined_entries sections) id) (sym same_sections) ∙ numbered id node (same_key id node (both_true _ _ has).0 ∙ has);
  }

pub wider_numbered : WiderNumberedAlike
wider_numbered wide table numbers is wider = numbered_alike wide table numbers is wider
