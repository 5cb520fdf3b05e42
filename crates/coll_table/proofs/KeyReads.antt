-- Which keys the nodes in rings have is read of the table's lists.
use Rattle.std.proofs.Common.{◌≡◌, ℕ, Bool, true, false, List, sym, ap, ◌∙◌, refl}
use Rattle.std.specs.List.{list_any}
use Rattle.coll_order.specs.Layout.{is_in}
use Rattle.coll_order.specs.declared.places.NodeId.{NodeId}
use Rattle.coll_order.proofs.Sameness.{by_test, not_both}
use Rattle.coll_syntax.specs.Identifier.{same_id, same_name, has_name}
use Rattle.coll_syntax.specs.declared.identifiers.Id.{Id}
use Rattle.coll_nodes.proofs.BodyReads.{ids_of_node}
use Rattle.coll_nodes.proofs.LayoutReads.{and_true, both_true, in_rings, placed_from, placed_to, section_names_read}
use Rattle.coll_nodes.proofs.NodeLists.{any_from, any_map}
use Rattle.coll_nodes.specs.SoundBodies.{IsShaped, has_key, ids_in, read_at, ring_at, section_names_in}
use Rattle.coll_nodes.specs.Table.{is_placed, is_placed_in, joined_entries, section_names}
use Rattle.coll_nodes.specs.TableLayout.{TableLayout, TableValue, collation, content_of, sections_at}
use Rattle.coll_nodes.specs.declared.entries.Entry.{Entry}

module _ (layout : TableLayout) (shaped : IsShaped layout) where
  among : (id : Id) → is_placed_in (sections_at layout) id ≡ list_any (λ (entry : Entry). same_id id entry.id) (joined_entries (sections_at layout))
  among id = any_map (same_id id) (λ (entry : Entry). entry.id) (joined_entries (sections_at layout))

  -- an identifier is placed where a node has it
  pub key_placed : (id : Id) (node : NodeId) → has_key same_id ids_in layout id node ≡ true → is_placed_in (sections_at layout) id ≡ true
  key_placed id node has =
      let parts = both_true (is_in layout.rings node) (list_any (same_id id) (read_at ids_in layout node)) has in
      among id ∙ placed_to layout shaped (λ (entry : Entry). same_id id entry.id) node parts.0 (sym (ids_of_node layout shaped id (content_of layout node)) ∙ parts.1)

  -- where none has it, it isn't
  pub no_key_placed : (id : Id) → ((node : NodeId) → has_key same_id ids_in layout id node ≡ false) → is_placed_in (sections_at layout) id ≡ false
  no_key_placed id none =
      let test : Entry → Bool = λ entry. same_id id entry.id in
      among id ∙ by_test (λ b. list_any test (joined_entries (sections_at layout)) ≡ b → b ≡ false) (list_any test (joined_entries (sections_at layout)))
      (λ on e. let at = placed_from layout shaped test e in
      not_both (and_true at.1 (ids_of_node layout shaped id (content_of layout at.0) ∙ at.2)) (none at.0))
      (λ off e. refl) refl

  -- where no node has a name, no section has it
  pub no_key_named : (name : List ℕ) → ((node : NodeId) → has_key same_name section_names_in layout name node ≡ false) → has_name (section_names (sections_at layout)) name ≡ false
  no_key_named name none =
      by_test (λ b. has_name (section_names (sections_at layout)) name ≡ b → b ≡ false) (has_name (section_names (sections_at layout)) name)
      (λ on e. let at = any_from (same_name name) (read_at section_names_in layout) (ring_at layout 1) (sym (ap (λ names. has_name names name) (section_names_read layout)) ∙ e) in
      not_both (and_true (in_rings layout 1 at.0 at.1) at.2) (none at.0))
      (λ off e. refl) refl

module _ (table : TableValue) (shaped : IsShaped table.layout) where
  -- an identifier that is placed is that of a node
  pub placed_has_node : (id : Id) → is_placed (collation table) id ≡ true → ((node : NodeId) → has_key same_id ids_in table.layout id node ≡ false) → ⊥
  unfolding collation
  placed_has_node id placed none = not_both placed (no_key_placed table.layout shaped id none)

  -- a name that a section has is that of a node
  pub named_has_node : (name : List ℕ) → has_name (section_names (collation table).sections) name ≡ true → ((node : NodeId) → has_key same_name section_names_in table.layout name node ≡ false) → ⊥
  unfolding collation
  named_has_node name named none = not_both named (no_key_named table.layout shaped name none)
