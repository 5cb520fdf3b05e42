-- The items of a block, done one after the other, make the table that its lines make.
use Rattle.std.proofs.Common.{◌≡◌, ℕ, ◌+◌, Bool, true, false, ◌&&◌, ◌||◌, cond, is_some, not, List, [], ◌∷◌, ◌++◌, Option, Some, None, length, sym, ap, ap₂, subst, ◌∙◌, refl}
use Rattle.std.specs.Prelude.{is_none}
use Rattle.std.proofs.Math.Bool.{and-true, or-false}
use Rattle.coll_order.specs.Layout.{is_in}
use Rattle.coll_order.specs.Lists.{same_node}
use Rattle.coll_order.specs.declared.places.NodeId.{NodeId}
use Rattle.coll_order.specs.declared.places.Place.{Place}
use Rattle.coll_order.specs.declared.places.Place.TheVariants.{After}
use Rattle.coll_order.proofs.Sameness.{by_test, not_both, same_node_is}
use Rattle.coll_syntax.specs.Identifier.{same_id, has_id}
use Rattle.coll_syntax.specs.declared.identifiers.Id.{Id}
use Rattle.coll_syntax.specs.declared.statements.OrderLine.{OrderLine}
use Rattle.coll_syntax.specs.declared.weights.Weight.{Weight}
use Rattle.coll_nodes.proofs.BodyReads.{entry_known, id_found}
use Rattle.coll_table.proofs.DeltaPlacing.{apart_when_new, lines_stay}
use Rattle.coll_table.proofs.DeltaRefusals.{has_last, has_still, passes}
use Rattle.coll_nodes.proofs.EntryLemmas.{entry_there}
use Rattle.coll_table.proofs.ItemEntries.{IsEntryOf, entries_apart, entry_with, entry_with_id, item_puts, loose_entry, placed_entry, put_declared, put_key, put_keys, put_others, put_sections}
use Rattle.coll_table.proofs.ItemPlaces.{entry_goes, finds_once, loose_suits, new_out, node_by, once_new, placed_standing, standing_suits, stands as stands_at}
use Rattle.coll_table.proofs.ItemsDone.{AreDone, with_layout}
use Rattle.coll_nodes.proofs.LayoutReads.{both_true}
use Rattle.coll_lookups.proofs.Sameness.{same_id_decides, same_id_itself}
use Rattle.coll_texts.proofs.SoundLines.{neither_found, passed}
use Rattle.coll_table.proofs.TurningSound.{item_on_sound}
use Rattle.coll_nodes.specs.Bodies.{without_link}
use Rattle.coll_table.specs.Delta.{all_moved, block_entry, line_refusal, lines_refusal, moved, standing, weights_refusal}
use Rattle.coll_nodes.specs.Entries.{entry_of, given_weights, kept_weights, weights_of}
use Rattle.coll_nodes.specs.Placement.{entry_at, placed_after, without}
use Rattle.coll_table.specs.Prepared.{ArePrepared, IsNodeFor, IsPreparedLine, made_entry, weights_to}
use Rattle.coll_table.specs.Record.{line_steps, lines_steps}
use Rattle.coll_table.specs.StatementItems.{without_weights}
use Rattle.coll_nodes.specs.SoundBodies.{has_key, ids_in}
use Rattle.coll_nodes.specs.SoundLayouts.{IsSoundLayout}
use Rattle.coll_nodes.specs.Table.{Collation, Section, entries_of, is_known, is_placed, is_placed_in, is_symbol}
use Rattle.coll_nodes.specs.TableLayout.{TableLayout, TableValue, collation, content_of, declared_at, sections_at}
use Rattle.coll_nodes.specs.Moving.{AreNew, IsAt, Suits}
use Rattle.coll_table.specs.Turning.{CanTurnOn, ItemGoes, item_on, placed_at, placed_items, steps_between, steps_of, turned_on}
use Rattle.coll_nodes.specs.declared.contents.Content.TheVariants as content
use Rattle.coll_nodes.specs.declared.declarations.Declaration.{Declaration}
use Rattle.coll_nodes.specs.declared.entries.Entry.{Entry}
use Rattle.coll_table.specs.declared.records.Item.{Item}
use Rattle.coll_table.specs.declared.refusals.Refusal.TheVariants.{NotDeclared, SymbolWithWeights, TwiceInBlock}

-- Identifiers that are placed.

module _ (layout : TableLayout) (sound : IsSoundLayout layout) (id : Id) where
  -- one that is placed is that of a node
  placed_where : is_placed_in (sections_at layout) id ≡ true → (node : NodeId) × (has_key same_id ids_in layout id node ≡ true)
  placed_where placed =
      let find = node_by same_id ids_in layout in
      let finds = finds_once same_id ids_in layout sound.ids in
      elim (find id) as (λ found. find id ≡ found → is_some found ≡ true → (node : NodeId) × (has_key same_id ids_in layout id node ≡ true)) [
        | None ↦ λ _ there. not_both there refl
        | Some node ↦ λ is _. (node, finds.leads id node is)
      ] refl (sym (id_found layout sound.shaped find id finds) ∙ placed)

  -- and the other way round
  pub where_placed : (node : NodeId) → has_key same_id ids_in layout id node ≡ true → is_placed_in (sections_at layout) id ≡ true
  where_placed node has =
      let finds = finds_once same_id ids_in layout sound.ids in
      id_found layout sound.shaped (node_by same_id ids_in layout) id finds ∙ ap is_some (finds.finds id node has)

  -- one that isn't is that of no node
  pub unplaced : is_placed_in (sections_at layout) id ≡ false → (other : NodeId) → has_key same_id ids_in layout id other ≡ false
  unplaced off other = by_test (λ b. has_key same_id ids_in layout id other ≡ b → b ≡ false) (has_key same_id ids_in layout id other) (λ on t. not_both (where_placed other t) off) (λ no t. refl) refl

  -- an entry of such a one is new
  unplaced_new : (entry : Entry) → entry.id ≡ id → is_placed_in (sections_at layout) id ≡ false → AreNew same_id ids_in layout (content.Placed entry)
  unplaced_new entry same off key other has =
      let is : key ≡ id = (same_id_decides key entry.id).0 (sym (or-false (same_id key entry.id)) ∙ has) ∙ same in
      subst (λ id. has_key same_id ids_in layout id other ≡ false) (sym is) (unplaced off other)

-- an identifier of the same nodes is placed where it was
placed_alike : (old new : TableLayout) (id : Id) → IsSoundLayout old → IsSoundLayout new → ((other : NodeId) → has_key same_id ids_in new id other ≡ has_key same_id ids_in old id other)
    → is_placed_in (sections_at new) id ≡ is_placed_in (sections_at old) id
placed_alike old new id old_sound new_sound keys =
    by_test (λ b. is_placed_in (sections_at new) id ≡ b → b ≡ is_placed_in (sections_at old) id) (is_placed_in (sections_at new) id)
    (λ on t. let at = placed_where new new_sound id t in sym (where_placed old old_sound id at.0 (sym (keys at.0) ∙ at.1)))
    (λ off t. by_test (λ b. is_placed_in (sections_at old) id ≡ b → false ≡ b) (is_placed_in (sections_at old) id)
    (λ on u. let at = placed_where old old_sound id u in not_both (where_placed new new_sound id at.0 (keys at.0 ∙ at.1)) t) (λ no u. refl) refl) refl

-- where there is no entry, none is found
no_entry_at : (found : Option Entry) → is_some found ≡ false → found ≡ None
no_entry_at None e = refl
no_entry_at (Some entry) e = not_both refl e

-- A line, and its item.

-- what an item has to have for a line, where it is prepared: its node is the line's entry, and stands where it says, or nowhere
pub record IsReady (table : TableValue) (line : OrderLine) (item : Item) : Type 0 where
  pub entry : Entry
  pub own : IsEntryOf table.layout line.id item.node entry
  pub stands : IsAt table.layout item.node (placed_at item.old table.layout item.node)
  pub suits : Suits (without_link table.layout item.node) item.node (placed_at item.old table.layout item.node)
  pub fresh : AreNew same_id ids_in (without_link table.layout item.node) (content.Placed entry)
  pub steps : (place : Place) → steps_between (placed_at item.old table.layout item.node) (Some place) ≡ line_steps (collation table) line
  pub kept : line.weights ≡ None → entry ≡ block_entry (collation table) line

module _ (table : TableValue) (line : OrderLine) (item : Item) (sound : IsSoundLayout table.layout) where
  -- the entry that stands is the one of a line without weights
  stays : (found : Option Entry) → entry_at (entries_of (collation table)) line.id ≡ found → line.weights ≡ None
      → block_entry (collation table) line ≡ standing true found (entry_of (length table.rules) (collation table).declared line)
  unfolding collation
  stays found at none =
      let new = entry_of (length table.rules) (declared_at table.layout) line in
      ap (λ (weights : Option (List Weight)). standing (is_none weights) (entry_at (entries_of (collation table)) line.id) new) none ∙ ap (λ it. standing true it new) at

  ready_placed : is_placed (collation table) line.id ≡ true → IsNodeFor true (collation table) table.layout line.id item → IsReady table line item
  unfolding collation
  ready_placed placed node =
      let layout = table.layout in
      let mine = placed_entry layout line.id item.node sound node.1 in
      let entry = mine.0 in
      let own = mine.1 in
      let linked = (both_true _ _ node.1).0 in
      let place = stands_at 0 layout.rings item.node linked in
      let at : placed_at item.old layout item.node ≡ Some place.0 = placed_standing layout item.node item.old place.0 node.0 place.1 in
      let finds = finds_once same_id ids_in layout sound.ids in
      let known = entry_known layout sound.shaped (node_by same_id ids_in layout) line.id item.node (content.Placed entry) finds (finds.finds line.id item.node node.1) own.is in
      record {
        entry = entry;
        own = own;
        stands = subst (λ from. IsAt layout item.node from) (sym at) place.1;
        suits = subst (λ from. Suits (without_link layout item.node) item.node from) (sym at) (standing_suits layout item.node place.0 sound place.1);
        fresh = once_new layout item.node same_id ids_in (content.Placed entry) sound.ids linked own.is;
        steps = λ to. ap (λ from. steps_between from (Some to)) at ∙ sym (ap (λ b. cond b 2 1) placed);
        kept = λ none. sym (stays (Some entry) (sym known) none);
      }

  ready_new : is_placed (collation table) line.id ≡ false → IsNodeFor false (collation table) table.layout line.id item → IsReady table line item
  unfolding collation
  ready_new placed node =
      let layout = table.layout in
      let made : Entry = made_entry (collation table) line.id in
      let fresh = unplaced layout sound line.id placed in
      let absent : entry_at (entries_of (collation table)) line.id ≡ None =
      no_entry_at (entry_at (entries_of (collation table)) line.id) (sym (entry_there (entries_of (collation table)) line.id) ∙ placed) in
      let at : placed_at item.old layout item.node ≡ None = ap (λ had. placed_at had layout item.node) node.0 in
      record {
        entry = made;
        own = loose_entry layout line.id item.node made node.2 refl node.1 fresh;
        stands = subst (λ from. IsAt layout item.node from) (sym at) (record { made = ap is_some node.2; apart = node.1 });
        suits = subst (λ from. Suits (without_link layout item.node) item.node from) (sym at) (loose_suits layout item.node (content.Placed made) node.2 tt);
        fresh = new_out layout item.node same_id ids_in (content.Placed made) (unplaced_new layout sound line.id made refl placed);
        steps = λ to. ap (λ from. steps_between from (Some to)) at ∙ sym (ap (λ b. cond b 2 1) placed);
        kept = λ none. ap (λ (weights : Option (List Weight)). entry_of (length table.rules) (declared_at layout) (record { id = line.id; weights = weights })) (sym none)
            ∙ sym (stays None absent none);
      }

  -- an item with the node of a line is ready
  pub ready : IsNodeFor (is_placed (collation table) line.id) (collation table) table.layout line.id item → IsReady table line item
  ready node =
      by_test (λ b. is_placed (collation table) line.id ≡ b → IsNodeFor b (collation table) table.layout line.id item → IsReady table line item) (is_placed (collation table) line.id)
      (λ on t node. ready_placed t node) (λ off t node. ready_new t node) refl node

-- a line that gives weights that aren't refused is no collating symbol
pub no_symbol : (table : Collation) (line : OrderLine) → weights_refusal table line None ≡ None → (is_symbol table.declared line.id && is_some line.weights) ≡ false
no_symbol table line e = (passed (is_symbol table.declared line.id && is_some line.weights) SymbolWithWeights _ e).0

-- nor is one of a block that isn't refused
pub symbol_passes : (table : Collation) (before : List Id) (line : OrderLine) → line_refusal table before line ≡ None → (is_symbol table.declared line.id && is_some line.weights) ≡ false
symbol_passes table before line e =
    let first = passed (has_id before line.id) TwiceInBlock _ e in
    no_symbol table line (passed (not (is_known table.declared line.id)) NotDeclared (weights_refusal table line None) first.1).1

-- the entry that a node is, once it has the weights that its line gives, is the one that the line places
pub entry_done : (levels : ℕ) (declared : List Declaration) (entries : List Entry) (line : OrderLine) (entry : Entry) (gets weights : Option (List Weight))
    → gets ≡ weights_to levels line.id line.weights → line.weights ≡ weights → entry.id ≡ line.id → (is_symbol declared line.id && is_some line.weights) ≡ false
    → (line.weights ≡ None → entry ≡ standing (is_none line.weights) (entry_at entries line.id) (entry_of levels declared line))
    → entry_with gets entry ≡ standing (is_none line.weights) (entry_at entries line.id) (entry_of levels declared line)
entry_done levels declared entries line entry gets None given is same plain kept = ap (λ ws. entry_with ws entry) (given ∙ ap (weights_to levels line.id) is) ∙ kept is
entry_done levels declared entries line entry gets (Some weights) given is same plain kept =
    let own = kept_weights levels line.id weights in
    let symbol : is_symbol declared line.id ≡ false =
    sym (and-true (is_symbol declared line.id)) ∙ (sym (ap (λ (ws : Option (List Weight)). is_symbol declared line.id && is_some ws) is) ∙ plain) in
    ap (λ ws. entry_with ws entry) (given ∙ ap (weights_to levels line.id) is)
    ∙ (ap (λ (id : Id). record { id = id; weights = own }) same
    ∙ (ap (λ (ws : List Weight). record { id = line.id; weights = ws }) (sym (ap (λ b. weights_of levels b line) symbol ∙ ap (λ ws. kept_weights levels line.id (given_weights ws)) is))
    ∙ sym (ap (λ (ws : Option (List Weight)). standing (is_none ws) (entry_at entries line.id) (entry_of levels declared line)) is)))

-- what is true once the item of a line is done, directly after the target
pub record LineDone (table : TableValue) (target : Id) (line : OrderLine) (item : Item) : Type 0 where
  pub goes : ItemGoes item.new (placed_at item.old table.layout item.node) table.layout item.node (placed_at item.old table.layout item.node) item.new
  pub sound : IsSoundLayout (item_on table.layout item)
  pub declared : declared_at (item_on table.layout item) ≡ declared_at table.layout
  pub sections : sections_at (item_on table.layout item) ≡ placed_after (without (sections_at table.layout) line.id) target (block_entry (collation table) line)
  pub key : has_key same_id ids_in (item_on table.layout item) line.id item.node ≡ true
  pub keys : (id : Id) (other : NodeId) → same_id id line.id ≡ false → has_key same_id ids_in (item_on table.layout item) id other ≡ has_key same_id ids_in table.layout id other
  pub linked : (other : NodeId) → same_node other item.node ≡ false → is_in (item_on table.layout item).rings other ≡ is_in table.layout.rings other
  pub contents : (other : NodeId) → same_node other item.node ≡ false → content_of (item_on table.layout item) other ≡ content_of table.layout other
  pub was : (it : Entry) × (content_of table.layout item.node ≡ Some (content.Placed it)) × (it.id ≡ line.id)
  pub steps : steps_between (placed_at item.old table.layout item.node) item.new ≡ line_steps (collation table) line

pub line_done : (table : TableValue) (target : Id) (before : NodeId) (line : OrderLine) (item : Item) → IsSoundLayout table.layout → has_key same_id ids_in table.layout target before ≡ true
    → same_id line.id target ≡ false → (is_symbol (collation table).declared line.id && is_some line.weights) ≡ false → IsPreparedLine (collation table) table.layout before line item
    → LineDone table target line item
unfolding collation
line_done table target before line item sound has differ plain prepared =
    let layout = table.layout in
    let new = item_on layout item in
    let from = placed_at item.old layout item.node in
    let r = ready table line item sound prepared.node in
    let aim = placed_entry layout target before sound has in
    let entry = entry_with item.weights r.entry in
    let apart = entries_apart layout line.id item.node target before r.entry aim.0 r.own aim.1 differ in
    let can = entry_goes layout item.node target before r.entry from sound has apart r.own.is r.fresh r.stands r.suits in
    let goes : ItemGoes item.new from layout item.node from item.new = subst (λ to. ItemGoes to from layout item.node from to) (sym prepared.goes) can in
    let puts = item_puts layout item before r.entry prepared.goes r.own.is in
    let linked = (both_true _ _ has).0 in
    let same : entry.id ≡ line.id = entry_with_id item.weights r.entry ∙ r.own.same in
    let made = entry_done (length table.rules) (declared_at layout) (entries_of (collation table)) line r.entry item.weights line.weights prepared.weights refl r.own.same plain r.kept in
    record {
      goes = goes;
      sound = item_on_sound layout (record item { old = from }) sound goes;
      declared = put_declared layout new sound.shaped line.id target item.node before entry r.entry aim.0 puts r.own aim.1 differ linked same;
      sections = put_sections layout new sound.shaped line.id target item.node before entry r.entry aim.0 puts r.own aim.1 differ linked same
          ∙ ap (placed_after (without (sections_at layout) line.id) target) made;
      key = put_key layout new sound.shaped line.id target item.node before entry r.entry aim.0 puts r.own aim.1 differ linked same;
      keys = put_keys layout new sound.shaped line.id target item.node before entry r.entry aim.0 puts r.own aim.1 differ linked same;
      linked = put_others layout new sound.shaped line.id target item.node before entry r.entry aim.0 puts r.own aim.1 differ linked same;
      contents = puts.others;
      was = (r.entry, r.own.is, r.own.same);
      steps = ap (λ to. steps_between from to) prepared.goes ∙ r.steps (After before);
    }

-- a node is one entry
placed_same : {a b : Entry} → Some (content.Placed a) ≡ Some (content.Placed b) → a ≡ b
placed_same e = cc

-- The lines after it.

module _ (table : TableValue) (target : Id) (line : OrderLine) (item : Item) (sound : IsSoundLayout table.layout) (done : LineDone table target line item) where
  -- the table once the item is done
  abbrev pub now : TableValue
  now = with_layout table (item_on table.layout item)

  -- it is the one that the line makes
  pub line_made : collation now ≡ moved (collation table) target line
  unfolding collation
  line_made = ap₂ (λ (declared : List Declaration) (sections : List Section). record { rules = table.rules; declared = declared; sections = sections }) done.declared done.sections

  -- another identifier is placed where it was
  still_placed : (id : Id) → same_id id line.id ≡ false → is_placed (collation now) id ≡ is_placed (collation table) id
  unfolding collation
  still_placed id far = placed_alike table.layout (item_on table.layout item) id sound done.sound (λ other. done.keys id other far)

  -- and its entry is what it was
  still_entry : (id : Id) → same_id id line.id ≡ false → entry_at (entries_of (collation now)) id ≡ entry_at (entries_of (collation table)) id
  unfolding collation
  still_entry id far =
      let layout = table.layout in
      let new = item_on layout item in
      by_test (λ b. is_placed (collation table) id ≡ b → entry_at (entries_of (collation now)) id ≡ entry_at (entries_of (collation table)) id) (is_placed (collation table) id)
      (λ on t.
      let at = placed_where layout sound id t in
      let mine = placed_entry layout id at.0 sound at.1 in
      let differ : same_node at.0 item.node ≡ false = by_test (λ b. same_node at.0 item.node ≡ b → b ≡ false) (same_node at.0 item.node)
      (λ on e.
      let both : mine.0 ≡ done.was.0 = placed_same (sym mine.1.is ∙ (ap (content_of layout) (same_node_is at.0 item.node e) ∙ done.was.1)) in
      let ids : id ≡ line.id = sym mine.1.same ∙ (ap (λ (e : Entry). e.id) both ∙ done.was.2) in
      not_both (ap (same_id id) (sym ids) ∙ same_id_itself id) far) (λ off e. refl) refl in
      let finds = finds_once same_id ids_in layout sound.ids in
      let finds_now = finds_once same_id ids_in new done.sound.ids in
      sym (entry_known new done.sound.shaped (node_by same_id ids_in new) id at.0 (content.Placed mine.0) finds_now (finds_now.finds id at.0 (done.keys id at.0 far ∙ at.1))
      (done.contents at.0 differ ∙ mine.1.is))
      ∙ entry_known layout sound.shaped (node_by same_id ids_in layout) id at.0 (content.Placed mine.0) finds (finds.finds id at.0 at.1) mine.1.is)
      (λ off t.
      no_entry_at (entry_at (entries_of (collation now)) id) (sym (entry_there (entries_of (collation now)) id) ∙ (still_placed id far ∙ t))
      ∙ sym (no_entry_at (entry_at (entries_of (collation table)) id) (sym (entry_there (entries_of (collation table)) id) ∙ t))) refl

  -- so a line that gives no weights has the entry that it had
  pub still_standing : (id : Id) → same_id id line.id ≡ false → block_entry (collation now) (without_weights id) ≡ block_entry (collation table) (without_weights id)
  unfolding collation
  still_standing id far = ap₂ (λ (found : Option Entry) (declared : List Declaration). standing true found (entry_of (length table.rules) declared (without_weights id))) (still_entry id far)
      done.declared

  -- an entry is made as it was
  still_made : (id : Id) → made_entry (collation now) id ≡ made_entry (collation table) id
  unfolding collation
  still_made id = ap (λ (declared : List Declaration). entry_of (length table.rules) declared (record { id = id; weights = None })) done.declared

  node_still : (placed : Bool) (id : Id) (its : Item) → same_id id line.id ≡ false → IsNodeFor placed (collation table) table.layout id its
      → IsNodeFor placed (collation now) (item_on table.layout item) id its
  node_still true id its far node = (node.0, done.keys id its.node far ∙ node.1)
  node_still false id its far node =
      let differ : same_node its.node item.node ≡ false = by_test (λ b. same_node its.node item.node ≡ b → b ≡ false) (same_node its.node item.node)
      (λ on t.
      let both : made_entry (collation table) id ≡ done.was.0 = placed_same (sym node.2 ∙ (ap (content_of table.layout) (same_node_is its.node item.node t) ∙ done.was.1)) in
      let ids : id ≡ line.id = ap (λ (e : Entry). e.id) both ∙ done.was.2 in
      not_both (ap (same_id id) (sym ids) ∙ same_id_itself id) far) (λ off t. refl) refl in
      (node.0, done.linked its.node differ ∙ node.1, done.contents its.node differ ∙ (node.2 ∙ ap (λ e. Some (content.Placed e)) (sym (still_made id))))

  -- an item that was prepared for another line is prepared for it still
  line_still : (before : NodeId) (other : OrderLine) (its : Item) → same_id other.id line.id ≡ false → IsPreparedLine (collation table) table.layout before other its
      → IsPreparedLine (collation now) (item_on table.layout item) before other its
  unfolding collation
  line_still before other its far prepared = record {
    goes = prepared.goes;
    weights = prepared.weights;
    node = subst (λ b. IsNodeFor b (collation now) (item_on table.layout item) other.id its) (sym (still_placed other.id far))
        (node_still (is_placed (collation table) other.id) other.id its far prepared.node);
  }

  -- so are those of the lines that follow
  pub lines_still : (ids : List Id) (before : NodeId) (lines : List OrderLine) (items : List Item) → has_id ids line.id ≡ true → lines_refusal (collation table) ids lines ≡ None
      → ArePrepared (collation table) table.layout before lines items → ArePrepared (collation now) (item_on table.layout item) before lines items
  unfolding ArePrepared
  lines_still ids before [] [] here judged prepared = prepared
  lines_still ids before [] (its ∷ items) here judged prepared = prepared
  lines_still ids before (other ∷ lines) [] here judged prepared = prepared
  lines_still ids before (other ∷ lines) (its ∷ items) here judged prepared =
      let first = passes (collation table) ids other lines judged in
      let far = apart_when_new ids line.id other.id here first.new in
      (line_still before other its far prepared.0, lines_still (ids ++ other.id ∷ []) its.node lines items (has_still ids other.id line.id here) first.later prepared.1)

  -- and their ring steps are as many
  steps_still : (ids : List Id) (lines : List OrderLine) → has_id ids line.id ≡ true → lines_refusal (collation table) ids lines ≡ None
      → lines_steps (collation now) lines ≡ lines_steps (collation table) lines
  steps_still ids [] here judged = refl
  steps_still ids (other ∷ lines) here judged =
      let first = passes (collation table) ids other lines judged in
      let far = apart_when_new ids line.id other.id here first.new in
      ap₂ (λ b n. cond b 2 1 + n) (still_placed other.id far) (steps_still (ids ++ other.id ∷ []) lines (has_still ids other.id line.id here) first.later)

-- Blocks.

-- the items of lines that follow a target, none of which has an identifier of these
lines_done : (table : TableValue) (target : Id) (before : NodeId) (ids : List Id) (lines : List OrderLine) (items : List Item) → IsSoundLayout table.layout
    → has_key same_id ids_in table.layout target before ≡ true
    → has_id ids target ≡ true → lines_refusal (collation table) ids lines ≡ None → ArePrepared (collation table) table.layout before lines items
    → AreDone table items (all_moved (collation table) target lines) (lines_steps (collation table) lines)
unfolding ArePrepared CanTurnOn placed_items turned_on steps_of
lines_done table target before ids [] [] sound has here judged prepared = record { goes = tt; made = refl; steps = refl }
lines_done table target before ids [] (item ∷ items) sound has here judged prepared = absurd prepared
lines_done table target before ids (line ∷ lines) [] sound has here judged prepared = absurd prepared
lines_done table target before ids (line ∷ lines) (item ∷ items) sound has here judged prepared =
    let first = passes (collation table) ids line lines judged in
    let plain = symbol_passes (collation table) ids line (neither_found (line_refusal (collation table) ids line) _ judged).0 in
    let done = line_done table target before line item sound has (apart_when_new ids target line.id here first.new) plain prepared.0 in
    let after : TableValue = now table target line item sound done in
    let made = line_made table target line item sound done in
    let more = ids ++ line.id ∷ [] in
    let passed : lines_refusal (collation after) more lines ≡ None =
    ap (λ (t : Collation). lines_refusal t more lines) made ∙ (lines_stay (collation table) (moved (collation table) target line).sections more lines ∙ first.later) in
    let last = has_last ids line.id in
    let later = lines_done after line.id item.node more lines items done.sound done.key last passed
    (lines_still table target line item sound done more item.node lines items last first.later prepared.1) in
    record {
      goes = (done.goes, later.goes);
      made = later.made ∙ ap (λ (t : Collation). all_moved t line.id lines) made;
      steps = ap₂ (λ m n. m + n) done.steps (later.steps ∙ steps_still table target line item sound done more lines last first.later);
    }

-- the items of a block make what its lines make
pub block_done : (table : TableValue) (target : Id) (before : NodeId) (lines : List OrderLine) (items : List Item) → IsSoundLayout table.layout → has_key same_id ids_in table.layout target before
    ≡ true
    → lines_refusal (collation table) (target ∷ []) lines ≡ None → ArePrepared (collation table) table.layout before lines items
    → AreDone table items (all_moved (collation table) target lines) (lines_steps (collation table) lines)
block_done table target before lines items sound has judged prepared = lines_done table target before (target ∷ []) lines items sound has (ap (λ b. b || false) (same_id_itself target)) judged prepared
