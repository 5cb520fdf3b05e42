-- Lists that are made along a walk: what was made and what is to be made of what is left is the whole.
use Rattle.std.proofs.Common.{◌≡◌, Bool, true, false, cond, List, [], ◌∷◌, ◌++◌, map, filter, Some, None, sym, ap, ◌∙◌, refl, append_assoc, append-nil}
use Rattle.std.specs.Borrow.{Bor}
use Rattle.std.proofs.lemmas.List.{map-append}
use Rattle.coll_order.proofs.Sameness.{by_test}
use Rattle.coll_nodes.specs.Walks.{Visited, VisitedSection, VisitedEntry, entries_visited}
use Rattle.coll_nodes.specs.declared.entries.Entry.{Entry}
use Rattle.coll_differences.specs.Weights.{is_reweighted, all_reweighted, reweighted_visited}

module _ {X Y Z : Type 0} (f : X → Z) (g : Y → Z) where
  -- one more is made of the next
  pub mapped_more : (done : List X) (x : X) (left later : List Y) (y : Y) (whole : List Z) → left ≡ y ∷ later → f x ≡ g y → map f done ++ map g left ≡ whole
      → map f (done ++ x ∷ []) ++ map g later ≡ whole
  mapped_more done x left later y whole first is h =
      ap (λ zs. zs ++ map g later) (map-append f done (x ∷ [])) ∙ (append_assoc (map f done) (f x ∷ []) (map g later)
      ∙ (ap (λ z. map f done ++ z ∷ map g later) is ∙ (ap (λ ys. map f done ++ map g ys) (sym first) ∙ h)))

  -- all are made
  pub mapped_all : (done : List X) (left : List Y) (whole : List Z) → left ≡ [] → map f done ++ map g left ≡ whole → map f done ≡ whole
  mapped_all done left whole none h = sym (append-nil (map f done)) ∙ (ap (λ ys. map f done ++ map g ys) (sym none) ∙ h)

module _ {X Y : Type 0} (f : X → Y) (test : Y → Bool) where
  -- the next one passes
  pub filtered_more : (done : List X) (x : X) (left later : List Y) (whole : List Y) → left ≡ f x ∷ later → test (f x) ≡ true → map f done ++ filter test left ≡ whole
      → map f (done ++ x ∷ []) ++ filter test later ≡ whole
  filtered_more done x left later whole first passes h =
      ap (λ ys. ys ++ filter test later) (map-append f done (x ∷ [])) ∙ (append_assoc (map f done) (f x ∷ []) (filter test later)
      ∙ (ap (λ b. map f done ++ cond b (f x ∷ filter test later) (filter test later)) (sym passes) ∙ (ap (λ ys. map f done ++ filter test ys) (sym first) ∙ h)))

  -- it doesn't
  pub filtered_past : (done : List X) (left later : List Y) (y : Y) (whole : List Y) → left ≡ y ∷ later → test y ≡ false → map f done ++ filter test left ≡ whole
      → map f done ++ filter test later ≡ whole
  filtered_past done left later y whole first fails h =
      ap (λ b. map f done ++ cond b (y ∷ filter test later) (filter test later)) (sym fails) ∙ (ap (λ ys. map f done ++ filter test ys) (sym first) ∙ h)

  -- none is left
  pub filtered_all : (done : List X) (left whole : List Y) → left ≡ [] → map f done ++ filter test left ≡ whole → map f done ≡ whole
  filtered_all done left whole none h = sym (append-nil (map f done)) ∙ (ap (λ ys. map f done ++ filter test ys) (sym none) ∙ h)

-- what entries are lent
abbrev pub lent : List (Bor Entry) → List Entry
lent entries = map (λ (entry : Bor Entry). entry.now) entries

-- an entry with other weights is visited
pub reweighted_more : (others : List Entry) (done : List (Bor Entry)) (entry : Bor Entry) (left later : List Visited) (item : Visited) (whole : List Entry) → left ≡ item ∷ later
    → Some entry.now ≡ reweighted_visited others item → lent done ++ all_reweighted others (entries_visited left) ≡ whole
    → lent (done ++ entry ∷ []) ++ all_reweighted others (entries_visited later) ≡ whole
reweighted_more others done entry left later (VisitedSection name) whole first found h = absurd (none found) where
  none : Some entry.now ≡ None → ⊥
  none e = cc
reweighted_more others done entry left later (VisitedEntry visited) whole first found h =
    by_test (λ b. is_reweighted others visited ≡ b → Some entry.now ≡ cond b (Some visited) None → lent (done ++ entry ∷ []) ++ all_reweighted others (entries_visited later) ≡ whole)
    (is_reweighted others visited)
    (λ on _. λ is. let same : entry.now ≡ visited = cc in
    filtered_more (λ (entry : Bor Entry). entry.now) (is_reweighted others) done entry (entries_visited left) (entries_visited later) whole
    (ap entries_visited first ∙ ap (λ e. e ∷ entries_visited later) (sym same)) (ap (is_reweighted others) same ∙ on) h)
    (λ off _. λ is. absurd (none is)) refl found where
      none : Some entry.now ≡ None → ⊥
      none e = cc

-- nothing of the kind is visited
pub reweighted_past : (others : List Entry) (done : List (Bor Entry)) (left later : List Visited) (item : Visited) (whole : List Entry) → left ≡ item ∷ later
    → None ≡ reweighted_visited others item → lent done ++ all_reweighted others (entries_visited left) ≡ whole → lent done ++ all_reweighted others (entries_visited later) ≡ whole
reweighted_past others done left later (VisitedSection name) whole first none h = ap (λ items. lent done ++ all_reweighted others (entries_visited items)) (sym first) ∙ h
reweighted_past others done left later (VisitedEntry visited) whole first none h =
    by_test (λ b. is_reweighted others visited ≡ b → None ≡ cond b (Some visited) None → lent done ++ all_reweighted others (entries_visited later) ≡ whole) (is_reweighted others visited)
    (λ on _. λ is. absurd (some is))
    (λ off _. λ is. filtered_past (λ (entry : Bor Entry). entry.now) (is_reweighted others) done (entries_visited left) (entries_visited later) visited whole
    (ap entries_visited first) off h) refl none where
      some : None ≡ Some visited → ⊥
      some e = cc
