-- Numbers that are told behind moves: where a number is given, and where a move is kept.
use Rattle.std.proofs.Common.{All, ◌≡◌, ◌≤◌, ◌<◌, ◌+◌, ◌-◌, ◌^◌, ℕ, suc, true, cond, List, [], ◌∷◌, ◌++◌, drop, length, ltb, map, get_or, set, sym, ap, subst, ◌∙◌, refl, arith}
use Rattle.std.proofs.Math.ListN.{get_or-map, get_or-eq_default, drop_of_length-le}
use Rattle.std.proofs.Math.Seq.{drop-cons}
use Rattle.std.proofs.lemmas.Bool.{ltb-true, ltb-false}
use Rattle.std.proofs.lemmas.List.{drop-append-le, get_or_default, length-append, length-map, get_or-set_same, get_or-set_other}
use Rattle.std.proofs.lemmas.List.Elements.{All-set}
use Rattle.coll_order.specs.Lists.{same_node}
use Rattle.coll_order.specs.declared.places.NodeId.{NodeId}
use Rattle.coll_order.proofs.Sameness.{by_test, not_both, same_node_is, same_node_itself}
use Rattle.coll_lookups.specs.EntryNumbers.{behind_moves, blank, moved, number_at, number_of, numbers_of, AreCounted}
use Rattle.coll_lookups.specs.declared.entry_numbers.Move.{Move}
use Rattle.coll_lookups.specs.declared.entry_numbers.Slot.{Slot}

-- a number behind one move more
pub behind_more : (moves : List Move) (move : Move) (number : ℕ) → behind_moves (moves ++ move ∷ []) number ≡ moved move.from move.to (behind_moves moves number)
unfolding behind_moves
behind_more [] move number = refl
behind_more (first ∷ later) move number = behind_more later move (moved first.from first.to number)

-- a number behind the moves from one on
pub behind_next : (moves : List Move) (k : ℕ) (d : Move) (number : ℕ) → k < length moves
    → behind_moves (drop (suc k) moves) (moved (get_or moves k d).from (get_or moves k d).to number) ≡ behind_moves (drop k moves) number
unfolding behind_moves
behind_next moves k d number within = ap (λ ms. behind_moves ms number) (sym (drop-cons moves k d within))

-- a number that has had all moves is told as it was given
pub has_had_all : (before : ℕ) (moves : List Move) (slot : Slot) → slot.had ≡ before + length moves → number_of before moves slot ≡ slot.number
unfolding behind_moves
has_had_all before moves slot all =
    by_test (λ b. ltb slot.had before ≡ b → cond b 0 (behind_moves (drop (slot.had - before) moves) slot.number) ≡ slot.number) (ltb slot.had before)
    (λ on e. let less = ltb-true slot.had before e in omega (arith, all, less))
    (λ off e. ap (λ ms. behind_moves ms slot.number) (drop_of_length-le moves (let enough : length moves ≤ slot.had - before = omega (arith, all) in enough))) refl

-- the number of a node is that of its slot, or of a blank one
pub number_told : (before : ℕ) (moves : List Move) (slots : List Slot) (had : ℕ) (node : NodeId) → had ≡ before + length moves
    → number_at (numbers_of before moves slots) node ≡ number_of before moves (get_or slots node.key (blank had))
number_told before moves slots had node all =
    ap (get_or (numbers_of before moves slots) node.key) (sym (has_had_all before moves (blank had) all)) ∙ get_or-map (number_of before moves) slots node.key (blank had)

-- no number moves where places from the first on change
nothing_moves : (from to : ℕ) → 1 ≤ to → moved from to 0 ≡ 0
nothing_moves from to some = grind (arith)

-- a number that had only some of the moves gets one more, and none stays none
pub had_more : (before : ℕ) (moves : List Move) (move : Move) (slot : Slot) → 1 ≤ move.to → slot.had ≤ before + length moves
    → number_of before (moves ++ move ∷ []) slot ≡ moved move.from move.to (number_of before moves slot)
had_more before moves move slot some few =
    by_test (λ b. ltb slot.had before ≡ b → cond b 0 (behind_moves (drop (slot.had - before) (moves ++ move ∷ [])) slot.number)
    ≡ moved move.from move.to (cond b 0 (behind_moves (drop (slot.had - before) moves) slot.number))) (ltb slot.had before)
    (λ on e. sym (nothing_moves move.from move.to some))
    (λ off e. ap (λ ms. behind_moves ms slot.number) (drop-append-le (slot.had - before) moves (move ∷ []) (let less : slot.had - before ≤ length moves = omega (arith, few) in less))
    ∙ behind_more (drop (slot.had - before) moves) move slot.number) refl

-- each slot, or a blank one where there is none, has had only what there is
slot_had : (most : ℕ) (slots : List Slot) (had : ℕ) → All (λ (slot : Slot). slot.had ≤ most) slots → had ≤ most → (k : ℕ) → (get_or slots k (blank had)).had ≤ most
slot_had most slots had few enough k = by_test (λ b. ltb k (length slots) ≡ b → (get_or slots k (blank had)).had ≤ most) (ltb k (length slots))
    (λ on e. few k (blank had) (ltb-true k (length slots) e))
    (λ off e. subst (λ (slot : Slot). slot.had ≤ most) (sym (get_or-eq_default slots (blank had) (ltb-false k (length slots) e))) enough) refl

-- Slots that grew by blank ones.

module _ (before : ℕ) (moves : List Move) (old grown : List Slot) (had : ℕ) (all : had ≡ before + length moves)
    (same : (other : ℕ) → get_or grown other (blank had) ≡ get_or old other (blank had)) where
  -- no slot has had more than there were
  pub grown_counted : AreCounted before moves old → AreCounted before moves grown
  grown_counted counted = record {
    few = counted.few;
    had_only = λ k d within.
        subst (λ (slot : Slot). slot.had ≤ before + length moves) (sym (get_or_default grown k d (blank had) within ∙ same k))
        (slot_had (before + length moves) old had counted.had_only (omega (arith, all)) k);
  }

  -- each number is told as before
  pub grown_told : (node : NodeId) → number_at (numbers_of before moves grown) node ≡ number_at (numbers_of before moves old) node
  grown_told node =
      number_told before moves grown had node all ∙ (ap (number_of before moves) (same node.key) ∙ sym (number_told before moves old had node all))

-- the slot of a node, where one was written
written_slot : (slots : List Slot) (had : ℕ) (slot : Slot) (node other : NodeId) → node.key < length slots
    → get_or (set slots node.key slot) other.key (blank had) ≡ cond (same_node other node) slot (get_or slots other.key (blank had))
written_slot slots had slot node other within = by_test (λ b. same_node other node ≡ b → get_or (set slots node.key slot) other.key (blank had) ≡ cond b slot (get_or slots other.key (blank had))) (same_node other node)
    (λ on e. ap (λ (n : NodeId). get_or (set slots node.key slot) n.key (blank had)) (same_node_is other node e) ∙ get_or-set_same slots node.key slot (blank had) within)
    (λ off e. get_or-set_other slots node.key other.key slot (blank had)
    (λ same. not_both (subst (λ (key : ℕ). same_node other (record { key = key }) ≡ true) same (same_node_itself other)) e)) refl

-- a number that was given
pub set_told : (before : ℕ) (moves : List Move) (slots : List Slot) (had number : ℕ) (node other : NodeId) → had ≡ before + length moves → node.key < length slots
    → number_at (numbers_of before moves (set slots node.key (record { number = number; had = had }))) other ≡ cond (same_node other node) number (number_at (numbers_of before moves slots) other)
set_told before moves slots had number node other all within =
    let given : Slot = record { number = number; had = had } in
    number_told before moves (set slots node.key given) had other all
    ∙ (ap (number_of before moves) (written_slot slots had given node other within)
    ∙ by_test (λ b. number_of before moves (cond b given (get_or slots other.key (blank had))) ≡ cond b number (number_at (numbers_of before moves slots) other)) (same_node other node)
    (λ on. has_had_all before moves given all)
    (λ off. sym (number_told before moves slots had other all)))

-- a slot that was written
pub set_counted : (before : ℕ) (moves : List Move) (slots : List Slot) (key : ℕ) (slot : Slot) → slot.had ≤ before + length moves → AreCounted before moves slots
    → AreCounted before moves (set slots key slot)
set_counted before moves slots key slot few counted =
    record { few = counted.few; had_only = All-set (λ (s : Slot). s.had ≤ before + length moves) slots key slot few counted.had_only }

-- one move more is counted
pub more_counted : (before : ℕ) (moves : List Move) (move : Move) (slots : List Slot) → before + length (moves ++ move ∷ []) < 2 ^ 32 → AreCounted before moves slots
    → AreCounted before (moves ++ move ∷ []) slots
more_counted before moves move slots few counted =
    let longer = length-append moves (move ∷ []) in
    record { few = few; had_only = λ k d within. let had = counted.had_only k d within in omega (arith, had, longer) }

-- the numbers of all nodes behind one move more
pub all_moved : (before : ℕ) (moves : List Move) (move : Move) (slots : List Slot) (other : NodeId) → 1 ≤ move.to → AreCounted before moves slots
    → number_at (numbers_of before (moves ++ move ∷ []) slots) other ≡ moved move.from move.to (number_at (numbers_of before moves slots) other)
all_moved before moves move slots other some counted = by_test (λ b. ltb other.key (length slots) ≡ b
    → number_at (numbers_of before (moves ++ move ∷ []) slots) other ≡ moved move.from move.to (number_at (numbers_of before moves slots) other)) (ltb other.key (length slots))
    (λ on e. told (ltb-true other.key (length slots) e))
    (λ off e. untold (ltb-false other.key (length slots) e)) refl where
      read : (f : Slot → ℕ) → other.key < length slots → get_or (map f slots) other.key 0 ≡ f (get_or slots other.key (blank 0))
      read f within = get_or_default (map f slots) other.key 0 (f (blank 0)) (let many = length-map slots f in omega (arith, many, within)) ∙ get_or-map f slots other.key (blank 0)

      told : other.key < length slots → number_at (numbers_of before (moves ++ move ∷ []) slots) other ≡ moved move.from move.to (number_at (numbers_of before moves slots) other)
      told within =
          read (number_of before (moves ++ move ∷ [])) within
          ∙ (had_more before moves move (get_or slots other.key (blank 0)) some (counted.had_only other.key (blank 0) within)
          ∙ ap (moved move.from move.to) (sym (read (number_of before moves) within)))

      none : (f : Slot → ℕ) → length slots ≤ other.key → get_or (map f slots) other.key 0 ≡ 0
      none f beyond = get_or-eq_default (map f slots) 0 (let many = length-map slots f in omega (arith, many, beyond))

      untold : length slots ≤ other.key → number_at (numbers_of before (moves ++ move ∷ []) slots) other ≡ moved move.from move.to (number_at (numbers_of before moves slots) other)
      untold beyond =
          none (number_of before (moves ++ move ∷ [])) beyond
          ∙ (sym (nothing_moves move.from move.to some) ∙ ap (moved move.from move.to) (sym (none (number_of before moves) beyond)))

-- the numbers where a move is kept, and its node gets the place that it takes
pub move_kept : (before : ℕ) (moves : List Move) (slots : List Slot) (from to had : ℕ) (node other : NodeId) → 1 ≤ to → AreCounted before moves slots → node.key < length slots
    → had ≡ before + length (moves ++ record { from = from; to = to } ∷ [])
    → number_at (numbers_of before (moves ++ record { from = from; to = to } ∷ []) (set slots node.key (record { number = to; had = had }))) other
    ≡ cond (same_node other node) to (moved from to (number_at (numbers_of before moves slots) other))
move_kept before moves slots from to had node other some counted within all =
    set_told before (moves ++ record { from = from; to = to } ∷ []) slots had to node other all within
    ∙ ap (cond (same_node other node) to) (all_moved before moves (record { from = from; to = to }) slots other some counted)
