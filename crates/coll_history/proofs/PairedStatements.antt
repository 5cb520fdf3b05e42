-- Statements that get their new records, one by one.
use Rattle.std.proofs.Common.{◌≡◌, ℕ, List, [], ◌∷◌, ◌++◌, length, reverse, take, drop, sym, ap, ◌∙◌, arith}
use Rattle.std.proofs.lemmas.List.{append-nil, append_assoc, reverse-append, take-append-drop}
use Rattle.coll_table.specs.declared.records.Record.{Record}
use Rattle.coll_history.specs.Withdrawing.{StandsBeforeLast, paired, with_record}
use Rattle.coll_history.specs.declared.histories.Kept.{Kept}
use Rattle.coll_history.proofs.RebuiltTables.{paired_none}

-- the next pair stands behind what remains
pub paired_next : (remaining longer undone undone1 : List Kept) (fresh fresh1 : List Record) (k renewed : Kept) (change : Record)
    → undone ≡ undone1 ++ k ∷ [] → fresh ≡ fresh1 ++ change ∷ [] → renewed ≡ with_record k change → longer ≡ remaining ++ renewed ∷ []
    → longer ++ paired (reverse undone1) (reverse fresh1) ≡ remaining ++ paired (reverse undone) (reverse fresh)
unfolding paired
paired_next remaining longer undone undone1 fresh fresh1 k renewed change u f r l =
    ap (λ (ks : List Kept). ks ++ paired (reverse undone1) (reverse fresh1)) (l ∙ ap (λ (x : Kept). remaining ++ x ∷ []) r)
    ∙ append_assoc remaining (with_record k change ∷ []) (paired (reverse undone1) (reverse fresh1))
    ∙ sym (ap (λ (ks : List Kept). remaining ++ paired ks (reverse fresh)) (ap reverse u ∙ reverse-append undone1 (k ∷ []))
    ∙ ap (λ (rs : List Record). remaining ++ paired (k ∷ reverse undone1) rs) (ap reverse f ∙ reverse-append fresh1 (change ∷ [])))

-- no new record is left
pub all_paired : (remaining undone : List Kept) (fresh : List Record) → fresh ≡ [] → remaining ≡ remaining ++ paired (reverse undone) (reverse fresh)
all_paired remaining undone fresh none =
    sym (ap (λ (ks : List Kept). remaining ++ ks) (paired_none (reverse undone) (reverse fresh) (ap reverse none)) ∙ append-nil remaining)

-- two prefixes of a list before its last member
pub same_prefix : (xs ys : List Kept) (x y : Kept) → xs ++ x ∷ [] ≡ ys ++ y ∷ [] → reverse xs ≡ reverse ys
same_prefix xs ys x y e = later x y (reverse xs) (reverse ys) (sym (reverse-append xs (x ∷ [])) ∙ ap reverse e ∙ reverse-append ys (y ∷ [])) where
  later : (x y : Kept) (xs ys : List Kept) → x ∷ xs ≡ y ∷ ys → xs ≡ ys
  later x y xs ys e = cc

-- what stands before the last member of a list
pub stands_before : (kept prefix one earlier later : List Kept) (whole part : ℕ) → prefix ≡ take whole kept → one ≡ drop whole kept → length one ≡ 1 → earlier ≡ take part prefix
    → later ≡ drop part prefix → StandsBeforeLast kept later
stands_before kept prefix [] earlier later whole part f o n e l = absurd (omega (arith, n))
stands_before kept prefix (x ∷ y ∷ ys) earlier later whole part f o n e l = absurd (omega (arith, n))
stands_before kept prefix (x ∷ []) earlier later whole part f o n e l = record {
  earlier = earlier;
  last = x;
  parts = sym (take-append-drop whole kept)
      ∙ ap (λ (ks : List Kept). ks ++ drop whole kept) (sym f)
      ∙ ap (λ (ks : List Kept). prefix ++ ks) (sym o)
      ∙ ap (λ (ks : List Kept). ks ++ x ∷ []) (sym (take-append-drop part prefix) ∙ ap (λ (ks : List Kept). ks ++ drop part prefix) (sym e) ∙ ap (λ (ks : List Kept). earlier ++ ks) (sym l));
}
