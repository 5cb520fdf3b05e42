-- Operands read one after another.
use Rattle.std.proofs.Common.{◌≡◌, ℕ, ◌+◌, ◌<◌, ◌≤◌, List, [], ◌∷◌, ◌++◌, length, drop, get_or, refl, ap, sym, ◌∙◌}
use Rattle.std.specs.Prelude.{Result, Ok, Err}
use Rattle.std.proofs.lemmas.List.{drop_more, drop_all, append-nil}
use Rattle.std.proofs.Common.{append_assoc}
use Rattle.coll_syntax.specs.Operands.{and_then, read_as, all_read}
use Rattle.coll_syntax.specs.declared.syntax_faults.SyntaxFault.{SyntaxFault}

-- what was read so far, and then what is still read
abbrev pub prefixed : {A : Type 0} → List A → Result (List A) SyntaxFault → Result (List A) SyntaxFault
prefixed done more = read_as (λ later. done ++ later) more

-- nothing was read so far
pub prefixed-nil : {A : Type 0} (r : Result (List A) SyntaxFault) → prefixed [] r ≡ r
prefixed-nil (Ok xs) = refl
prefixed-nil (Err f) = refl

-- what was read so far and one more
pub prefixed-more : {A : Type 0} (done : List A) (x : A) (r : Result (List A) SyntaxFault) → prefixed done (read_as (λ more. x ∷ more) r) ≡ prefixed (done ++ x ∷ []) r
prefixed-more done x (Ok xs) = ap Ok (sym (append_assoc done (x ∷ []) xs))
prefixed-more done x (Err f) = refl

-- one more operand is read
pub reads_more : {A : Type 0} (all : List (Result A SyntaxFault)) (done : List A) (n : ℕ) (x : A) → all_read all ≡ prefixed done (all_read (drop n all)) → n < length all → get_or all n (Ok x) ≡ Ok x
    → all_read all ≡ prefixed (done ++ x ∷ []) (all_read (drop (n + 1) all))
unfolding all_read
reads_more all done n x h l e =
    h
    ∙ ap (λ rest. prefixed done (all_read rest)) (drop_more all n (Ok x) l)
    ∙ ap (λ first. prefixed done (and_then first (λ read. read_as (λ more. read ∷ more) (all_read (drop (n + 1) all))))) e
    ∙ prefixed-more done x (all_read (drop (n + 1) all))

-- the next operand is at fault
pub reads_fault : {A : Type 0} (all : List (Result A SyntaxFault)) (done : List A) (n : ℕ) (f : SyntaxFault) → all_read all ≡ prefixed done (all_read (drop n all)) → n < length all
    → get_or all n (Err f) ≡ Err f → all_read all ≡ Err f
unfolding all_read
reads_fault all done n f h l e =
    h
    ∙ ap (λ rest. prefixed done (all_read rest)) (drop_more all n (Err f) l)
    ∙ ap (λ first. prefixed done (and_then first (λ read. read_as (λ more. read ∷ more) (all_read (drop (n + 1) all))))) e

-- all operands are read
pub reads_all : {A : Type 0} (all : List (Result A SyntaxFault)) (done : List A) (n : ℕ) → all_read all ≡ prefixed done (all_read (drop n all)) → length all ≤ n → all_read all ≡ Ok done
unfolding all_read
reads_all all done n h l =
    h
    ∙ ap (λ rest. prefixed done (all_read rest)) (drop_all n all l)
    ∙ ap Ok (append-nil done)
