-- The tests of what can be written tell exactly that.
use Rattle.std.proofs.Common.{◌≡◌, ℕ, ◌≤◌, ◌&&◌, not, nat_le, nat_lt, Bool, true, false, List, length, Some, None, refl, sym, ap, arith}
use Rattle.std.specs.Prelude.{Option}
use Rattle.std.specs.Bool.{Decides}
use Rattle.std.specs.List.{list_all}
use Rattle.std.specs.Str.{all_scalars}
use Rattle.std.proofs.lemmas.Bool.{lt-leb, le-leb, ltb-true, ltb-false}
use Rattle.std.proofs.lemmas.Bool.Decides.{Decides-and, Decides-like, Decides-by_and, nat_tests}
use Rattle.coll_syntax.specs.Proper.{is_proper}
use Rattle.coll_syntax.specs.declared.weights.Weight.{Weight}
use Rattle.coll_syntax.specs.declared.statements.OrderLine.{OrderLine}
use Rattle.coll_syntax.specs.declared.statements.Statement.{Statement}
use Rattle.coll_syntax.specs.declared.statements.Statement.TheVariants as statement
use Rattle.coll_syntax.proofs.ProperTests.{is_proper_tells}
use Rattle.coll_delta_texts.specs.Writable.{is_own_alone, AreGiven, GivesWeights, GivesAllWeights, IsWritable, are_given, gives_weights, gives_all_weights, is_writable}
use Rattle.coll_delta_texts.specs.Writable.{IsCopyName, is_above_controls, is_copy_name}

Decides-always : Decides true (Unit {0})
Decides-always = (λ _. tt, λ _. refl)

Decides-few : (n : ℕ) → Decides (nat_le n 4) (n ≤ 4)
Decides-few n = (λ e. grind (arith, nat_tests), λ h. grind (arith, nat_tests))

Decides-not : (b : Bool) → Decides (not b) (b ≡ false)
Decides-not true = (λ e. cc, λ e. cc)
Decides-not false = (λ e. refl, λ e. refl)

Decides-given : (given : Option (List Weight)) → Decides (are_given given) (AreGiven given)
Decides-given None = Decides-always
Decides-given (Some weights) = Decides-and (nat_le (length weights) 4) (not (is_own_alone weights)) (Decides-few (length weights)) (Decides-not (is_own_alone weights))

Decides-gives : (line : OrderLine) → Decides (gives_weights line) (GivesWeights line)
Decides-gives line = Decides-given line.weights

Decides-gives_all : (s : Statement) → Decides (gives_all_weights s) (GivesAllWeights s)
Decides-gives_all (statement.Symbol name) = Decides-always
Decides-gives_all (statement.Element name text) = Decides-always
Decides-gives_all (statement.Equivalence name symbol) = Decides-always
Decides-gives_all (statement.Block target lines) = Decides-by_and gives_weights GivesWeights (list_all gives_weights) Decides-gives refl (λ _ _. refl) lines
Decides-gives_all (statement.SectionAfter moved after) = Decides-always
Decides-gives_all (statement.Reweight line) = Decides-gives line

-- the test of a statement tells whether it can be written
pub is_writable_tells : (s : Statement) → Decides (is_writable s) (IsWritable s)
is_writable_tells s = Decides-and (is_proper s) (gives_all_weights s) (is_proper_tells s) (Decides-gives_all s)

-- The names of copies.

Decides-least : (c : ℕ) → Decides (is_above_controls c) (32 ≤ c)
Decides-least c = (λ e. grind (arith, nat_tests), λ h. grind (arith, nat_tests))

Decides-short : (n : ℕ) → Decides (nat_le n 4096) (n ≤ 4096)
Decides-short n = (λ e. grind (arith, nat_tests), λ h. grind (arith, nat_tests))

-- the test of a name tells whether it can be written
pub is_copy_name_tells : (name : List ℕ) → Decides (is_copy_name name) (IsCopyName name)
is_copy_name_tells name =
    let short = Decides-short (length name) in
    let plain = Decides-by_and is_above_controls (λ c. 32 ≤ c) (list_all is_above_controls) Decides-least refl (λ _ _. refl) name in
    let all = Decides-and (nat_le (length name) 4096 && list_all is_above_controls name) (all_scalars name)
    (Decides-and (nat_le (length name) 4096) (list_all is_above_controls name) short plain) (λ e. e, λ e. e) in
    Decides-like (is_copy_name name) (λ h. (h.0.0, h.0.1, h.1)) (λ h. ((h.0, h.1), h.2)) all

-- a long one can't
pub long_is_none : (name : List ℕ) → nat_lt 4096 (length name) ≡ true → false ≡ is_copy_name name
long_is_none name e =
    sym (ap (λ few. few && list_all is_above_controls name && all_scalars name) (lt-leb (length name) 4096 (ltb-true 4096 (length name) e)))

-- a short one can where it has no control character
pub short_by_characters : (name : List ℕ) → nat_lt 4096 (length name) ≡ false → list_all is_above_controls name ≡ (nat_le (length name) 4096 && list_all is_above_controls name)
short_by_characters name e = sym (ap (λ few. few && list_all is_above_controls name) (le-leb (length name) 4096 (ltb-false 4096 (length name) e)))
