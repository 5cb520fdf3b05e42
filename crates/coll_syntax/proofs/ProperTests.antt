-- The tests of what is proper tell exactly that.
use Rattle.std.proofs.Common.{◌≡◌, ℕ, ◌≤◌, ◌==◌, ◌&&◌, not, nat_le, Bool, true, false, if◌then◌else◌, List, [], ◌∷◌, length, map, Some, None, Ok, Err, refl, ap, arith}
use Rattle.std.specs.Prelude.{Option, All}
use Rattle.std.specs.Bool.{Decides}
use Rattle.std.specs.List.{list_all}
use Rattle.std.specs.Str.{all_scalars}
use Rattle.std.proofs.lemmas.Bool.{and_from}
use Rattle.std.proofs.lemmas.Bool.Decides.{Decides-and, Decides-like, Decides-by_and, nat_tests}
use Rattle.std.proofs.lemmas.List.{length-map}
use Rattle.coll_syntax.specs.Weights.{piece_id}
use lib.Utf8.{scalar}
use Rattle.coll_lex.specs.Tokens.{is_name, code_point_of, symbol_by, symbol_of}
use Rattle.coll_lex.specs.Names.{AreCharacters, IsName, gives_name, is_proper_name}
use Rattle.coll_lex.specs.declared.tokens.Piece.{Piece}
use Rattle.coll_lex.specs.declared.tokens.Piece.TheVariants as piece
use Rattle.coll_lex.specs.declared.faults.LexFault.TheVariants.{BadName, BadCodePoint}
use Rattle.coll_syntax.specs.Proper.{IsId, IsWeightId, IsProperWeight, AreProperWeights, IsProperLine, IsElementText, IsProper, is_proper_id}
use Rattle.coll_syntax.specs.Proper.{is_weight_id, is_proper_weight, are_proper_weights, is_proper_line, is_element_text, is_proper}
use Rattle.coll_syntax.specs.declared.identifiers.Id.{Id}
use Rattle.coll_syntax.specs.declared.identifiers.Id.TheVariants.{Char, Named, Undefined}
use Rattle.coll_syntax.specs.declared.weights.Weight.{Weight}
use Rattle.coll_syntax.specs.declared.weights.Weight.TheVariants.{Ignore, Own, Names}
use Rattle.coll_syntax.specs.declared.statements.OrderLine.{OrderLine}
use Rattle.coll_syntax.specs.declared.statements.Statement.{Statement}
use Rattle.coll_syntax.specs.declared.statements.Statement.TheVariants as statement

-- a symbol gives the name that stands between its brackets, and no other

named_if : (b : Bool) (cs : List ℕ) → gives_name (if b then Ok (piece.Name cs) else Err BadName) ≡ true → (if b then Ok (piece.Name cs) else Err BadName) ≡ Ok (piece.Name cs)
named_if true cs e = refl
named_if false cs e = cc

no_character : (b : Bool) (n : ℕ) → gives_name (if b then Ok (piece.Char n) else Err BadCodePoint) ≡ true → ⊥
no_character true n e = cc
no_character false n e = cc

names_itself : (o : Option ℕ) (cs : List ℕ) → gives_name (symbol_by o cs) ≡ true → symbol_by o cs ≡ Ok (piece.Name cs)
names_itself (Some n) cs e = absurd (no_character (scalar n) n e)
names_itself None [] e = cc
names_itself None (c ∷ cs) e = named_if (is_name (c ∷ cs)) (c ∷ cs) e

name_from_symbol : (name : List ℕ) → gives_name (symbol_of name) ≡ true → symbol_of name ≡ Ok (piece.Name name)
unfolding symbol_of
name_from_symbol name e = names_itself (code_point_of name) name e

Decides-symbol : (name : List ℕ) → Decides (gives_name (symbol_of name)) (symbol_of name ≡ Ok (piece.Name name))
Decides-symbol name = (name_from_symbol name, λ h. ap gives_name h)

-- a test tells that it is true
Decides-itself : (b : Bool) → Decides b (b ≡ true)
Decides-itself b = (λ e. e, λ e. e)

Decides-name : (name : List ℕ) → Decides (is_proper_name name) (IsName name)
Decides-name name = Decides-and (gives_name (symbol_of name)) (all_scalars name) (Decides-symbol name) (Decides-itself (all_scalars name))

Decides-always : Decides true (Unit {0})
Decides-always = (λ _. tt, λ _. refl)

Decides-never : Decides false ⊥
Decides-never = (λ e. cc, λ h. absurd h)

Decides-id : (id : Id) → Decides (is_proper_id id) (IsId id)
Decides-id (Char c) = Decides-itself (scalar c)
Decides-id (Named name) = Decides-name name
Decides-id Undefined = Decides-always

Decides-weight_id : (id : Id) → Decides (is_weight_id id) (IsWeightId id)
Decides-weight_id (Char c) = Decides-itself (scalar c)
Decides-weight_id (Named name) = Decides-name name
Decides-weight_id Undefined = Decides-never

Decides-leb : (a b : ℕ) → Decides (nat_le a b) (a ≤ b)
Decides-leb a b = (λ e. grind (arith, nat_tests), λ h. grind (arith, nat_tests))

Decides-some : (n : ℕ) → Decides (not (n == 0)) (1 ≤ n)
Decides-some n = (λ e. grind (arith, nat_tests), λ h. grind (arith, nat_tests))

-- three tests in a row
Decides-three : {P Q R : Type 0} (x y z : Bool) → Decides x P → Decides y Q → Decides z R → Decides (x && y && z) (P × Q × R)
Decides-three x y z p q r =
    Decides-like (x && y && z) (λ h. (h.0.0, h.0.1, h.1)) (λ h. ((h.0, h.1), h.2)) (Decides-and (x && y) z (Decides-and x y p q) r)

Decides-all : {X : Type 0} (p : X → Bool) (P : X → Type 0) → ((x : X) → Decides (p x) (P x)) → (xs : List X) → Decides (list_all p xs) (All P xs)
Decides-all p P each xs = Decides-by_and p P (list_all p) each refl (λ _ _. refl) xs

Decides-weight : (w : Weight) → Decides (is_proper_weight w) (IsProperWeight w)
Decides-weight Ignore = Decides-always
Decides-weight Own = Decides-always
Decides-weight (Names ids) = Decides-three (not (length ids == 0)) (nat_le (length ids) 32) (list_all is_weight_id ids) (Decides-some (length ids)) (Decides-leb (length ids) 32)
    (Decides-all is_weight_id IsWeightId Decides-weight_id ids)

Decides-weights : (o : Option (List Weight)) → Decides (are_proper_weights o) (AreProperWeights o)
Decides-weights None = Decides-always
Decides-weights (Some ws) = Decides-and (not (length ws == 0)) (list_all is_proper_weight ws) (Decides-some (length ws)) (Decides-all is_proper_weight IsProperWeight Decides-weight ws)

Decides-line : (line : OrderLine) → Decides (is_proper_line line) (IsProperLine line)
Decides-line line = Decides-and (is_proper_id line.id) (are_proper_weights line.weights) (Decides-id line.id) (Decides-weights line.weights)

Decides-text : (text : List ℕ) → Decides (is_element_text text) (IsElementText text)
Decides-text text = Decides-three (nat_le 2 (length text)) (nat_le (length text) 16) (all_scalars text) (Decides-leb 2 (length text)) (Decides-leb (length text) 16) (Decides-itself (all_scalars text))

-- characters whose number passes the test may be those of a collating element
pub text_from_test : (text : List ℕ) → AreCharacters text → (nat_le 2 (length text) && nat_le (length text) 16) ≡ true → IsElementText text
text_from_test text h e = (Decides-text text).0 (and_from (nat_le 2 (length text) && nat_le (length text) 16) (all_scalars text) e h)

-- a short string spells few identifiers
pub count_from_test : (p : Piece) (pieces : List Piece) → nat_le (length (p ∷ pieces)) 32 ≡ true → length (map piece_id (p ∷ pieces)) ≤ 32
count_from_test p pieces e =
    let few = (Decides-leb (length (p ∷ pieces)) 32).0 e in
    rw length-map few

-- the test of a statement tells whether it is proper
pub is_proper_tells : (s : Statement) → Decides (is_proper s) (IsProper s)
unfolding is_proper
is_proper_tells (statement.Symbol name) = Decides-name name
is_proper_tells (statement.Element name text) = Decides-and (is_proper_name name) (is_element_text text) (Decides-name name) (Decides-text text)
is_proper_tells (statement.Equivalence name symbol) = Decides-and (is_proper_name name) (is_proper_name symbol) (Decides-name name) (Decides-name symbol)
is_proper_tells (statement.Block target lines) = Decides-three (is_proper_id target) (nat_le (length lines) 4096) (list_all is_proper_line lines) (Decides-id target) (Decides-leb (length lines) 4096)
    (Decides-all is_proper_line IsProperLine Decides-line lines)
is_proper_tells (statement.SectionAfter moved after) = Decides-and (is_proper_name moved) (is_proper_name after) (Decides-name moved) (Decides-name after)
is_proper_tells (statement.Reweight line) = Decides-line line
