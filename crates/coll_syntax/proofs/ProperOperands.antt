-- What the grammar gives is proper: operands, strings, rules and weights.
use Rattle.std.proofs.Common.{◌≡◌, ℕ, zero, suc, ◌<◌, ◌≤◌, ◌&&◌, nat_le, Bool, true, false, if◌then◌else◌, cond, List, []}
use Rattle.std.proofs.Common.{◌∷◌, ◌++◌, length, take, drop, map, Some, None, Ok, Err, refl, ap, ◌∙◌, arith}
use Rattle.std.specs.Prelude.{Result, Option, All, IfOk, codes}
use Rattle.std.specs.List.{slice_split, onto_first}
use Rattle.std.proofs.lemmas.List.Elements.{All-nil, All-cons, All-head, All-tail}
use Rattle.std.proofs.lemmas.List.{length-map}
use Rattle.std.specs.Char.{IsScalar}
use Rattle.std.specs.Option.{option_map}
use Rattle.coll_lex.specs.Names.{AreCharacters, IsName, IsPiece, IsToken}
use Rattle.coll_lex.proofs.CharacterLemmas.{characters-cons, characters-parts}
use Rattle.coll_lex.specs.declared.tokens.Token.{Token}
use Rattle.coll_lex.specs.declared.tokens.Token.TheVariants as token
use Rattle.coll_lex.specs.declared.tokens.Piece.{Piece}
use Rattle.coll_lex.specs.declared.tokens.Piece.TheVariants as piece
use Rattle.coll_syntax.specs.Identifier.{is_word, char_or_name, id_of}
use Rattle.coll_syntax.specs.Operands.{and_then, read_as, wanted, ended, operand, only, name_in, word_in, id_in, two_names, is_semicolon, operands_of, all_read}
use Rattle.coll_syntax.specs.Elements.{characters_of, short_text, element_text, text_in, from_text, element}
use Rattle.coll_syntax.specs.KeptLines.{is_only, kept_operand, kept_weights}
use Rattle.coll_syntax.specs.Weights.{piece_id, string_weight, one_id, weight, left_over, operand_weight, weights}
use Rattle.coll_syntax.specs.Rules.{rule, judged_levels, rules}
use Rattle.coll_syntax.specs.Proper.{IsId, IsWeightId, IsProperWeight, IsElementText}
use Rattle.coll_syntax.specs.declared.identifiers.Id.{Id}
use Rattle.coll_syntax.specs.declared.identifiers.Id.TheVariants.{Char, Named, Undefined}
use Rattle.coll_syntax.specs.declared.weights.Weight.{Weight}
use Rattle.coll_syntax.specs.declared.weights.Weight.TheVariants.{Ignore, Own, Names}
use Rattle.coll_syntax.specs.declared.rules.Rule.{Rule}
use Rattle.coll_syntax.specs.declared.syntax_faults.SyntaxFault.{SyntaxFault}
use Rattle.coll_syntax.specs.declared.syntax_faults.SyntaxFault.TheVariants.{BadOperand, TooManyLevels, ElementLength, WeightTooLong}
use Rattle.coll_syntax.proofs.ListReading.{some_operand, length-judged_levels}
use Rattle.coll_syntax.proofs.ProperTests.{text_from_test, count_from_test}

-- a reading, step by step

pub if_then : {A B : Type 0} (Q : A → Type 0) (P : B → Type 0) (r : Result A SyntaxFault) (next : A → Result B SyntaxFault) → IfOk r Q → ((x : A) → Q x → IfOk (next x) P) → IfOk (and_then r next) P
if_then Q P (Ok x) next h k = k x h
if_then Q P (Err f) next h k = tt

pub if_as : {A B : Type 0} (Q : A → Type 0) (P : B → Type 0) (make : A → B) (r : Result A SyntaxFault) → IfOk r Q → ((x : A) → Q x → P (make x)) → IfOk (read_as make r) P
if_as Q P make (Ok x) h k = k x h
if_as Q P make (Err f) h k = tt

pub if_ended : {A : Type 0} (P : A → Type 0) (x : A) (rest : List Token) → P x → IfOk (ended x rest) P
if_ended P x [] h = h
if_ended P x (t ∷ rest) h = tt

pub if_operand : {A B : Type 0} (Q : A → Type 0) (P : B → Type 0) (kind : Token → Result A SyntaxFault) (ts : List Token) (next : A → List Token → Result B SyntaxFault) → All IsToken ts
    → ((t : Token) → IsToken t → IfOk (kind t) Q) → ((x : A) (rest : List Token) → Q x → All IsToken rest → IfOk (next x rest) P) → IfOk (operand kind ts next) P
if_operand Q P kind [] next a h k = tt
if_operand Q P kind (t ∷ rest) next a h k = if_then Q P (kind t) (λ x. next x rest) (h t (All-head IsToken t rest a)) (λ x q. k x rest q (All-tail IsToken t rest a))

pub if_only : {A : Type 0} (P : A → Type 0) (kind : Token → Result A SyntaxFault) (ts : List Token) → All IsToken ts → ((t : Token) → IsToken t → IfOk (kind t) P) → IfOk (only kind ts) P
if_only P kind ts a h = if_operand P P kind ts ended a h (λ x rest q _. if_ended P x rest q)

-- names and identifiers

pub name_in-name : (t : Token) → IsToken t → IfOk (name_in t) IsName
name_in-name (token.Word w) h = tt
name_in-name (token.Symbol name) h = h
name_in-name (token.Char c) h = tt
name_in-name (token.Text ps) h = tt
name_in-name token.Semicolon h = tt
name_in-name token.Comma h = tt

-- an identifier that is none is not read
abbrev pub OnSomeId : (Id → Type 0) → Option Id → Type 0
OnSomeId P None = Unit {0}
OnSomeId P (Some id) = P id

if_wanted : (P : Id → Type 0) (o : Option Id) → OnSomeId P o → IfOk (wanted o) P
if_wanted P None h = tt
if_wanted P (Some id) h = h

word-char : (P : Id → Type 0) (w : List ℕ) → AreCharacters w → ((c : ℕ) → IsScalar c → P (Char c)) → OnSomeId P (char_or_name (token.Word w))
word-char P [] k h = tt
word-char P (c ∷ []) k h = h c (characters-parts c [] k).0
word-char P (c ∷ d ∷ w) k h = tt

pub char_or_name-proper : (t : Token) → IsToken t → OnSomeId IsWeightId (char_or_name t)
char_or_name-proper (token.Word w) h = word-char IsWeightId w h.1 (λ c is. is)
char_or_name-proper (token.Symbol name) h = h
char_or_name-proper (token.Char c) h = h
char_or_name-proper (token.Text ps) h = tt
char_or_name-proper token.Semicolon h = tt
char_or_name-proper token.Comma h = tt

char_or_name-id : (t : Token) → IsToken t → OnSomeId IsId (char_or_name t)
char_or_name-id (token.Word w) h = word-char IsId w h.1 (λ c is. is)
char_or_name-id (token.Symbol name) h = h
char_or_name-id (token.Char c) h = h
char_or_name-id (token.Text ps) h = tt
char_or_name-id token.Semicolon h = tt
char_or_name-id token.Comma h = tt

if_undefined : (b : Bool) (o : Option Id) → OnSomeId IsId o → OnSomeId IsId (if b then Some Undefined else o)
if_undefined true o h = tt
if_undefined false o h = h

pub id_of-proper : (t : Token) → IsToken t → OnSomeId IsId (id_of t)
id_of-proper t h = if_undefined (is_word t (codes "UNDEFINED")) (char_or_name t) (char_or_name-id t h)

pub id_in-proper : (t : Token) → IsToken t → IfOk (id_in t) IsId
id_in-proper t h = if_wanted IsId (id_of t) (id_of-proper t h)

-- two names
pub two_names-proper : (ts : List Token) → All IsToken ts → IfOk (two_names ts) (λ names. IsName names.0 × IsName names.1)
two_names-proper ts a =
    if_operand IsName (λ names. IsName names.0 × IsName names.1) name_in ts _ a name_in-name
    (λ first rest q b. if_as IsName (λ names. IsName names.0 × IsName names.1) (λ second. (first, second)) (only name_in rest) (if_only IsName name_in rest b name_in-name) (λ second p. (q, p)))

-- the string of a collating element

if_short : (b : Bool) (cs : List ℕ) → (b ≡ true → IsElementText cs) → IfOk (if b then Ok cs else Err ElementLength) IsElementText
if_short true cs h = h refl
if_short false cs h = tt

if_characters : (pieces : List Piece) → All IsPiece pieces → IfOk (wanted (characters_of pieces)) AreCharacters
if_characters [] a = refl
if_characters (piece.Char c ∷ pieces) a = more (characters_of pieces) (All-head IsPiece (piece.Char c) pieces a) (if_characters pieces (All-tail IsPiece (piece.Char c) pieces a))
  where
    more : (o : Option (List ℕ)) → IsScalar c → IfOk (wanted o) AreCharacters → IfOk (wanted (option_map (λ cs. c ∷ cs) o)) AreCharacters
    more None h k = tt
    more (Some cs) h k = characters-cons c cs h k
if_characters (piece.Name name ∷ pieces) a = tt

if_text : (pieces : List Piece) → All IsPiece pieces → IfOk (element_text pieces) IsElementText
if_text [] a = tt
if_text (p ∷ pieces) a =
    if_then AreCharacters IsElementText (wanted (characters_of (p ∷ pieces))) short_text (if_characters (p ∷ pieces) a)
    (λ cs h. if_short (nat_le 2 (length cs) && nat_le (length cs) 16) cs (text_from_test cs h))

text_in-proper : (t : Token) → IsToken t → IfOk (text_in t) IsElementText
text_in-proper (token.Word w) h = tt
text_in-proper (token.Symbol name) h = tt
text_in-proper (token.Char c) h = tt
text_in-proper (token.Text ps) h = if_text ps h
text_in-proper token.Semicolon h = tt
text_in-proper token.Comma h = tt

any_word : (spelling : List ℕ) (t : Token) → IfOk (word_in spelling t) (λ _. Unit {0})
any_word spelling t = by_test (is_word t spelling)
  where
    by_test : (b : Bool) → IfOk (if b then (let u : Result (Unit {0}) SyntaxFault = Ok tt in u) else Err BadOperand) (λ _. Unit {0})
    by_test true = tt
    by_test false = tt

pub element-proper : (ts : List Token) → All IsToken ts → IfOk (element ts) (λ read. IsName read.0 × IsElementText read.1)
element-proper ts a =
    if_operand IsName (λ read. IsName read.0 × IsElementText read.1) name_in ts _ a name_in-name
    (λ name rest q b. if_as IsElementText (λ read. IsName read.0 × IsElementText read.1) (λ text. (name, text)) (from_text rest)
    (if_operand (λ _. Unit {0}) IsElementText (word_in (codes "from")) rest _ b (λ t _. any_word (codes "from") t) (λ _ more _ d. if_only IsElementText text_in more d text_in-proper))
    (λ text p. (q, p)))

-- lists of operands

pub if_all_read : {A : Type 0} (P : A → Type 0) (rs : List (Result A SyntaxFault)) → All (λ r. IfOk r P) rs → IfOk (all_read rs) (λ xs. (length xs ≡ length rs) × All P xs)
unfolding all_read
if_all_read P [] a = (refl, All-nil P)
if_all_read P (r ∷ rs) a =
    if_then P (λ xs. (length xs ≡ length (r ∷ rs)) × All P xs) r _ (All-head (λ r. IfOk r P) r rs a)
    (λ x p. if_as (λ xs. (length xs ≡ length rs) × All P xs) (λ xs. (length xs ≡ length (r ∷ rs)) × All P xs) (λ more. x ∷ more) (all_read rs) (if_all_read P rs (All-tail (λ r. IfOk r P) r rs a))
    (λ xs q. (ap (λ n. suc n) q.0, All-cons P x xs p q.1)))

onto-first : {X : Type 0} (P : X → Type 0) (x : X) (parts : List (List X)) → P x → All (All P) parts → All (All P) (onto_first x parts)
onto-first P x [] p a = All-cons (All P) (x ∷ []) [] (All-cons P x [] p (All-nil P)) (All-nil (All P))
onto-first P x (part ∷ parts) p a = All-cons (All P) (x ∷ part) parts (All-cons P x part p (All-head (All P) part parts a)) (All-tail (All P) part parts a)

by-cut : {X : Type 0} (P : X → Type 0) (b : Bool) (x : X) (parts : List (List X)) → P x → All (All P) parts → All (All P) (cond b ([] ∷ parts) (onto_first x parts))
by-cut P true x parts p a = All-cons (All P) [] parts (All-nil P) a
by-cut P false x parts p a = onto-first P x parts p a

-- the operands are made of the tokens
pub All-slice_split : {X : Type 0} (P : X → Type 0) (cut : X → Bool) (xs : List X) → All P xs → All (All P) (slice_split cut xs)
All-slice_split P cut [] a = All-cons (All P) [] [] (All-nil P) (All-nil (All P))
All-slice_split P cut (x ∷ xs) a = by-cut P (cut x) x (slice_split cut xs) (All-head P x xs a) (All-slice_split P cut xs (All-tail P x xs a))

-- weights

piece_ids-proper : (pieces : List Piece) → All IsPiece pieces → All IsWeightId (map piece_id pieces)
piece_ids-proper [] a = All-nil IsWeightId
piece_ids-proper (p ∷ pieces) a = All-cons IsWeightId (piece_id p) (map piece_id pieces) (one p (All-head IsPiece p pieces a)) (piece_ids-proper pieces (All-tail IsPiece p pieces a))
  where
    one : (p : Piece) → IsPiece p → IsWeightId (piece_id p)
    one (piece.Char c) h = h
    one (piece.Name name) h = h

if_few : (b : Bool) (ids : List Id) → (b ≡ true → IsProperWeight (Names ids)) → IfOk (if b then Ok (Names ids) else Err WeightTooLong) IsProperWeight
if_few true ids h = h refl
if_few false ids h = tt

string_weight-proper : (pieces : List Piece) → All IsPiece pieces → IfOk (string_weight pieces) IsProperWeight
string_weight-proper [] a = tt
string_weight-proper (p ∷ pieces) a = if_few (nat_le (length (p ∷ pieces)) 32) (map piece_id (p ∷ pieces)) (λ e. (count_some p pieces, count_from_test p pieces e, piece_ids-proper (p ∷ pieces) a))
  where
    count_some : (p : Piece) (pieces : List Piece) → 1 ≤ length (map piece_id (p ∷ pieces))
    count_some p pieces = omega arith

one_id-proper : (id : Id) → IsWeightId id → IsProperWeight (one_id id)
one_id-proper id h = (omega arith, omega arith, All-cons IsWeightId id [] h (All-nil IsWeightId))

if_ignore : (b : Bool) (o : Option Id) → OnSomeId IsWeightId o → IfOk (if b then Ok Ignore else read_as one_id (wanted o)) IsProperWeight
if_ignore true o h = tt
if_ignore false o h = if_as IsWeightId IsProperWeight one_id (wanted o) (if_wanted IsWeightId o h) one_id-proper

weight-proper : (t : Token) → IsToken t → IfOk (weight t) IsProperWeight
weight-proper (token.Word w) h = if_ignore (is_word (token.Word w) (codes "IGNORE")) (char_or_name (token.Word w)) (char_or_name-proper (token.Word w) h)
weight-proper (token.Symbol name) h = if_ignore false (Some (Named name)) h
weight-proper (token.Char c) h = if_ignore false (Some (Char c)) h
weight-proper (token.Text ps) h = string_weight-proper ps h
weight-proper token.Semicolon h = tt
weight-proper token.Comma h = tt

operand_weight-proper : (ts : List Token) → All IsToken ts → IfOk (operand_weight ts) IsProperWeight
operand_weight-proper [] a = tt
operand_weight-proper (t ∷ []) a = weight-proper t (All-head IsToken t [] a)
operand_weight-proper (t ∷ next ∷ ts) a = if_then IsProperWeight IsProperWeight (weight t) (λ _. Err (left_over next)) (weight-proper t (All-head IsToken t (next ∷ ts) a)) (λ _ _. tt)

-- where each operand gives a proper weight, the weights of a line are proper, and there is one
module _ (read : List Token → Result Weight SyntaxFault) (proper : (ts : List Token) → All IsToken ts → IfOk (read ts) IsProperWeight) where
  each-operand : (parts : List (List Token)) → All (All IsToken) parts → All (λ r. IfOk r IsProperWeight) (map read parts)
  each-operand [] a = All-nil (λ r. IfOk r IsProperWeight)
  each-operand (part ∷ parts) a = All-cons (λ r. IfOk r IsProperWeight) (read part) (map read parts) (proper part (All-head (All IsToken) part parts a))
      (each-operand parts (All-tail (All IsToken) part parts a))

  counted : (parts : List (List Token)) (r : Result (List Weight) SyntaxFault) → 0 < length parts → IfOk r (λ ws. (length ws ≡ length (map read parts)) × All IsProperWeight ws)
      → IfOk r (λ ws. (1 ≤ length ws) × All IsProperWeight ws)
  counted parts (Ok ws) l h = let e = h.0 ∙ length-map parts read in (omega (arith, e, l), h.1)
  counted parts (Err f) l h = tt

  operands-proper : (ts : List Token) → All IsToken ts → IfOk (all_read (map read (operands_of ts))) (λ ws. (1 ≤ length ws) × All IsProperWeight ws)
  operands-proper ts a = counted (operands_of ts) (all_read (map read (operands_of ts))) (some_operand ts)
      (if_all_read IsProperWeight (map read (operands_of ts)) (each-operand (operands_of ts) (All-slice_split IsToken is_semicolon ts a)))

-- the weights of a line are proper, and there is one
pub weights-proper : (ts : List Token) → All IsToken ts → IfOk (weights ts) (λ ws. (1 ≤ length ws) × All IsProperWeight ws)
unfolding weights
weights-proper ts a = operands-proper operand_weight operand_weight-proper ts a

-- so it is with those of the line of a character
kept_operand-proper : (own : ℕ) (ts : List Token) → All IsToken ts → IfOk (kept_operand own ts) IsProperWeight
kept_operand-proper own ts a = by (is_only own ts) where
  by : (b : Bool) → IfOk (if b then Ok Own else operand_weight ts) IsProperWeight
  by true = tt
  by false = operand_weight-proper ts a

pub kept_weights-proper : (own : ℕ) (ts : List Token) → All IsToken ts → IfOk (kept_weights own ts) (λ ws. (1 ≤ length ws) × All IsProperWeight ws)
unfolding kept_weights
kept_weights-proper own ts a = operands-proper (kept_operand own) (kept_operand-proper own) ts a

-- rules

abbrev at_most_rules : ℕ → Result (List Rule) SyntaxFault → Type 0
at_most_rules m r = IfOk r (λ rs. length rs ≤ m)

judged-most : (m : ℕ) (ops : List (List Token)) → at_most_rules m (all_read (map rule (take m ops) ++ map (λ _. Err TooManyLevels) (drop m ops)))
unfolding all_read
judged-most zero [] = omega arith
judged-most zero (op ∷ ops) = tt
judged-most (suc m) [] = omega arith
judged-most (suc m) (op ∷ ops) = if_then (λ _. Unit {0}) (λ rs. length rs ≤ suc m) (rule op) _ (any_rule (rule op))
    (λ r _. if_as (λ rs. length rs ≤ m) (λ rs. length rs ≤ suc m) (λ more. r ∷ more) _ (judged-most m ops) (λ rs h. omega (arith, h)))
  where
    any_rule : (r : Result Rule SyntaxFault) → IfOk r (λ _. Unit {0})
    any_rule (Ok r) = tt
    any_rule (Err f) = tt

read-some : (rs : List (Result Rule SyntaxFault)) → 0 < length rs → IfOk (all_read rs) (λ xs. 1 ≤ length xs)
unfolding all_read
read-some [] l = absurd (omega (arith, l))
read-some (Err f ∷ rs) l = tt
read-some (Ok r ∷ rs) l = more (all_read rs)
  where
    more : (o : Result (List Rule) SyntaxFault) → IfOk (read_as (λ xs. r ∷ xs) o) (λ xs. 1 ≤ length xs)
    more (Ok xs) = omega arith
    more (Err f) = tt

both : (r : Result (List Rule) SyntaxFault) → IfOk r (λ rs. 1 ≤ length rs) → IfOk r (λ rs. length rs ≤ 4) → IfOk r (λ rs. (1 ≤ length rs) × (length rs ≤ 4))
both (Ok rs) h k = (h, k)
both (Err f) h k = tt

-- the rules are one to four
pub rules-proper : (ts : List Token) → IfOk (rules ts) (λ rs. (1 ≤ length rs) × (length rs ≤ 4))
unfolding rules
rules-proper ts = both (all_read (judged_levels (operands_of ts))) (read-some (judged_levels (operands_of ts)) (rw length-judged_levels (some_operand ts))) (judged-most 4 (operands_of ts))
