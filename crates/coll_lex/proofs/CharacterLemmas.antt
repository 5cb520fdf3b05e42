-- What is spelled by text is made of characters: its marks, the names of its symbols and its words.
use Rattle.std.proofs.Common.{ℕ, zero, suc, ◌==◌, Bool, true, false, List, [], ◌∷◌, ◌++◌, length, map, chars, IsUtf8, All, Option, Some, None, Result, Ok, Err, refl}
use Rattle.std.specs.Char.{IsScalar}
use Rattle.std.specs.Str.{all_scalars}
use lib.Utf8.{scalar}
use Rattle.std.proofs.lemmas.Bool.{and_parts, and_from, cond_both}
use Rattle.std.proofs.lemmas.List.Elements.{All-head, All-tail}
use Rattle.std.proofs.lemmas.Str.{scalars-chars}
use Rattle.coll_lex.specs.Characters.{less_than, greater_than}
use Rattle.coll_lex.specs.Kinds.{kind_of, ends_word}
use Rattle.coll_lex.specs.Marked.{Mark, Plain, Literal, marks, joined_marks}
use Rattle.coll_lex.specs.Tokens.{Atom, Bracketed, Unclosed, Bare, is_constant, is_plain, character, with_character, before_close, symbol_then, atoms, with_letter, word_run}
use Rattle.coll_lex.specs.Names.{AreCharacters}
use Rattle.coll_lex.specs.declared.faults.LexFault.{LexFault}
use Rattle.coll_lex.specs.declared.faults.LexFault.TheVariants.{CharacterConstant}

-- characters

pub characters-cons : (c : ℕ) (cs : List ℕ) → IsScalar c → AreCharacters cs → AreCharacters (c ∷ cs)
characters-cons c cs h k = and_from (scalar c) (all_scalars cs) h k

pub characters-parts : (c : ℕ) (cs : List ℕ) → AreCharacters (c ∷ cs) → IsScalar c × AreCharacters cs
characters-parts c cs h = and_parts (scalar c) (all_scalars cs) h

-- marks

-- each mark is one of a character
abbrev AreOfCharacters : List Mark → Type 0
AreOfCharacters [] = Unit {0}
AreOfCharacters (m ∷ ms) = IsScalar (character m) × AreOfCharacters ms

marks_of_characters : (escape : ℕ) (escaped : Bool) (cs : List ℕ) → AreCharacters cs → AreOfCharacters (marks escape escaped cs)
unfolding marks
marks_of_characters escape true [] h = tt
marks_of_characters escape false [] h = tt
marks_of_characters escape true (c ∷ cs) h =
    let parts = characters-parts c cs h in
    (parts.0, marks_of_characters escape false cs parts.1)
marks_of_characters escape false (c ∷ cs) h =
    let parts = characters-parts c cs h in
    cond_both (c == escape) (marks escape true cs) (Plain c ∷ marks escape false cs) AreOfCharacters (λ _. marks_of_characters escape true cs parts.1)
    (λ _. (parts.0, marks_of_characters escape false cs parts.1))

of_characters-append : (ms ns : List Mark) → AreOfCharacters ms → AreOfCharacters ns → AreOfCharacters (ms ++ ns)
of_characters-append [] ns h k = k
of_characters-append (m ∷ ms) ns h k = (h.0, of_characters-append ms ns h.1 k)

joined_of_characters : (escape : ℕ) (lines : List (List ℕ)) → All IsUtf8 lines → AreOfCharacters (joined_marks escape (map chars lines))
unfolding joined_marks
joined_of_characters escape [] h = tt
joined_of_characters escape (line ∷ lines) h =
    of_characters-append (marks escape false (chars line)) (joined_marks escape (map chars lines))
    (marks_of_characters escape false (chars line) (scalars-chars line (All-head IsUtf8 line lines h))) (joined_of_characters escape lines (All-tail IsUtf8 line lines h))

-- symbols

-- a name that was found is made of characters
abbrev IfName : Option (List ℕ) → Type 0
IfName None = Unit {0}
IfName (Some name) = AreCharacters name

with_character_if : (c : ℕ) (o : Option (List ℕ)) → IsScalar c → IfName o → IfName (with_character c o)
with_character_if c None h k = tt
with_character_if c (Some name) h k = characters-cons c name h k

before_close_if : (ms : List Mark) → AreOfCharacters ms → IfName (before_close ms)
unfolding before_close
before_close_if [] h = tt
before_close_if (m ∷ ms) h = cond_both (is_plain greater_than m) (Some []) (with_character (character m) (before_close ms)) IfName (λ _. nothing)
    (λ _. with_character_if (character m) (before_close ms) h.0 (before_close_if ms h.1))
  where
    nothing : AreCharacters []
    nothing = refl

-- the name of each symbol is made of characters, and so is what stands outside symbols
abbrev pub AreSpelled : List Atom → Type 0
AreSpelled [] = Unit {0}
AreSpelled (Bracketed name ∷ xs) = AreCharacters name × AreSpelled xs
AreSpelled (Unclosed ∷ xs) = AreSpelled xs
AreSpelled (Bare m ∷ xs) = IsScalar (character m) × AreSpelled xs

symbol_spelled : (o : Option (List ℕ)) (rest : ℕ → List Atom) → IfName o → ((skip : ℕ) → AreSpelled (rest skip)) → AreSpelled (symbol_then o rest)
symbol_spelled None rest h k = tt
symbol_spelled (Some name) rest h k = (h, k (suc (length name)))

atoms_spelled : (skip : ℕ) (ms : List Mark) → AreOfCharacters ms → AreSpelled (atoms skip ms)
unfolding atoms
atoms_spelled zero [] h = tt
atoms_spelled (suc skip) [] h = tt
atoms_spelled (suc skip) (m ∷ ms) h = atoms_spelled skip ms h.1
atoms_spelled zero (m ∷ ms) h =
    cond_both (is_plain less_than m) (symbol_then (before_close ms) (λ skip. atoms skip ms)) (Bare m ∷ atoms zero ms) AreSpelled
    (λ _. symbol_spelled (before_close ms) (λ skip. atoms skip ms) (before_close_if ms h.1) (λ skip. atoms_spelled skip ms h.1))
    (λ _. (h.0, atoms_spelled zero ms h.1))

-- what physical lines spell that are joined
pub lines_spelled : (escape : ℕ) (lines : List (List ℕ)) → All IsUtf8 lines → AreSpelled (atoms zero (joined_marks escape (map chars lines)))
lines_spelled escape lines h = atoms_spelled zero (joined_marks escape (map chars lines)) (joined_of_characters escape lines h)

-- words

-- a word that was read is made of characters
abbrev pub IfWord : Result (List ℕ) LexFault → Type 0
IfWord (Ok word) = AreCharacters word
IfWord (Err fault) = Unit {0}

with_letter_if : (c : ℕ) (r : Result (List ℕ) LexFault) → IsScalar c → IfWord r → IfWord (with_letter c r)
with_letter_if c (Ok word) h k = characters-cons c word h k
with_letter_if c (Err fault) h k = tt

pub word_run_if : (comment : ℕ) (xs : List Atom) → AreSpelled xs → IfWord (word_run comment xs)
unfolding word_run
word_run_if comment [] h = refl
word_run_if comment (Bracketed name ∷ xs) h = refl
word_run_if comment (Unclosed ∷ xs) h = refl
word_run_if comment (Bare (Plain c) ∷ xs) h =
    cond_both (ends_word (kind_of comment c)) (Ok []) (with_letter c (word_run comment xs)) IfWord (λ _. refl) (λ _. with_letter_if c (word_run comment xs) h.0 (word_run_if comment xs h.1))
word_run_if comment (Bare (Literal c) ∷ xs) h =
    cond_both (is_constant c) (Err CharacterConstant) (with_letter c (word_run comment xs)) IfWord (λ _. tt) (λ _. with_letter_if c (word_run comment xs) h.0 (word_run_if comment xs h.1))
