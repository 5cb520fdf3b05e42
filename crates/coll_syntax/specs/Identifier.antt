-- Identifiers: when two are the same, and how a token spells one (POSIX.1-2017, 7.3.2.4).
use Rattle.std.specs.Prelude.{ℕ, ◌==◌, Bool, true, false, if◌then◌else◌, List, [], ◌∷◌, Option, Some, None, codes}
use Rattle.std.specs.Str.{bytes_eq}
use Rattle.std.specs.List.{list_any}
use Rattle.std.specs.Option.{option_map}
use Rattle.coll_lex.specs.declared.tokens.Token.{Token}
use Rattle.coll_lex.specs.declared.tokens.Token.TheVariants as token
use Rattle.coll_syntax.specs.declared.identifiers.Id.{Id}
use Rattle.coll_syntax.specs.declared.identifiers.Id.TheVariants.{Char, Named, Undefined}

-- two names are the same character by character
abbrev pub same_name : List ℕ → List ℕ → Bool
same_name = bytes_eq

-- a name is in a list of names
abbrev pub has_name : List (List ℕ) → List ℕ → Bool
has_name names name = list_any (same_name name) names

-- two identifiers are the same: the same character, the same name, or both UNDEFINED
abbrev pub same_id : Id → Id → Bool
same_id (Char a) (Char b) = a == b
same_id (Char a) (Named b) = false
same_id (Char a) Undefined = false
same_id (Named a) (Char b) = false
same_id (Named a) (Named b) = same_name a b
same_id (Named a) Undefined = false
same_id Undefined (Char b) = false
same_id Undefined (Named b) = false
same_id Undefined Undefined = true

-- an identifier is in a list of identifiers
abbrev pub has_id : List Id → Id → Bool
has_id ids id = list_any (same_id id) ids

-- a token is a word, spelled so
abbrev pub is_word : Token → List ℕ → Bool
is_word (token.Word word) spelling = same_name word spelling
is_word _ spelling = false

-- the one character of a word that has no other
abbrev pub only_char : List ℕ → Option ℕ
only_char (c ∷ []) = Some c
only_char _ = None

-- the character or the name that a token spells: a code point, a symbol, or a word of one character
abbrev pub char_or_name : Token → Option Id
char_or_name (token.Char c) = Some (Char c)
char_or_name (token.Symbol name) = Some (Named name)
char_or_name (token.Word word) = option_map Char (only_char word)
char_or_name _ = None

-- the identifier that a token spells: the word UNDEFINED, or a character or a name
abbrev pub id_of : Token → Option Id
id_of t = if is_word t (codes "UNDEFINED") then Some Undefined else char_or_name t
