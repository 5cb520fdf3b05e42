-- A name as a key: its characters, and the bytes by which it is compared and hashed.
use Rattle.std.specs.Prelude.{◌≡◌, ◌≤◌, Bool, List, [], ◌∷◌, ℕ, chars, encode_utf8_all, length}
use Rattle.std.specs.Str.{bytes_eq}
use Rattle.coll_lookups.specs.declared.name_keys.NameKey.{NameKey}
use Rattle.coll_lookups.specs.declared.name_keys.NameText.{NameText}

-- the characters of a key
abbrev pub name_of_key : NameKey → List ℕ
name_of_key key = key.name

-- the bytes of a key
abbrev pub bytes_of : NameKey → List ℕ
bytes_of key = encode_utf8_all key.name

-- the bytes of the text of a name
abbrev pub text_bytes : NameText → List ℕ
text_bytes text = text.text.now

-- what is hashed of these bytes
abbrev pub one_write : List ℕ → List (List ℕ)
one_write bytes = bytes ∷ []

-- two keys have the same bytes
abbrev pub same_bytes : NameKey → NameKey → Bool
same_bytes a b = bytes_eq (bytes_of a) (bytes_of b)

-- the characters of a key are read back from its bytes
abbrev pub IsReadBack : NameKey → Type 0
IsReadBack key = chars (bytes_of key) ≡ key.name

-- a key has no more characters than this
abbrev pub IsWithin : (most : ℕ) → NameKey → Type 0
IsWithin most key = length key.name ≤ most
