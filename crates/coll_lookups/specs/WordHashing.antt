-- SipHash-1-3 over words: each write is cut into words of eight bytes, and ends with one that has the bytes left and their number.
use Rattle.std.specs.Prelude.{ℕ, ◌+◌, ◌%◌, ◌^◌, List, [], ◌∷◌, bit_xor}
use Rattle.std.specs.Int.{w64, rotate_left, from_le_bytes}
use Rattle.std.specs.declared.hash.DefaultHasher.{DefaultHasher}
use Rattle.std.specs.Hash as fed
use Rattle.std.specs.Hash.DefaultHasher as sip
use Rattle.std.specs.List.{fold}
use Rattle.coll_lookups.specs.declared.word_hashing.WordHasher.{WordHasher}
use Rattle.coll_lookups.specs.declared.word_hashing.WordKeys.{WordKeys}

-- the sum of two words, modulo 2 to the power 64
abbrev wrapped : ℕ → ℕ → ℕ
wrapped a b = (a + b) % 2 ^ 64

-- eight bytes as a word, the lowest first
abbrev pub word : List ℕ → ℕ
word bytes = from_le_bytes w64 bytes

-- the state that two keys begin with
unfoldable pub begun : ℕ → ℕ → WordHasher
begun first second = record {
  v0 = bit_xor first 0x736f_6d65_7073_6575;
  v1 = bit_xor second 0x646f_7261_6e64_6f6d;
  v2 = bit_xor first 0x6c79_6765_6e65_7261;
  v3 = bit_xor second 0x7465_6462_7974_6573;
}

-- the state after one round
unfoldable pub round : WordHasher → WordHasher
round s =
    let a0 = wrapped s.v0 s.v1 in
    let a2 = wrapped s.v2 s.v3 in
    let a1 = bit_xor (rotate_left w64 s.v1 13) a0 in
    let a3 = bit_xor (rotate_left w64 s.v3 16) a2 in
    let b2 = wrapped a2 a1 in
    let b0 = wrapped (rotate_left w64 a0 32) a3 in
    record {
      v0 = b0;
      v1 = bit_xor (rotate_left w64 a1 17) b2;
      v2 = rotate_left w64 b2 32;
      v3 = bit_xor (rotate_left w64 a3 21) b0;
    }

-- the state after one more word
unfoldable pub with_word : WordHasher → ℕ → WordHasher
with_word s m =
    let t = round (record { v0 = s.v0; v1 = s.v1; v2 = s.v2; v3 = bit_xor s.v3 m }) in
    record { v0 = bit_xor t.v0 m; v1 = t.v1; v2 = t.v2; v3 = t.v3 }

-- the word that ends a write: the bytes left, fewer than eight, and their number
abbrev pub last_word : List ℕ → ℕ
last_word [] = 0
last_word (a ∷ []) = word (a ∷ 0 ∷ 0 ∷ 0 ∷ 0 ∷ 0 ∷ 0 ∷ 1 ∷ [])
last_word (a ∷ b ∷ []) = word (a ∷ b ∷ 0 ∷ 0 ∷ 0 ∷ 0 ∷ 0 ∷ 2 ∷ [])
last_word (a ∷ b ∷ c ∷ []) = word (a ∷ b ∷ c ∷ 0 ∷ 0 ∷ 0 ∷ 0 ∷ 3 ∷ [])
last_word (a ∷ b ∷ c ∷ d ∷ []) = word (a ∷ b ∷ c ∷ d ∷ 0 ∷ 0 ∷ 0 ∷ 4 ∷ [])
last_word (a ∷ b ∷ c ∷ d ∷ e ∷ []) = word (a ∷ b ∷ c ∷ d ∷ e ∷ 0 ∷ 0 ∷ 5 ∷ [])
last_word (a ∷ b ∷ c ∷ d ∷ e ∷ f ∷ []) = word (a ∷ b ∷ c ∷ d ∷ e ∷ f ∷ 0 ∷ 6 ∷ [])
last_word (a ∷ b ∷ c ∷ d ∷ e ∷ f ∷ g ∷ _) = word (a ∷ b ∷ c ∷ d ∷ e ∷ f ∷ g ∷ 7 ∷ [])

-- the state after these bytes are written
unfoldable pub written : WordHasher → List ℕ → WordHasher
written s (a ∷ b ∷ c ∷ d ∷ e ∷ f ∷ g ∷ h ∷ rest) = written (with_word s (word (a ∷ b ∷ c ∷ d ∷ e ∷ f ∷ g ∷ h ∷ []))) rest
written s rest = with_word s (last_word rest)

-- the hash of what was written
unfoldable pub finished : WordHasher → ℕ
finished s =
    let t = round (round (round (record { v0 = s.v0; v1 = s.v1; v2 = bit_xor s.v2 255; v3 = s.v3 }))) in
    bit_xor (bit_xor (bit_xor t.v0 t.v1) t.v2) t.v3

-- a key made of two keys, one for each number
abbrev pub derived : DefaultHasher → ℕ → ℕ
derived keys n = sip.finish (fold sip.write keys (fed.u64 n))

-- what hashes begin with under these keys
abbrev pub word_keys : DefaultHasher → WordKeys
word_keys keys = record { keys = keys; begun = begun (derived keys 1) (derived keys 2) }
