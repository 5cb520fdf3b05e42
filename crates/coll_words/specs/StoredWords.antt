-- Words whose texts and keys stand one behind another.
use Rattle.std.specs.Prelude.{◌≤◌, ℕ, List, All, length, map, chars, slice_range}
use Rattle.std.specs.Str.{IsUtf8}
use Rattle.coll_word_lists.specs.KeyedWords.{KeyedWord}
use Rattle.coll_words.specs.declared.stored_words.WordPlace.{WordPlace}

-- the bytes of a text
abbrev pub text_at : (texts : List ℕ) → WordPlace → List ℕ
text_at texts place = slice_range texts place.text place.text_end

-- the word at a place
abbrev pub word_at : (texts keys : List ℕ) → WordPlace → KeyedWord
word_at texts keys place = record { text = chars (text_at texts place); key = slice_range keys place.key place.key_end }

-- the words at places
abbrev pub words_at : (texts keys : List ℕ) → List WordPlace → List KeyedWord
words_at texts keys places = map (word_at texts keys) places

-- a text and a key stand at a place
pub record IsPlace (texts keys : List ℕ) (place : WordPlace) : Type 0 where
  pub text : place.text ≤ place.text_end
  pub text_within : place.text_end ≤ length texts
  pub key : place.key ≤ place.key_end
  pub key_within : place.key_end ≤ length keys
  pub utf8 : IsUtf8 (text_at texts place)

-- at each place
abbrev pub ArePlaces : (texts keys : List ℕ) → List WordPlace → Type 0
ArePlaces texts keys places = All (IsPlace texts keys) places
