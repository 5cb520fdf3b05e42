-- Texts that stand one behind another.
use Rattle.std.specs.Prelude.{◌≤◌, ℕ, List, All, length, map, chars, slice_range}
use Rattle.std.specs.Str.{IsUtf8}
use Rattle.coll_word_lists.specs.declared.stored_texts.TextPlace.{TextPlace}

-- the bytes of the text at a place
abbrev pub bytes_in : (bytes : List ℕ) → TextPlace → List ℕ
bytes_in bytes place = slice_range bytes place.start place.end

-- the text at a place
abbrev pub text_in : (bytes : List ℕ) → TextPlace → List ℕ
text_in bytes place = chars (bytes_in bytes place)

-- the texts at places
abbrev pub texts_at : (bytes : List ℕ) → List TextPlace → List (List ℕ)
texts_at bytes places = map (text_in bytes) places

-- a text stands at a place
pub record IsTextPlace (bytes : List ℕ) (place : TextPlace) : Type 0 where
  pub order : place.start ≤ place.end
  pub within : place.end ≤ length bytes
  pub utf8 : IsUtf8 (bytes_in bytes place)

-- at each place
abbrev pub AreTextPlaces : (bytes : List ℕ) → List TextPlace → Type 0
AreTextPlaces bytes places = All (IsTextPlace bytes) places
