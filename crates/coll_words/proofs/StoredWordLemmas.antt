-- A word that stands at a place stays there where more is put behind it.
use Rattle.std.proofs.Common.{◌≡◌, ℕ, List, [], ◌∷◌, ◌++◌, length, get_or, chars, slice_range}
use Rattle.std.proofs.Common.{refl, sym, ap, subst, ◌∙◌, append_assoc, arith, length-append}
use Rattle.std.proofs.lemmas.List.{map-append}
use Rattle.std.proofs.lemmas.List.Elements.{All-append, All-cons, All-nil}
use Rattle.coll_key.proofs.KeyOrder.{All-first, All-others}
use Rattle.coll_word_lists.specs.KeyedWords.{KeyedWord, AreKeyedBy, texts_of}
use Rattle.coll_word_lists.specs.StoredTexts.{IsTextPlace, text_in}
use Rattle.coll_word_lists.proofs.StoredLemmas.{part_put, part_stays}
use Rattle.coll_words.specs.StoredWords.{IsPlace, ArePlaces, text_at, word_at, words_at}
use Rattle.coll_word_lists.specs.declared.stored_texts.TextPlace.{TextPlace}
use Rattle.coll_words.specs.declared.stored_words.WordPlace.{WordPlace}

module _ (texts keys others keys_now : List ℕ) (keys_are : keys_now ≡ keys ++ others) where
  module _ (place : WordPlace) (is : IsPlace texts keys place) where
    key_stays : slice_range keys_now place.key place.key_end ≡ slice_range keys place.key place.key_end
    key_stays = ap (λ (l : List ℕ). slice_range l place.key place.key_end) keys_are ∙ part_stays keys others place.key place.key_end is.key is.key_within

    word_stays : word_at texts keys_now place ≡ word_at texts keys place
    word_stays = ap (λ (key : List ℕ). record { text = chars (text_at texts place); key = key }) key_stays

    place_stays : IsPlace texts keys_now place
    place_stays = record {
      text = is.text;
      text_within = is.text_within;
      key = is.key;
      key_within = omega (arith, is.key_within, ap length keys_are, length-append keys others);
      utf8 = is.utf8;
    }

  places_stay : (places : List WordPlace) → ArePlaces texts keys places → ArePlaces texts keys_now places
  places_stay places are = λ k d low. place_stays (get_or places k d) (are k d low)

  words_stay : (places : List WordPlace) → ArePlaces texts keys places → words_at texts keys_now places ≡ words_at texts keys places
  words_stay [] are = refl
  words_stay (place ∷ places) are =
      ap (λ (word : KeyedWord). word ∷ words_at texts keys_now places) (word_stays place (All-first (IsPlace texts keys) place places are))
      ∙ ap (λ (words : List KeyedWord). word_at texts keys place ∷ words) (words_stay places (All-others (IsPlace texts keys) place places are))

  -- a word more, whose key was put behind the others
  module _ (text : TextPlace) (is : IsTextPlace texts text) (key key_end : ℕ) (key_is : key ≡ length keys) (key_end_is : key_end ≡ length keys_now) where
    abbrev word_more : WordPlace
    word_more = record { text = text.start; text_end = text.end; key = key; key_end = key_end }

    key_put : slice_range keys_now key key_end ≡ others
    key_put =
        ap (λ (n : ℕ). slice_range keys_now n key_end) key_is
        ∙ ap (λ (l : List ℕ). slice_range l (length keys) key_end) keys_are
        ∙ part_put keys others key_end (key_end_is ∙ ap length keys_are ∙ length-append keys others)

    place_put : IsPlace texts keys_now word_more
    place_put = record {
      text = is.order;
      text_within = is.within;
      key = omega (arith, key_is, key_end_is, ap length keys_are, length-append keys others);
      key_within = omega (arith, key_end_is);
      utf8 = is.utf8;
    }

    pub places_with : (places places_now : List WordPlace) → places_now ≡ places ++ word_more ∷ [] → ArePlaces texts keys places → ArePlaces texts keys_now places_now
    places_with places places_now with are =
        subst (ArePlaces texts keys_now) (sym with)
        (All-append (IsPlace texts keys_now) places (word_more ∷ []) (places_stay places are)
        (All-cons (IsPlace texts keys_now) word_more [] place_put (All-nil (IsPlace texts keys_now))))

    pub words_with : (places places_now : List WordPlace) → places_now ≡ places ++ word_more ∷ [] → ArePlaces texts keys places
        → words_at texts keys_now places_now ≡ words_at texts keys places ++ record { text = text_in texts text; key = others } ∷ []
    words_with places places_now with are =
        ap (words_at texts keys_now) with
        ∙ map-append (word_at texts keys_now) places (word_more ∷ [])
        ∙ ap (λ (words : List KeyedWord). words ++ word_at texts keys_now word_more ∷ []) (words_stay places are)
        ∙ ap (λ (key : List ℕ). words_at texts keys places ++ record { text = text_in texts text; key = key } ∷ []) key_put

-- one word more has its text
pub texts_more : (words words_now : List KeyedWord) (word : KeyedWord) (all left later : List (List ℕ)) → words_now ≡ words ++ word ∷ [] → left ≡ word.text ∷ later → all ≡ texts_of words ++ left
    → all ≡ texts_of words_now ++ later
texts_more words words_now word all left later with begins same =
    same
    ∙ ap (λ (l : List (List ℕ)). texts_of words ++ l) begins
    ∙ sym (append_assoc (texts_of words) (word.text ∷ []) later)
    ∙ ap (λ (l : List (List ℕ)). l ++ later) (sym (ap texts_of with ∙ map-append (λ (word : KeyedWord). word.text) words (word ∷ [])))

-- and its key
pub keys_more : (key : List ℕ → List ℕ) (words words_now : List KeyedWord) (word : KeyedWord) → words_now ≡ words ++ word ∷ [] → word.key ≡ key word.text → AreKeyedBy key words → AreKeyedBy key words_now
keys_more key words words_now word with is keyed =
    let has = λ (word : KeyedWord). word.key ≡ key word.text in
    subst (AreKeyedBy key) (sym with) (All-append has words (word ∷ []) keyed (All-cons has word [] is (All-nil has)))
