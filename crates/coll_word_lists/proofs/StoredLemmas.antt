-- What stands at a place stays there where more is put behind it.
use Rattle.std.proofs.Common.{◌≡◌, ℕ, ◌+◌, ◌-◌, ◌≤◌, List, [], ◌∷◌, ◌++◌, length, take, drop, get_or, chars, slice_range, IsUtf8}
use Rattle.std.proofs.Common.{refl, sym, ap, subst, ◌∙◌, append_assoc, arith, length-append}
use Rattle.std.proofs.lemmas.List.{take_all, take-append-le, drop-append-le, length-drop, map-append}
use Rattle.std.proofs.lemmas.List.Elements.{All-append, All-cons, All-nil}
use Rattle.coll_key.proofs.KeyOrder.{All-first, All-others}
use Rattle.coll_word_lists.specs.StoredTexts.{IsTextPlace, AreTextPlaces, bytes_in, text_in, texts_at}
use Rattle.coll_word_lists.specs.declared.stored_texts.TextPlace.{TextPlace}

-- a part of a list is that of a longer one
pub part_stays : (xs more : List ℕ) (from to : ℕ) → from ≤ to → to ≤ length xs → slice_range (xs ++ more) from to ≡ slice_range xs from to
part_stays xs more from to upto within =
    ap (take (to - from)) (drop-append-le from xs more (omega (arith, upto, within)))
    ∙ take-append-le (to - from) (drop from xs) more (omega (arith, upto, within, length-drop from xs))

-- what is put behind a list is its last part
pub part_put : (xs more : List ℕ) (to : ℕ) → to ≡ length xs + length more → slice_range (xs ++ more) (length xs) to ≡ more
part_put [] more to is = take_all (to - 0) more (omega (arith, is))
part_put (x ∷ xs) more to is =
    let fewer : to - length (x ∷ xs) ≡ (to - 1) - length xs = omega (arith, is) in
    ap (λ n. take n (drop (length xs) (xs ++ more))) fewer ∙ part_put xs more (to - 1) (omega (arith, is))

module _ (bytes more bytes_now : List ℕ) (bytes_are : bytes_now ≡ bytes ++ more) where
  module _ (place : TextPlace) (is : IsTextPlace bytes place) where
    text_stays : bytes_in bytes_now place ≡ bytes_in bytes place
    text_stays = ap (λ (l : List ℕ). bytes_in l place) bytes_are ∙ part_stays bytes more place.start place.end is.order is.within

    text_place_stays : IsTextPlace bytes_now place
    text_place_stays = record {
      order = is.order;
      within = omega (arith, is.within, ap length bytes_are, length-append bytes more);
      utf8 = subst IsUtf8 (sym text_stays) is.utf8;
    }

  text_places_stay : (places : List TextPlace) → AreTextPlaces bytes places → AreTextPlaces bytes_now places
  text_places_stay places are = λ k d low. text_place_stays (get_or places k d) (are k d low)

  texts_stay : (places : List TextPlace) → AreTextPlaces bytes places → texts_at bytes_now places ≡ texts_at bytes places
  texts_stay [] are = refl
  texts_stay (place ∷ places) are =
      ap (λ (l : List ℕ). chars l ∷ texts_at bytes_now places) (text_stays place (All-first (IsTextPlace bytes) place places are))
      ∙ ap (λ (texts : List (List ℕ)). text_in bytes place ∷ texts) (texts_stay places (All-others (IsTextPlace bytes) place places are))

  -- a text more, which was put behind the others
  module _ (start end : ℕ) (start_is : start ≡ length bytes) (end_is : end ≡ length bytes_now) (utf8 : IsUtf8 more) where
    abbrev text_more : TextPlace
    text_more = record { start = start; end = end }

    text_put : bytes_in bytes_now text_more ≡ more
    text_put =
        ap (λ (n : ℕ). slice_range bytes_now n end) start_is
        ∙ ap (λ (l : List ℕ). slice_range l (length bytes) end) bytes_are
        ∙ part_put bytes more end (end_is ∙ ap length bytes_are ∙ length-append bytes more)

    text_place_put : IsTextPlace bytes_now text_more
    text_place_put = record {
      order = omega (arith, start_is, end_is, ap length bytes_are, length-append bytes more);
      within = omega (arith, end_is);
      utf8 = subst IsUtf8 (sym text_put) utf8;
    }

    pub text_places_with : (places places_now : List TextPlace) → places_now ≡ places ++ text_more ∷ [] → AreTextPlaces bytes places → AreTextPlaces bytes_now places_now
    text_places_with places places_now with are =
        subst (AreTextPlaces bytes_now) (sym with)
        (All-append (IsTextPlace bytes_now) places (text_more ∷ []) (text_places_stay places are)
        (All-cons (IsTextPlace bytes_now) text_more [] text_place_put (All-nil (IsTextPlace bytes_now))))

    pub texts_with : (places places_now : List TextPlace) → places_now ≡ places ++ text_more ∷ [] → AreTextPlaces bytes places
        → texts_at bytes_now places_now ≡ texts_at bytes places ++ chars more ∷ []
    texts_with places places_now with are =
        ap (texts_at bytes_now) with
        ∙ map-append (text_in bytes_now) places (text_more ∷ [])
        ∙ ap (λ (texts : List (List ℕ)). texts ++ text_in bytes_now text_more ∷ []) (texts_stay places are)
        ∙ ap (λ (l : List ℕ). texts_at bytes places ++ chars l ∷ []) text_put
