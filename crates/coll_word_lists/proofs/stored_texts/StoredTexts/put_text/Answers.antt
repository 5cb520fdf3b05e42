-- A text more stands behind the others.
use Rattle.std.proofs.Common.{◌≡◌, ◌∙◌, ◌++◌, ◌∷◌, [], ℕ, List, chars, sym, ap, subst, rules}
use Rattle.coll_word_lists.specs.StoredTexts.{AreTextPlaces, texts_at}
use Rattle.coll_word_lists.specs.declared.stored_texts.TextPlace.{TextPlace}
use Rattle.coll_word_lists.proofs.StoredLemmas.{text_places_with, texts_with}
use Rattle.coll_word_lists.proofs.stored_texts.StoredTexts.put_text.Goals as goal

pub invariant_of-self : goal.invariant_of-self
invariant_of-self c = subst (AreTextPlaces c.self.inside.bytes.items) (sym c.reserve.ensures.items) c.self.invariant

pub invariant_of-self-in_err-extend_from_slice : goal.invariant_of-self-in_err-extend_from_slice
invariant_of-self-in_err-extend_from_slice c =
    let bytes : c.extend_from_slice.new.self.items ≡ c.self.inside.bytes.items = search rules in
    subst (λ (bytes : List ℕ). AreTextPlaces bytes c.reserve.new.self.items) (sym bytes)
    (subst (AreTextPlaces c.self.inside.bytes.items) (sym c.reserve.ensures.items) c.self.invariant)

pub invariant_of-self-2 : goal.invariant_of-self-2
invariant_of-self-2 c =
    let bytes = c.self.inside.bytes.items in
    let now = c.extend_from_slice.new.self in
    let place : TextPlace = record { start = c.len-start.result; end = c.len-end.result } in
    let with : c.push_reserved.new.self.items ≡ c.self.inside.places.items ++ place ∷ [] = c.push_reserved.ensures.items ∙ ap (λ (places : List TextPlace). places ++ place ∷ []) c.reserve.ensures.items in
    text_places_with bytes c.as_bytes.result.now now.items c.in_ok-extend_from_slice.ensures.items c.len-start.result c.len-end.result (c.len-start.ensures ∙ c.self.inside.bytes.ok.0)
    (c.len-end.ensures ∙ now.ok.0) c.as_bytes.ensures.utf8 c.self.inside.places.items c.push_reserved.new.self.items with c.self.invariant

pub returns : goal.returns
returns c =
    let bytes = c.self.inside.bytes.items in
    let now = c.extend_from_slice.new.self in
    let place : TextPlace = record { start = c.len-start.result; end = c.len-end.result } in
    let with : c.push_reserved.new.self.items ≡ c.self.inside.places.items ++ place ∷ [] = c.push_reserved.ensures.items ∙ ap (λ (places : List TextPlace). places ++ place ∷ []) c.reserve.ensures.items in
    rw (← c.self.view_is)
    (texts_with bytes c.as_bytes.result.now now.items c.in_ok-extend_from_slice.ensures.items c.len-start.result c.len-end.result (c.len-start.ensures ∙ c.self.inside.bytes.ok.0)
    (c.len-end.ensures ∙ now.ok.0) c.as_bytes.ensures.utf8 c.self.inside.places.items c.push_reserved.new.self.items with c.self.invariant
    ∙ ap (λ (l : List ℕ). texts_at bytes c.self.inside.places.items ++ chars l ∷ []) c.as_bytes.ensures.value)
