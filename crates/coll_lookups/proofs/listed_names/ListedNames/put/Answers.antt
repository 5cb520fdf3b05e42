-- A name that is there has its place, and one that isn't stands behind all from now on, as the map tells.
use Rattle.std.proofs.Common.{◌≡◌, ◌∷◌, ◌++◌, [], true, false, cond, length, sym, ap, ◌∙◌}
use Rattle.std.proofs.lemmas.Map.Keys.{IsDistinct-push}
use Rattle.std.specs.Cmp.{on_equiv}
use Rattle.std.specs.Cmp.Lexicographic.{nat_list_eq_equiv}
use Rattle.std.specs.List.{list_any}
use Rattle.coll_lookups.specs.NameKeys.{bytes_of, same_bytes}
use Rattle.coll_lookups.proofs.ListedNames.{none_passes, one_passes, place_behind, places_with, told_place}
use Rattle.coll_lookups.proofs.listed_names.ListedNames.put.Goals as goal

-- a name that gets the place behind all isn't there
none_there : (c : goal.After-push_reserved) → list_any (same_bytes c.args.key) c.self.inside.keys.items ≡ false
none_there c =
    let keys = c.self.inside.keys.items in
    let last : c.len-last.result ≡ length keys = c.len-last.ensures ∙ c.self.inside.keys.ok.0 in
    let told = told_place keys c.args.key c.in_ok-copy.copy c.self.inside.places c.len-last.result c.in_ok-place.place c.in_ok-copy.ensures.cases last c.in_ok-place.ensures.place
    c.self.invariant.1 in
    none_passes (same_bytes c.args.key) keys c.args.key (sym told ∙ (c.if-place-last.true ∙ last))

pub invariant_of-self-then-place-last : goal.invariant_of-self-then-place-last
invariant_of-self-then-place-last c =
    let keys = c.self.inside.keys.items in
    let behind : c.in_ok-place.place ≡ length keys = c.if-place-last.true ∙ (c.len-last.ensures ∙ c.self.inside.keys.ok.0) in
    rw (c.push_reserved.ensures.items, c.in_ok-reserve.ensures.items) (
      IsDistinct-push (on_equiv bytes_of nat_list_eq_equiv) keys c.args.key c.self.invariant.0 (none_there c),
      places_with keys c.args.key c.in_ok-copy.copy c.self.inside.places c.put_place.new.places (none_there c) c.in_ok-copy.ensures.cases (rw behind at c.in_ok-place.ensures.ok.0)
          c.self.invariant.1,
    )

pub returns-then-place-last-clause-place : goal.returns-then-place-last-clause-place
returns-then-place-last-clause-place c =
    let last = c.if-place-last.true ∙ (c.len-last.ensures ∙ c.self.inside.keys.ok.0) in
    rw (← c.self.view_is) (last ∙ sym (place_behind (same_bytes c.args.key) c.self.inside.keys.items (none_there c)))

pub returns-then-place-last-clause-ok : goal.returns-then-place-last-clause-ok
returns-then-place-last-clause-ok c =
    let keys = c.self.inside.keys.items in
    rw (c.push_reserved.ensures.items, c.in_ok-reserve.ensures.items, ← c.self.view_is) (sym (ap (λ b. cond b keys (keys ++ c.args.key ∷ [])) (none_there c)))

pub returns-else-place-last-clause-ok : goal.returns-else-place-last-clause-ok
returns-else-place-last-clause-ok c =
    let keys = c.self.inside.keys.items in
    let last : c.len-last.result ≡ length keys = c.len-last.ensures ∙ c.self.inside.keys.ok.0 in
    let told = told_place keys c.args.key c.in_ok-copy.copy c.self.inside.places c.len-last.result c.in_ok-place.place c.in_ok-copy.ensures.cases last c.in_ok-place.ensures.place
    c.self.invariant.1 in
    let there : list_any (same_bytes c.args.key) keys ≡ true = one_passes (same_bytes c.args.key) keys (λ e. c.if-place-last.false (told ∙ (e ∙ sym last))) in
    rw (c.in_ok-reserve.ensures.items, ← c.self.view_is) (sym (ap (λ b. cond b keys (keys ++ c.args.key ∷ [])) there))
