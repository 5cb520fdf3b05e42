-- A copy has the same names, and tells their places.
use Rattle.std.proofs.Common.{ap, ◌∙◌}
use Rattle.std.proofs.lemmas.List.Elements.{same_from_all_zip}
use Rattle.std.proofs.lemmas.Map.Entries.{entries_from_clone}
use Rattle.coll_lookups.proofs.listed_names.ListedNamesClone.clone.Goals as goal

pub invariant_of-result : goal.invariant_of-result
invariant_of-result c =
    let keys = same_from_all_zip _ c.self.inside.keys.items c.in_ok-keys.keys.items c.in_ok-keys.ensures.cases.0 (λ x y same. ap (λ name. record { name = name }) same) in
    let entries = entries_from_clone _ _ (λ x y same. ap (λ name. record { name = name }) same) (λ v w same. same) c.self.inside.places.entries c.in_ok-places.places.entries
    c.in_ok-places.ensures.cases in
    rw (keys, entries) c.self.invariant

pub returns : goal.returns
returns c =
    let keys = same_from_all_zip _ c.self.inside.keys.items c.in_ok-keys.keys.items c.in_ok-keys.ensures.cases.0 (λ x y same. ap (λ name. record { name = name }) same) in
    record { cases = keys ∙ c.self.view_is }
