-- An own name is its own.
use Rattle.std.proofs.Common.{◌≡◌, ℕ, List, Bor, Some, None, sym, ap, ◌∙◌}
use Rattle.std.specs.Option.{option_map}
use Rattle.std.specs.Prelude.{chars}
use Rattle.coll_nodes.specs.OwnNames.{own_name}
use Rattle.coll_nodes.specs.TableLayout.{collation}
use Rattle.coll_syntax.specs.Identifier.{same_name}
use Rattle.coll_advice.proofs.LookUps.{own_by_name, not_own}
use Rattle.coll_advice.proofs.identifiers.is_own_name.Goals as goal

pub returns-in-Some : goal.returns-in-Some
returns-in-Some c =
    let declared = (collation c.args.table.now).declared in
    let built = c.lemma_well_formed.ensures.well_formed.built in
    let found : own_name declared c.args.name.now ≡ Some (chars c.in-Some.own.now) =
    ap (own_name declared) (sym c.get.ensures.characters) ∙ (sym c.resolve.ensures ∙ ap (option_map (λ (own : Bor (List ℕ)). chars own.now)) c.in-Some.is) in
    c.is_same_text.ensures ∙ (ap (same_name (chars c.in-Some.own.now)) c.get-in-Some.ensures.characters
    ∙ own_by_name declared c.args.name.now (chars c.in-Some.own.now) built.meant built.distinct_names found)

pub returns-in-None : goal.returns-in-None
returns-in-None c =
    let declared = (collation c.args.table.now).declared in
    let absent : own_name declared c.args.name.now ≡ None =
    ap (own_name declared) (sym c.get.ensures.characters) ∙ (sym c.resolve.ensures ∙ ap (option_map (λ (own : Bor (List ℕ)). chars own.now)) c.in-None.is) in
    not_own declared c.args.name.now c.lemma_well_formed.ensures.well_formed.built.distinct_names absent
