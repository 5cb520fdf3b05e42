-- A name that is a key is made to lead elsewhere.
use Rattle.std.proofs.Common.{◌≡◌, true, is_some, zip, length-set, sym, ap, ◌∙◌}
use Rattle.std.proofs.lemmas.Bool.{false≢true}
use Rattle.coll_lookups.specs.NodeLookUps.{is_name_key}
use Rattle.coll_lookups.specs.NodeMaps.{names_lead}
use Rattle.coll_lookups.proofs.PairedNodes.{paired_key, paired_set_at}
use Rattle.coll_lookups.proofs.NameNodes.{found_name_key, set_name_leads, set_name_keys, set_name_good, set_name_within}
use Rattle.coll_lookups.proofs.node_names.NodeNames.set.Goals as goal

pub unreachable-requires : goal.unreachable-requires
unreachable-requires c =
    let p = c.self.inside in
    let there : is_name_key (names_lead (zip p.names.value p.nodes.items)) c.args.name.now ≡ true = rw c.self.view_is c.requires in
    absurd (false≢true (ap is_some (sym c.in_default.is) ∙ ((rw c.deref.ensures at c.place.ensures.found) ∙ (sym (paired_key _ p.names.value p.nodes.items c.self.invariant.0)
    ∙ (sym (found_name_key _ _ c.get.ensures.bytes c.get.ensures.characters _ c.self.invariant.1) ∙ there)))))

pub invariant_of-self : goal.invariant_of-self
invariant_of-self c =
    let p = c.self.inside in
    let written = paired_set_at _ p.names.value p.nodes.items c.in-Some.place c.args.node c.self.invariant.0 (sym (rw c.deref.ensures at c.place.ensures.index) ∙ c.in-Some.is) in (
      c.self.invariant.0 ∙ sym (length-set p.nodes.items c.in-Some.place c.args.node),
      rw written (set_name_good _ _ c.args.node c.self.invariant.1),
      rw written (set_name_within _ _ _ c.args.node c.self.invariant.2),
    )

pub returns-clause-set : goal.returns-clause-set
returns-clause-set c =
    let p = c.self.inside in
    let written = paired_set_at _ p.names.value p.nodes.items c.in-Some.place c.args.node c.self.invariant.0 (sym (rw c.deref.ensures at c.place.ensures.index) ∙ c.in-Some.is) in
    let there : is_name_key (names_lead (zip p.names.value p.nodes.items)) c.args.name.now ≡ true = rw c.self.view_is c.requires in
    rw (← c.self.view_is, written) (set_name_leads _ _ c.get.ensures.bytes c.get.ensures.characters _ c.args.node c.self.invariant.1 there)

pub returns-clause-keys : goal.returns-clause-keys
returns-clause-keys c =
    let p = c.self.inside in
    let written = paired_set_at _ p.names.value p.nodes.items c.in-Some.place c.args.node c.self.invariant.0 (sym (rw c.deref.ensures at c.place.ensures.index) ∙ c.in-Some.is) in
    rw (← c.self.view_is, written) (set_name_keys _ (zip p.names.value p.nodes.items) c.args.node)
