-- A key is put in where its name is, and its node beside it.
use Rattle.std.proofs.Common.{refl, sym, ap, ap₂, slice_index_or, None, ◌∙◌, length, arith}
use Rattle.std.proofs.lemmas.Str.{length-le-encodes}
use Rattle.coll_lookups.specs.NameKeys.{same_bytes}
use Rattle.coll_lookups.proofs.PairedNodes.{paired_found, paired_put, paired_put_as, paired_length}
use Rattle.coll_lookups.proofs.NameNodes.{found_name_node, inserted_name_leads, inserted_name_keys, inserted_name_good, inserted_name_within}
use Rattle.coll_lookups.proofs.node_names.NodeNames.put.Goals as goal

pub invariant_of-self-2 : goal.invariant_of-self-2
invariant_of-self-2 c =
    let p = c.self.inside in
    let key = c.in_ok-key.key in
    let spelled = length-le-encodes c.args.name.now in
    let bytes = ap length c.get.ensures.bytes in
    let same = ap length c.in_ok-key.ensures.name in
    let most = c.max-self-inside.ensures in
    rw (c.put_node.ensures.put, c.in_ok-reserve.ensures.items, c.in_ok-place.ensures.ok, c.in_ok-place.ensures.place) (
      paired_length same_bytes key c.args.node p.names.value p.nodes.items c.self.invariant.0,
      rw (paired_put same_bytes key c.args.node p.names.value p.nodes.items c.self.invariant.0)
          (inserted_name_good _ key c.args.node c.self.invariant.1 c.in_ok-key.ensures.text),
      rw (paired_put same_bytes key c.args.node p.names.value p.nodes.items c.self.invariant.0)
          (inserted_name_within _ _ _ key c.args.node (omega (arith, most)) c.self.invariant.2 (omega (arith, most, spelled, bytes, same))),
    )

pub returns-clause-ok : goal.returns-clause-ok
returns-clause-ok c =
    let p = c.self.inside in
    let key = c.in_ok-key.key in
    rw (
      ← c.self.view_is,
      ← c.in_ok-key.ensures.name,
      paired_put_as same_bytes key c.args.node p.names.value _ p.nodes.items _ _ _ c.self.invariant.0 c.in_ok-place.ensures.ok
          c.in_ok-reserve.ensures.items c.in_ok-place.ensures.place c.put_node.ensures.put,
    )
    (inserted_name_leads _ key c.args.node c.self.invariant.1 c.in_ok-key.ensures.text)

pub returns-clause-keys : goal.returns-clause-keys
returns-clause-keys c =
    let p = c.self.inside in
    let key = c.in_ok-key.key in
    rw (
      ← c.self.view_is,
      ← c.in_ok-key.ensures.name,
      paired_put_as same_bytes key c.args.node p.names.value _ p.nodes.items _ _ _ c.self.invariant.0 c.in_ok-place.ensures.ok
          c.in_ok-reserve.ensures.items c.in_ok-place.ensures.place c.put_node.ensures.put,
    )
    (inserted_name_keys _ key c.args.node c.self.invariant.1 c.in_ok-key.ensures.text)

pub returns-clause-led : goal.returns-clause-led
returns-clause-led c =
    let p = c.self.inside in
    rw (← c.self.view_is, ← c.in_ok-key.ensures.name)
    (c.put_node.ensures.led ∙ (ap₂ (λ vs place. slice_index_or vs place None) c.in_ok-reserve.ensures.items c.in_ok-place.ensures.place
    ∙ (sym (paired_found _ p.names.value p.nodes.items c.self.invariant.0)
    ∙ sym (found_name_node _ _ refl c.in_ok-key.ensures.text _ c.self.invariant.1))))
