-- A node is found by the bytes of a name.
use Rattle.std.proofs.Common.{◌∙◌, sym, ap, is_some, refl}
use Rattle.std.proofs.lemmas.Str.{encodes-chars}
use Rattle.coll_lookups.proofs.PairedNodes.{paired_node, paired_none}
use Rattle.coll_lookups.proofs.NameNodes.{found_name_node}
use Rattle.coll_lookups.proofs.node_names.NodeNames.find_text.Goals as goal

pub returns-in-Some : goal.returns-in-Some
returns-in-Some c =
    rw (← c.self.view_is)
    (paired_node _ c.self.inside.names.value c.self.inside.nodes.items c.in-Some.place c.index.result.now c.self.invariant.0 (sym (rw c.deref.ensures at c.place.ensures.index)
    ∙ c.in-Some.is) c.index.ensures
    ∙ sym (found_name_node _ _ (encodes-chars _ c.utf8.name) refl _ c.self.invariant.1))

pub returns-in-None : goal.returns-in-None
returns-in-None c =
    rw (← c.self.view_is)
    (paired_none _ c.self.inside.names.value c.self.inside.nodes.items c.self.invariant.0 (sym (rw c.deref.ensures at c.place.ensures.found) ∙ ap is_some c.in-None.is)
    ∙ sym (found_name_node _ _ (encodes-chars _ c.utf8.name) refl _ c.self.invariant.1))
