-- A section is found by its name alone.
use Rattle.coll_nodes.proofs.KeyedNodes.{section_keys_if}
use Rattle.coll_nodes.proofs.node_keys.NodeKeys.reserve.Goals as goal

pub returns-in-Begun-clause-keys : goal.returns-in-Begun-clause-keys
returns-in-Begun-clause-keys c = section_keys_if c.reserve_section.result c.reserve_section.new.self c.in-Begun.name c.in-Begun.ring c.args.node.now c.in-Begun.is c.reserve_section.ensures.keys
