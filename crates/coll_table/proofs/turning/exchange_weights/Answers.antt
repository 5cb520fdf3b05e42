-- Where no weights are given, nothing changes.
use Rattle.std.proofs.Common.{ap, sym, ◌∙◌}
use Rattle.coll_nodes.proofs.TurningNodes.{weighed_none}
use Rattle.coll_nodes.specs.Moving.{weighed_nodes}
use Rattle.coll_table.proofs.turning.exchange_weights.Goals as goal

pub returns-in_default-clause-nodes : goal.returns-in_default-clause-nodes
returns-in_default-clause-nodes c =
    let layout = c.args.body.now.layout in
    ap (λ nodes. record layout { nodes = nodes }) (sym (ap (λ weights. weighed_nodes c.args.node weights layout.nodes) c.in_default.is ∙ weighed_none c.args.node layout.nodes))
