-- A walk through declarations begins with the first.
use Rattle.std.proofs.Common.{ap, ◌∙◌}
use Rattle.coll_order.specs.Lists.{first_in}
use Rattle.coll_nodes.specs.TableLayout.{nodes_in}
use Rattle.coll_nodes.proofs.WalkLemmas.{visited_first_declared}
use Rattle.coll_nodes.proofs.walks.Declared.new.Goals as goal

pub returns : goal.returns
returns c =
    let layout = c.args.nodes.now.layout in
    visited_first_declared layout c.first.result (c.first.ensures ∙ ap (λ ring. first_in (nodes_in layout ring)) c.requires.ring)
