-- An item that gets a place moves its node.
use Rattle.std.proofs.Common.{subst}
use Rattle.coll_nodes.specs.TableLayout.{content_of}
use Rattle.coll_table.specs.Following.{ItemGoesAmong}
use Rattle.coll_table.proofs.following.follow_item.Goals as goal

pub returns : goal.returns
returns c = λ done old new most small goes numbered.
    c.follow_node.ensures done old new most small
    (subst (λ gets. ItemGoesAmong gets (content_of c.args.body.now.layout c.args.item.now.node) c.args.had c.args.has c.args.item.now.node old new) c.in-Some.is goes) numbered
