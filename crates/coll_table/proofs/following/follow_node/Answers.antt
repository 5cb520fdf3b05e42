-- What is an entry follows its node.
use Rattle.std.proofs.Common.{Some, ap, subst, ◌∙◌}
use Rattle.coll_table.specs.Following.{NodeGoes}
use Rattle.coll_table.proofs.following.follow_node.Goals as goal

pub returns-in-Placed : goal.returns-in-Placed
returns-in-Placed c = λ done old new most small goes numbered.
    let own = subst (λ it. NodeGoes it c.args.had c.args.has c.args.node old new) (c.content.ensures ∙ ap Some c.in-Placed.is) goes in
    c.follow_entry.ensures done old own.0 new most small own.1 numbered
