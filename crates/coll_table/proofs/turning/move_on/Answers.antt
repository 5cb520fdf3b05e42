-- A node that goes from a place stands in a ring, and one that is put in is loose.
use Rattle.std.proofs.Common.{◌∙◌}
use Rattle.coll_table.proofs.TurningSteps.{from_linked, from_nowhere, put_loose, suits_loose}
use Rattle.coll_table.proofs.turning.move_on.Goals as goal

pub relink-requires-clause-linked : goal.relink-requires-clause-linked
relink-requires-clause-linked c =
    let item = c.args.item.now in
    from_linked item.new item.old c.args.body.now.layout item.node c.in-Some.place c.in-Some-old.field-0 c.in-Some.is c.in-Some-old.is c.requires.goes

pub put_in-requires-clause-suits : goal.put_in-requires-clause-suits
put_in-requires-clause-suits c =
    let item = c.args.item.now in
    suits_loose c.args.body.now.layout item.node c.in-Some.place (from_nowhere item.new item.old c.args.body.now.layout item.node c.in-Some.place c.in-Some.is c.in-None.is c.requires.goes)

pub returns-in-None-clause-layout : goal.returns-in-None-clause-layout
returns-in-None-clause-layout c =
    let item = c.args.item.now in
    let goes = from_nowhere item.new item.old c.args.body.now.layout item.node c.in-Some.place c.in-Some.is c.in-None.is c.requires.goes in
    c.put_in.ensures.layout ∙ put_loose item.new c.args.body.now.layout item.node c.in-Some.place c.in-Some.is goes.stands
