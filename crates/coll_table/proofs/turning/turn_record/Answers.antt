-- All items are written.
use Rattle.std.proofs.Common.{ap, ◌∙◌, length}
use Rattle.coll_table.proofs.RecordFlips.{all_written}
use Rattle.coll_table.specs.Record.{turned_items}
use Rattle.coll_table.proofs.turning.turn_record.Goals as goal

pub returns-clause-items : goal.returns-clause-items
returns-clause-items c =
    let turns = c.turn_items-count.ensures in
    all_written c.args.kept.now.items c.turn_items-count.new.items (turns.len ∙ ap length c.get_mut.ensures.value)
    ∙ (turns.items ∙ ap (turned_items c.args.kept.now.undone c.args.body.now.layout) c.get_mut.ensures.value)
