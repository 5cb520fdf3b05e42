-- Each turn of the loop prepares one line more.
use Rattle.std.proofs.Common.{◌∷◌, ◌++◌, [], ap, ◌∙◌}
use Rattle.coll_table.proofs.PreparedLemmas.{line_prepared, none_prepared}
use Rattle.coll_table.proofs.tables.Table.prepare_lines.Goals as goal

pub loop-line-init : goal.loop-line-init
loop-line-init c = none_prepared c.args.self.now c.args.target c.args.lines.now c.args.items.now.items c.requires.none

pub loop-line-preserved : goal.loop-line-preserved
loop-line-preserved c =
    line_prepared c.args.self.now c.loop-line.self c.prepare_line.new.self c.args.target c.args.lines.now c.loop-line.line-index c.loop-line.items.items c.loop-line.before c.line-item.result
    c.in_ok-item.item c.push_reserved.new.self.items
    c.loop-line.invariant c.loop-line-test.true c.line-item.is c.in_ok-item.ensures.prepared c.in_ok-item.ensures.added
    (c.push_reserved.ensures.items ∙ ap (λ items. items ++ c.in_ok-item.item ∷ []) c.in_ok-reserve.ensures.items)
