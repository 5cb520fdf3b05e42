use Rattle.std.proofs.Common.{sym, ◌∙◌, rules}
use Rattle.coll_lex.proofs.ScanLines.{part_more, part_all}
use Rattle.coll_lex.proofs.scanning.Scan.take_line.Goals as goal

pub parts-preserved : goal.parts-preserved
parts-preserved c = record {
  taken = part_more c.args.special c.args.self.now c.parts.self c.take_part.new.self c.args.line.now c.parts.rest.now c.in_ok-rest.rest.now c.parts.invariant.taken (sym c.is_empty.ensures ∙ c.parts-test.true) c.in_ok-rest.ensures.ok;
  text = search rules;
}

pub returns-clause-ok : goal.returns-clause-ok
returns-clause-ok c =
    part_all c.args.special c.args.self.now c.parts.self c.args.line.now c.parts.rest.now c.requires c.parts.invariant.taken (sym c.is_empty.ensures ∙ c.parts-test.false)
