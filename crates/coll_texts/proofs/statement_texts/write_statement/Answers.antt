-- The line that moves a section.
use Rattle.std.proofs.Common.{codes, ◌++◌, ap, ◌∙◌, rules}
use Rattle.coll_texts.specs.PrintedParts.{names_bytes}
use Rattle.coll_texts.specs.StatementText.{section_after_line, statement_bytes}
use Rattle.coll_texts.proofs.PrintedParts.{sends_same, one_line, section_after_parts}
use Rattle.coll_texts.proofs.statement_texts.write_statement.Goals as goal

pub returns-in-SectionAfter : goal.returns-in-SectionAfter
returns-in-SectionAfter g c =
    let taken = g.W.Sink.taken in
    let moved = c.in-SectionAfter.moved in
    let after = c.in-SectionAfter.after in
    let part = rw (c.get-in-SectionAfter.ensures.characters, c.get-in-SectionAfter-2.ensures.characters) at c.write_two_names.ensures.sent in
    record {
      sent = sends_same (taken c.args.out.now) (taken c.write_two_names.new.out) (statement_bytes c.args.statement.now)
          (codes "reorder-section-after " ++ names_bytes moved after) c.write_two_names.result
          (ap statement_bytes c.in-SectionAfter.is ∙ one_line (section_after_line moved after) ∙ section_after_parts moved after) part;
      errors = search rules;
    }
