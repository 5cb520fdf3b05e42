-- A section and an entry have their lines.
use Rattle.std.proofs.Common.{ap, ◌∙◌, rules}
use Rattle.std.specs.Prelude.{chars}
use Rattle.coll_nodes.specs.WalkItems.{visited_by}
use Rattle.coll_texts.specs.CanonicalText.{entry_line, line_bytes}
use Rattle.coll_texts.specs.ExportedParts.{next_bytes, walked_bytes}
use Rattle.coll_texts.proofs.PrintedParts.{sends_same}
use Rattle.coll_texts.proofs.ExportedParts.{entry_alone, next_parts}
use Rattle.coll_texts.proofs.exported_texts.write_walked.Goals as goal

pub returns-in-Section : goal.returns-in-Section
returns-in-Section g c =
    let taken = g.W.Sink.taken in
    let later = c.args.rules.now in
    let name = chars c.in-Section.name.now in
    record {
      sent = sends_same (taken c.args.out.now) (taken c.write_next.new.out) (walked_bytes later (visited_by c.args.item)) (next_bytes later name) c.write_next.result
          (ap (λ item. walked_bytes later (visited_by item)) c.in-Section.is ∙ next_parts later name) c.write_next.ensures.sent;
      errors = search rules;
    }

pub returns-in-Entry : goal.returns-in-Entry
returns-in-Entry g c =
    let taken = g.W.Sink.taken in
    let later = c.args.rules.now in
    let entry = c.in-Entry.entry.now in
    record {
      sent = sends_same (taken c.args.out.now) (taken c.write_entry.new.out) (walked_bytes later (visited_by c.args.item)) (line_bytes (entry_line entry)) c.write_entry.result
          (ap (λ item. walked_bytes later (visited_by item)) c.in-Entry.is ∙ entry_alone later entry) c.write_entry.ensures.sent;
      errors = search rules;
    }
