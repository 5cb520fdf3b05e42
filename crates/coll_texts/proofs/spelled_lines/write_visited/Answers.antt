-- A section and an entry have their lines.
use Rattle.std.proofs.Common.{codes, [], ◌∷◌, ◌++◌, ap, ◌∙◌, rules}
use Rattle.std.specs.Prelude.{chars}
use Rattle.coll_texts.specs.CanonicalText.{entry_line, line_bytes}
use Rattle.coll_texts.specs.PrintedParts.{symbol_bytes, visited_bytes}
use Rattle.coll_nodes.specs.WalkItems.{visited_by}
use Rattle.coll_texts.proofs.PrintedParts.{sends_same, section_parts}
use Rattle.coll_texts.proofs.spelled_lines.write_visited.Goals as goal

pub returns-in-Section : goal.returns-in-Section
returns-in-Section g c =
    let taken = g.W.Sink.taken in
    let name = chars c.in-Section.name.now in
    record {
      sent = sends_same (taken c.args.out.now) (taken c.write_named.new.out) (visited_bytes (visited_by c.args.item)) (codes "section " ++ (symbol_bytes name ++ 10 ∷ [])) c.write_named.result
          (ap (λ item. visited_bytes (visited_by item)) c.in-Section.is ∙ section_parts name) c.write_named.ensures.sent;
      errors = search rules;
    }

pub returns-in-Entry : goal.returns-in-Entry
returns-in-Entry g c =
    let taken = g.W.Sink.taken in
    record {
      sent = sends_same (taken c.args.out.now) (taken c.write_entry.new.out) (visited_bytes (visited_by c.args.item)) (line_bytes (entry_line c.in-Entry.entry.now)) c.write_entry.result
          (ap (λ item. visited_bytes (visited_by item)) c.in-Entry.is) c.write_entry.ensures.sent;
      errors = search rules;
    }
