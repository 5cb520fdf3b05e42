-- The name of a section has its line.
use Rattle.std.proofs.Common.{codes, [], ◌∷◌, ◌++◌, ap, ◌∙◌, rules}
use Rattle.std.specs.Prelude.{chars}
use Rattle.coll_nodes.specs.WalkItems.{visited_by}
use Rattle.coll_texts.specs.ExportedParts.{noted_bytes}
use Rattle.coll_texts.specs.PrintedParts.{symbol_bytes}
use Rattle.coll_texts.proofs.PrintedParts.{sends_same}
use Rattle.coll_texts.proofs.ExportedParts.{script_parts}
use Rattle.coll_texts.proofs.exported_texts.write_noted.Goals as goal

pub returns-in-Section : goal.returns-in-Section
returns-in-Section g c =
    let taken = g.W.Sink.taken in
    let name = chars c.in-Section.name.now in
    record {
      sent = sends_same (taken c.args.out.now) (taken c.write_named.new.out) (noted_bytes (visited_by c.args.item)) (codes "script " ++ (symbol_bytes name ++ 10 ∷ [])) c.write_named.result
          (ap (λ item. noted_bytes (visited_by item)) c.in-Section.is ∙ script_parts name) c.write_named.ensures.sent;
      errors = search rules;
    }
