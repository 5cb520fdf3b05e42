-- Each kind of declaration has its line.
use Rattle.std.proofs.Common.{codes, [], ◌∷◌, ◌++◌, ap, ◌∙◌, rules}
use Rattle.std.specs.Prelude.{chars}
use Rattle.coll_texts.specs.PrintedParts.{symbol_bytes, element_bytes, names_bytes, declaration_bytes}
use Rattle.coll_nodes.specs.WalkItems.{declared_by}
use Rattle.coll_texts.proofs.PrintedParts.{sends_same, symbol_parts, element_parts, equivalence_parts}
use Rattle.coll_texts.proofs.spelled_lines.write_declaration.Goals as goal

pub returns-in-Symbol : goal.returns-in-Symbol
returns-in-Symbol g c =
    let taken = g.W.Sink.taken in
    let name = chars c.in-Symbol.name.now in
    record {
      sent = sends_same (taken c.args.out.now) (taken c.write_named.new.out) (declaration_bytes (declared_by c.args.item)) (codes "collating-symbol " ++
          (symbol_bytes name ++ 10 ∷ [])) c.write_named.result
          (ap (λ item. declaration_bytes (declared_by item)) c.in-Symbol.is ∙ symbol_parts name) c.write_named.ensures.sent;
      errors = search rules;
    }

pub returns-in-Element : goal.returns-in-Element
returns-in-Element g c =
    let taken = g.W.Sink.taken in
    let name = chars c.in-Element.name.now in
    let text = chars c.in-Element.text.now in
    record {
      sent = sends_same (taken c.args.out.now) (taken c.write_element.new.out) (declaration_bytes (declared_by c.args.item))
          (codes "collating-element " ++ element_bytes name text) c.write_element.result
          (ap (λ item. declaration_bytes (declared_by item)) c.in-Element.is ∙ element_parts name text) c.write_element.ensures.sent;
      errors = search rules;
    }

pub returns-in-Equivalence : goal.returns-in-Equivalence
returns-in-Equivalence g c =
    let taken = g.W.Sink.taken in
    let name = chars c.in-Equivalence.name.now in
    let symbol = chars c.in-Equivalence.symbol.now in
    record {
      sent = sends_same (taken c.args.out.now) (taken c.write_two_names.new.out) (declaration_bytes (declared_by c.args.item)) (codes "symbol-equivalence " ++ names_bytes name symbol)
          c.write_two_names.result
          (ap (λ item. declaration_bytes (declared_by item)) c.in-Equivalence.is ∙ equivalence_parts name symbol) c.write_two_names.ensures.sent;
      errors = search rules;
    }
