-- Each stop leaves a prefix of the text, and at the end all of it is written.
use Rattle.std.proofs.Common.{ℕ, List, ◌++◌, codes, refl, rules}
use Rattle.std.specs.List.{flat_map}
use Rattle.coll_devices.proofs.WritingLemmas.{Sends-after}
use Rattle.coll_nodes.specs.Walks.{Visited}
use Rattle.coll_syntax.specs.declared.rules.Rule.{Rule}
use Rattle.coll_texts.specs.CanonicalText.{line_bytes, rules_line}
use Rattle.coll_texts.specs.ExportedParts.{noted_bytes, walked_bytes}
use Rattle.coll_texts.specs.PrintedParts.{opening_bytes}
use Rattle.coll_texts.proofs.PrintedParts.{stops_first}
use Rattle.coll_texts.proofs.exported_texts.write_exported.Goals as goal

abbrev end : List ℕ
end = codes "order_end\nEND LC_COLLATE\n"

-- what is behind the rules, behind the names of the sections, and behind the declarations
abbrev sections : List Rule → List Visited → List ℕ
sections rules items = flat_map (walked_bytes rules) items ++ end

abbrev order : List Rule → List Visited → List ℕ
order rules items = line_bytes (rules_line rules) ++ sections rules items

abbrev noted : List Rule → (names items : List Visited) → List ℕ
noted rules names items = flat_map noted_bytes names ++ order rules items

pub returns-in_err-write_opening : goal.returns-in_err-write_opening
returns-in_err-write_opening g c =
    let taken = g.W.Sink.taken in
    let a = c.args in
    record {
      sent = stops_first (taken a.out.now) (taken c.write_opening.new.out) _ (opening_bytes a.declared) (noted a.rules.now a.names a.walk) c.from_residual.result refl c.from_residual.ensures.0
          c.in_err-write_opening.ensures.sent;
      errors = search rules;
    }

pub returns-in_err-write_names : goal.returns-in_err-write_names
returns-in_err-write_names g c =
    let taken = g.W.Sink.taken in
    let a = c.args in
    let t = taken c.write_names.new.out in
    let r = c.from_residual-in_err-write_names.result in
    record {
      sent = Sends-after (taken a.out.now) (taken c.write_opening.new.out) t (opening_bytes a.declared) (noted a.rules.now a.names a.walk) r c.in_ok-write_opening.ensures.sent
          (stops_first (taken c.write_opening.new.out) t _ (flat_map noted_bytes a.names) (order a.rules.now a.walk) r refl c.from_residual-in_err-write_names.ensures.0
          c.in_err-write_names.ensures.sent);
      errors = search rules;
    }

pub returns-in_err-write_rules_line : goal.returns-in_err-write_rules_line
returns-in_err-write_rules_line g c =
    let taken = g.W.Sink.taken in
    let a = c.args in
    let t = taken c.write_rules_line.new.out in
    let r = c.from_residual-in_err-write_rules_line.result in
    record {
      sent = Sends-after (taken a.out.now) (taken c.write_opening.new.out) t (opening_bytes a.declared) (noted a.rules.now a.names a.walk) r c.in_ok-write_opening.ensures.sent
          (Sends-after (taken c.write_opening.new.out) (taken c.write_names.new.out) t (flat_map noted_bytes a.names) (order a.rules.now a.walk) r c.in_ok-write_names.ensures.sent
          (stops_first (taken c.write_names.new.out) t _ (line_bytes (rules_line a.rules.now)) (sections a.rules.now a.walk) r refl c.from_residual-in_err-write_rules_line.ensures.0
          c.in_err-write_rules_line.ensures.sent));
      errors = search rules;
    }

pub returns-in_err-write_sections : goal.returns-in_err-write_sections
returns-in_err-write_sections g c =
    let taken = g.W.Sink.taken in
    let a = c.args in
    let t = taken c.write_sections.new.out in
    let r = c.from_residual-in_err-write_sections.result in
    record {
      sent = Sends-after (taken a.out.now) (taken c.write_opening.new.out) t (opening_bytes a.declared) (noted a.rules.now a.names a.walk) r c.in_ok-write_opening.ensures.sent
          (Sends-after (taken c.write_opening.new.out) (taken c.write_names.new.out) t (flat_map noted_bytes a.names) (order a.rules.now a.walk) r c.in_ok-write_names.ensures.sent
          (Sends-after (taken c.write_names.new.out) (taken c.write_rules_line.new.out) t (line_bytes (rules_line a.rules.now)) (sections a.rules.now a.walk) r c.in_ok-write_rules_line.ensures.sent
          (stops_first (taken c.write_rules_line.new.out) t _ (flat_map (walked_bytes a.rules.now) a.walk) end r refl c.from_residual-in_err-write_sections.ensures.0
          c.in_err-write_sections.ensures.sent)));
      errors = search rules;
    }

pub returns : goal.returns
returns g c =
    let taken = g.W.Sink.taken in
    let a = c.args in
    let t = taken c.write_bytes.new.out in
    let r = c.write_bytes.result in
    record {
      sent = Sends-after (taken a.out.now) (taken c.write_opening.new.out) t (opening_bytes a.declared) (noted a.rules.now a.names a.walk) r c.in_ok-write_opening.ensures.sent
          (Sends-after (taken c.write_opening.new.out) (taken c.write_names.new.out) t (flat_map noted_bytes a.names) (order a.rules.now a.walk) r c.in_ok-write_names.ensures.sent
          (Sends-after (taken c.write_names.new.out) (taken c.write_rules_line.new.out) t (line_bytes (rules_line a.rules.now)) (sections a.rules.now a.walk) r c.in_ok-write_rules_line.ensures.sent
          (Sends-after (taken c.write_rules_line.new.out) (taken c.write_sections.new.out) t (flat_map (walked_bytes a.rules.now) a.walk) end r c.in_ok-write_sections.ensures.sent
          c.write_bytes.ensures.sent)));
      errors = search rules;
    }
