-- Each stop leaves a prefix of the text, and at the end all of it is written.
use Rattle.std.proofs.Common.{List, ◌++◌, ℕ, codes, refl, rules}
use Rattle.std.specs.List.{flat_map}
use Rattle.coll_devices.proofs.WritingLemmas.{Sends-after}
use Rattle.coll_nodes.specs.Walks.{Visited}
use Rattle.coll_syntax.specs.declared.rules.Rule.{Rule}
use Rattle.coll_texts.specs.CanonicalText.{line_bytes, rules_line}
use Rattle.coll_texts.specs.PrintedParts.{opening_bytes, visited_bytes}
use Rattle.coll_texts.proofs.PrintedParts.{stops_first}
use Rattle.coll_texts.proofs.canonical_texts.write_table.Goals as goal

abbrev end : List ℕ
end = codes "order_end\nEND LC_COLLATE\n"

-- what is behind the rules, and behind the declarations
abbrev sections : List Visited → List ℕ
sections items = flat_map visited_bytes items ++ end

abbrev order : List Rule → List Visited → List ℕ
order rules items = line_bytes (rules_line rules) ++ sections items

pub returns-in_err-write_opening : goal.returns-in_err-write_opening
returns-in_err-write_opening g c =
    let taken = g.W.Sink.taken in
    let a = c.args in
    record {
      sent = stops_first (taken a.out.now) (taken c.write_opening.new.out) _ (opening_bytes a.declared) (order a.rules.now a.walk) c.from_residual.result refl c.from_residual.ensures.0
          c.in_err-write_opening.ensures.sent;
      errors = search rules;
    }

pub returns-in_err-write_rules_line : goal.returns-in_err-write_rules_line
returns-in_err-write_rules_line g c =
    let taken = g.W.Sink.taken in
    let a = c.args in
    let t = taken c.write_rules_line.new.out in
    let r = c.from_residual-in_err-write_rules_line.result in
    record {
      sent = Sends-after (taken a.out.now) (taken c.write_opening.new.out) t (opening_bytes a.declared) (order a.rules.now a.walk) r c.in_ok-write_opening.ensures.sent
          (stops_first (taken c.write_opening.new.out) t _ (line_bytes (rules_line a.rules.now)) (sections a.walk) r refl c.from_residual-in_err-write_rules_line.ensures.0
          c.in_err-write_rules_line.ensures.sent);
      errors = search rules;
    }

pub returns-in_err-write_walk : goal.returns-in_err-write_walk
returns-in_err-write_walk g c =
    let taken = g.W.Sink.taken in
    let a = c.args in
    let t = taken c.write_walk.new.out in
    let r = c.from_residual-in_err-write_walk.result in
    record {
      sent = Sends-after (taken a.out.now) (taken c.write_opening.new.out) t (opening_bytes a.declared) (order a.rules.now a.walk) r c.in_ok-write_opening.ensures.sent
          (Sends-after (taken c.write_opening.new.out) (taken c.write_rules_line.new.out) t (line_bytes (rules_line a.rules.now)) (sections a.walk) r c.in_ok-write_rules_line.ensures.sent
          (stops_first (taken c.write_rules_line.new.out) t _ (flat_map visited_bytes a.walk) end r refl c.from_residual-in_err-write_walk.ensures.0 c.in_err-write_walk.ensures.sent));
      errors = search rules;
    }

pub returns : goal.returns
returns g c =
    let taken = g.W.Sink.taken in
    let a = c.args in
    let t = taken c.write_bytes.new.out in
    let r = c.write_bytes.result in
    record {
      sent = Sends-after (taken a.out.now) (taken c.write_opening.new.out) t (opening_bytes a.declared) (order a.rules.now a.walk) r c.in_ok-write_opening.ensures.sent
          (Sends-after (taken c.write_opening.new.out) (taken c.write_rules_line.new.out) t (line_bytes (rules_line a.rules.now)) (sections a.walk) r c.in_ok-write_rules_line.ensures.sent
          (Sends-after (taken c.write_rules_line.new.out) (taken c.write_walk.new.out) t (flat_map visited_bytes a.walk) end r c.in_ok-write_walk.ensures.sent c.write_bytes.ensures.sent));
      errors = search rules;
    }
