-- Each item is its lines.
use Rattle.std.proofs.Common.{◌∙◌, rules}
use Rattle.coll_nodes.specs.TableLayout.{collation}
use Rattle.coll_nodes.specs.WalkItems.{visited_by}
use Rattle.coll_import.specs.Exports.{visited_told}
use Rattle.coll_texts.proofs.PrintedParts.{written_prefix, written_more}
use Rattle.coll_import.proofs.exports.write_symbols.Goals as goal

pub returns-in-Err : goal.returns-in-Err
returns-in-Err g c =
    record {
      sent = let taken = g.W.Sink.taken in
          written_prefix (visited_told c.args.file.now (collation c.args.table.now).declared) c.args.walk c.symbols.left c.next.new.self (visited_by c.in-Some.item) (taken c.args.out.now)
          (taken c.symbols.out)
          (taken c.write_if_visited.new.out) c.in-Some.ensures.steps c.symbols.invariant.sent c.in-Err.ensures.sent;
      errors = search rules;
    }

pub symbols-preserved : goal.symbols-preserved
symbols-preserved g c =
    let taken = g.W.Sink.taken in
    record {
      sent = written_more (visited_told c.args.file.now (collation c.args.table.now).declared) c.args.walk c.symbols.left c.next.new.self (visited_by c.in-Some.item) (taken c.args.out.now)
          (taken c.symbols.out) (taken c.write_if_visited.new.out)
          c.in-Some.ensures.steps c.symbols.invariant.sent c.in_default-write_if_visited.ensures.sent;
      count = c.in_default-write_if_visited.ensures.errors ∙ c.symbols.invariant.count;
    }
