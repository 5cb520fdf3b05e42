-- A symbol is its name behind a word.
use Rattle.std.proofs.Common.{subst, sym, rules}
use Rattle.coll_devices.specs.Devices.{Sends}
use Rattle.coll_nodes.specs.WalkItems.{declared_by}
use Rattle.coll_nodes.specs.declared.walks.DeclaredItem.{DeclaredItem}
use Rattle.coll_differences.specs.Lines.{declaration_told}
use Rattle.coll_differences.proofs.lines.write_declaration.Goals as goal

pub returns-in-Symbol : goal.returns-in-Symbol
returns-in-Symbol g c =
    let taken = g.W.Sink.taken in
    record {
      sent = subst (λ (item : DeclaredItem). Sends (taken c.args.out.now) (taken c.write_named.new.out) (declaration_told (declared_by item)) c.write_named.result) (sym c.in-Symbol.is)
          c.write_named.ensures.sent;
      errors = search rules;
    }
