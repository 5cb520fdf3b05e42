-- A name that means a symbol is a second name, and one that means none is its own.
use Rattle.std.proofs.Common.{ap, sym, ◌∙◌}
use Rattle.std.specs.Prelude.{option_copied}
use Rattle.coll_order.proofs.Sameness.{not_both}
use Rattle.coll_syntax.specs.declared.statements.Statement.TheVariants as statement
use Rattle.coll_nodes.specs.TableLayout.{declared_at}
use Rattle.coll_statements.proofs.SecondNames.{told, meant_second, not_meant_own, on_err}
use Rattle.coll_statements.proofs.own_statements.own_equivalence.Goals as goal

pub returns-in_err-symbol-in-Some-clause-memory : goal.returns-in_err-symbol-in-Some-clause-memory
returns-in_err-symbol-in-Some-clause-memory c =
    let declared = declared_at c.args.body.now.layout in
    on_err _ _ (meant_second declared c.args.symbol.now c.in-Some.own.now (told declared c.args.symbol.now _ _ c.get.ensures.characters c.symbol_meant.ensures ∙ ap option_copied c.in-Some.is))

pub returns-in_err-name-in-Some-clause-memory : goal.returns-in_err-name-in-Some-clause-memory
returns-in_err-name-in-Some-clause-memory c =
    let declared = declared_at c.args.body.now.layout in
    on_err _ _ (meant_second declared c.args.symbol.now c.in-Some.own.now (told declared c.args.symbol.now _ _ c.get.ensures.characters c.symbol_meant.ensures ∙ ap option_copied c.in-Some.is))

pub returns-in_ok-name-in-Some-clause-kept : goal.returns-in_ok-name-in-Some-clause-kept
returns-in_ok-name-in-Some-clause-kept c =
    let declared = declared_at c.args.body.now.layout in
    λ absent. not_both (meant_second declared c.args.symbol.now c.in-Some.own.now (told declared c.args.symbol.now _ _ c.get.ensures.characters c.symbol_meant.ensures ∙ ap option_copied c.in-Some.is))
    absent

pub returns-in-None-clause-own : goal.returns-in-None-clause-own
returns-in-None-clause-own c =
    let declared = declared_at c.args.body.now.layout in
    sym (ap (statement.Equivalence c.args.name.now)
    (not_meant_own declared c.args.symbol.now (told declared c.args.symbol.now _ _ c.get.ensures.characters c.symbol_meant.ensures ∙ ap option_copied c.in-None.is)))
