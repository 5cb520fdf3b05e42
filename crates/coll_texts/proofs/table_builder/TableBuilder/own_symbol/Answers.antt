-- The declaration of a name tells whether it is a symbol's, or a second name, and what symbol it stands for.
use Rattle.std.proofs.Common.{◌≡◌, true, false, Option, Some, ap, sym, ◌∙◌}
use Rattle.std.specs.Prelude.{option_copied, option_map, unwrap_or}
use Rattle.std.specs.List.{list_any}
use Rattle.std.proofs.lemmas.Result.{IfErr-weaker}
use Rattle.coll_texts.specs.BuilderStates.{BuilderState}
use Rattle.coll_nodes.specs.OwnNames.{declaration_of, declares_second, stands_for}
use Rattle.coll_nodes.specs.Table.{is_symbol_name}
use Rattle.coll_nodes.specs.declared.declarations.Declaration.{Declaration}
use Rattle.coll_nodes.proofs.OwnNames.{named_own_same, own_told, second_is_symbol, second_told, symbol_told}
use Rattle.coll_texts.specs.declared.load_faults.LoadCause.TheVariants.{OutOfMemory}
use Rattle.coll_statements.proofs.SecondNames.{on_err}
use Rattle.coll_texts.proofs.SoundLines.{meaning_told}
use Rattle.coll_texts.proofs.table_builder.TableBuilder.own_symbol.Goals as goal

pub returns-in-Some-Symbol-clause-own : goal.returns-in-Some-Symbol-clause-own
returns-in-Some-Symbol-clause-own c =
    let d = c.args.self.now in
    let found = sym (c.declaration.ensures ∙ ap (λ (it : BuilderState). declaration_of it.declared c.args.symbol) c.self.view_is)
    ∙ (ap option_copied c.in-Some-Symbol.is ∙ ap Some c.in-Some-Symbol.field-0-is) in
    sym (named_own_same d.declared c.args.symbol c.lemma_sound.ensures.built.distinct_names (own_told d.declared c.args.symbol c.lemma_sound.ensures.built.distinct_names _ found))

pub returns-in-Some-Symbol-clause-symbol : goal.returns-in-Some-Symbol-clause-symbol
returns-in-Some-Symbol-clause-symbol c =
    let d = c.args.self.now in
    let found = sym (c.declaration.ensures ∙ ap (λ (it : BuilderState). declaration_of it.declared c.args.symbol) c.self.view_is)
    ∙ (ap option_copied c.in-Some-Symbol.is ∙ ap Some c.in-Some-Symbol.field-0-is) in
    symbol_told d.declared c.args.symbol c.lemma_sound.ensures.built.distinct_names _ found

pub returns-in-Some-Element-clause-err : goal.returns-in-Some-Element-clause-err
returns-in-Some-Element-clause-err c =
    let d = c.args.self.now in
    let distinct = c.lemma_sound.ensures.built.distinct_names in
    let found = sym (c.declaration.ensures ∙ ap (λ (it : BuilderState). declaration_of it.declared c.args.symbol) c.self.view_is)
    ∙ (ap option_copied c.in-Some-Element.is ∙ ap Some c.in-Some-Element.field-0-is) in
    let own = own_told d.declared c.args.symbol distinct _ found in
    λ _ name. meaning_told d.declared name c.args.symbol true false (named_own_same d.declared c.args.symbol distinct own) own (symbol_told d.declared c.args.symbol distinct _ found)

pub returns-in_ok-own-in-Some-Equivalence-clause-symbol : goal.returns-in_ok-own-in-Some-Equivalence-clause-symbol
returns-in_ok-own-in-Some-Equivalence-clause-symbol c =
    let d = c.args.self.now in
    let distinct = c.lemma_sound.ensures.built.distinct_names in
    let found = sym (c.declaration.ensures ∙ ap (λ (it : BuilderState). declaration_of it.declared c.args.symbol) c.self.view_is)
    ∙ (ap option_copied c.in-Some-Equivalence.is ∙ ap Some c.in-Some-Equivalence.field-0-is) in
    let own = c.in_ok-own-in-Some-Equivalence.ensures ∙ sym (ap (λ (it : Option Declaration). unwrap_or (option_map stands_for it) c.args.symbol) found) in
    ap (is_symbol_name d.declared) own ∙ second_is_symbol d.declared c.args.symbol c.lemma_sound.ensures.built.meant distinct (second_told d.declared c.args.symbol distinct _ found)

pub returns-in_err-own-in-Some-Equivalence-clause-memory : goal.returns-in_err-own-in-Some-Equivalence-clause-memory
returns-in_err-own-in-Some-Equivalence-clause-memory c =
    let d = c.args.self.now in
    let found = sym (c.declaration.ensures ∙ ap (λ (it : BuilderState). declaration_of it.declared c.args.symbol) c.self.view_is)
    ∙ (ap option_copied c.in-Some-Equivalence.is ∙ ap Some c.in-Some-Equivalence.field-0-is) in
    let Second : Type 0 = list_any (declares_second c.args.symbol) d.declared ≡ true in
    IfErr-weaker c.from_residual.result (λ _. Second) (λ cause. cause ≡ OutOfMemory → Second) (λ _ second _. second)
    (on_err Second _ (second_told d.declared c.args.symbol c.lemma_sound.ensures.built.distinct_names _ found))

pub returns-in-None-clause-err : goal.returns-in-None-clause-err
returns-in-None-clause-err c =
    let d = c.args.self.now in
    let distinct = c.lemma_sound.ensures.built.distinct_names in
    let found = sym (c.declaration.ensures ∙ ap (λ (it : BuilderState). declaration_of it.declared c.args.symbol) c.self.view_is) ∙ ap option_copied c.in-None.is in
    λ _ name. meaning_told d.declared name c.args.symbol false false (ap (λ (it : Option Declaration). unwrap_or (option_map stands_for it) c.args.symbol) found)
    (own_told d.declared c.args.symbol distinct _ found) (symbol_told d.declared c.args.symbol distinct _ found)
