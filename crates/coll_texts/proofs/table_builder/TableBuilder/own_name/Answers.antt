-- The declaration of a name tells its own name, whether that is a symbol's, and whether the name is a second one.
use Rattle.std.proofs.Common.{Option, Some, ap, sym, ◌∙◌}
use Rattle.std.specs.Prelude.{option_copied, option_map, unwrap_or}
use Rattle.coll_texts.specs.BuilderStates.{BuilderState}
use Rattle.coll_nodes.specs.OwnNames.{declaration_of, stands_for}
use Rattle.coll_nodes.specs.Table.{is_own_name, is_symbol_name}
use Rattle.coll_nodes.specs.declared.declarations.Declaration.{Declaration}
use Rattle.coll_nodes.proofs.OwnNames.{named_own_same, own_told, second_is_symbol, second_told, symbol_own, symbol_told}
use Rattle.coll_statements.proofs.SecondNames.{on_err}
use Rattle.coll_texts.proofs.table_builder.TableBuilder.own_name.Goals as goal

pub returns-in-Some-Symbol-clause-own : goal.returns-in-Some-Symbol-clause-own
returns-in-Some-Symbol-clause-own c =
    let d = c.args.self.now in
    let found = sym (c.declaration_behind.ensures ∙ ap (λ (it : BuilderState). declaration_of it.declared c.args.name) c.self.view_is)
    ∙ (ap option_copied c.in-Some-Symbol.is ∙ ap Some c.in-Some-Symbol.field-0-is) in
    sym (named_own_same d.declared c.args.name c.lemma_sound.ensures.built.distinct_names (own_told d.declared c.args.name c.lemma_sound.ensures.built.distinct_names _ found))

pub returns-in-Some-Symbol-clause-known : goal.returns-in-Some-Symbol-clause-known
returns-in-Some-Symbol-clause-known c =
    let d = c.args.self.now in
    let found = sym (c.declaration_behind.ensures ∙ ap (λ (it : BuilderState). declaration_of it.declared c.args.name) c.self.view_is)
    ∙ (ap option_copied c.in-Some-Symbol.is ∙ ap Some c.in-Some-Symbol.field-0-is) in
    sym (own_told d.declared c.args.name c.lemma_sound.ensures.built.distinct_names _ found)

pub returns-in-Some-Symbol-clause-symbol : goal.returns-in-Some-Symbol-clause-symbol
returns-in-Some-Symbol-clause-symbol c =
    let d = c.args.self.now in
    let found = sym (c.declaration_behind.ensures ∙ ap (λ (it : BuilderState). declaration_of it.declared c.args.name) c.self.view_is)
    ∙ (ap option_copied c.in-Some-Symbol.is ∙ ap Some c.in-Some-Symbol.field-0-is) in
    sym (symbol_told d.declared c.args.name c.lemma_sound.ensures.built.distinct_names _ found)

pub returns-in-Some-Element-clause-own : goal.returns-in-Some-Element-clause-own
returns-in-Some-Element-clause-own c =
    let d = c.args.self.now in
    let found = sym (c.declaration_behind.ensures ∙ ap (λ (it : BuilderState). declaration_of it.declared c.args.name) c.self.view_is)
    ∙ (ap option_copied c.in-Some-Element.is ∙ ap Some c.in-Some-Element.field-0-is) in
    sym (named_own_same d.declared c.args.name c.lemma_sound.ensures.built.distinct_names (own_told d.declared c.args.name c.lemma_sound.ensures.built.distinct_names _ found))

pub returns-in-Some-Element-clause-known : goal.returns-in-Some-Element-clause-known
returns-in-Some-Element-clause-known c =
    let d = c.args.self.now in
    let found = sym (c.declaration_behind.ensures ∙ ap (λ (it : BuilderState). declaration_of it.declared c.args.name) c.self.view_is)
    ∙ (ap option_copied c.in-Some-Element.is ∙ ap Some c.in-Some-Element.field-0-is) in
    sym (own_told d.declared c.args.name c.lemma_sound.ensures.built.distinct_names _ found)

pub returns-in-Some-Element-clause-symbol : goal.returns-in-Some-Element-clause-symbol
returns-in-Some-Element-clause-symbol c =
    let d = c.args.self.now in
    let found = sym (c.declaration_behind.ensures ∙ ap (λ (it : BuilderState). declaration_of it.declared c.args.name) c.self.view_is)
    ∙ (ap option_copied c.in-Some-Element.is ∙ ap Some c.in-Some-Element.field-0-is) in
    sym (symbol_told d.declared c.args.name c.lemma_sound.ensures.built.distinct_names _ found)

pub returns-in_ok-own-in-Some-Equivalence-clause-known : goal.returns-in_ok-own-in-Some-Equivalence-clause-known
returns-in_ok-own-in-Some-Equivalence-clause-known c =
    let d = c.args.self.now in
    let distinct = c.lemma_sound.ensures.built.distinct_names in
    let found = sym (c.declaration_behind.ensures ∙ ap (λ (it : BuilderState). declaration_of it.declared c.args.name) c.self.view_is)
    ∙ (ap option_copied c.in-Some-Equivalence.is ∙ ap Some c.in-Some-Equivalence.field-0-is) in
    let own = c.in_ok-own-in-Some-Equivalence.ensures ∙ sym (ap (λ (it : Option Declaration). unwrap_or (option_map stands_for it) c.args.name) found) in
    sym (ap (is_own_name d.declared) own
    ∙ symbol_own d.declared _ (second_is_symbol d.declared c.args.name c.lemma_sound.ensures.built.meant distinct (second_told d.declared c.args.name distinct _ found)))

pub returns-in_ok-own-in-Some-Equivalence-clause-symbol : goal.returns-in_ok-own-in-Some-Equivalence-clause-symbol
returns-in_ok-own-in-Some-Equivalence-clause-symbol c =
    let d = c.args.self.now in
    let distinct = c.lemma_sound.ensures.built.distinct_names in
    let found = sym (c.declaration_behind.ensures ∙ ap (λ (it : BuilderState). declaration_of it.declared c.args.name) c.self.view_is)
    ∙ (ap option_copied c.in-Some-Equivalence.is ∙ ap Some c.in-Some-Equivalence.field-0-is) in
    let own = c.in_ok-own-in-Some-Equivalence.ensures ∙ sym (ap (λ (it : Option Declaration). unwrap_or (option_map stands_for it) c.args.name) found) in
    sym (ap (is_symbol_name d.declared) own ∙ second_is_symbol d.declared c.args.name c.lemma_sound.ensures.built.meant distinct (second_told d.declared c.args.name distinct _ found))

pub returns-in_err-own-in-Some-Equivalence-clause-memory : goal.returns-in_err-own-in-Some-Equivalence-clause-memory
returns-in_err-own-in-Some-Equivalence-clause-memory c =
    let d = c.args.self.now in
    let found = sym (c.declaration_behind.ensures ∙ ap (λ (it : BuilderState). declaration_of it.declared c.args.name) c.self.view_is)
    ∙ (ap option_copied c.in-Some-Equivalence.is ∙ ap Some c.in-Some-Equivalence.field-0-is) in
    on_err _ _ (second_told d.declared c.args.name c.lemma_sound.ensures.built.distinct_names _ found)

pub returns-in-None-clause-known : goal.returns-in-None-clause-known
returns-in-None-clause-known c =
    let d = c.args.self.now in
    let found = sym (c.declaration_behind.ensures ∙ ap (λ (it : BuilderState). declaration_of it.declared c.args.name) c.self.view_is) ∙ ap option_copied c.in-None.is in
    sym (own_told d.declared c.args.name c.lemma_sound.ensures.built.distinct_names _ found)

pub returns-in-None-clause-symbol : goal.returns-in-None-clause-symbol
returns-in-None-clause-symbol c =
    let d = c.args.self.now in
    let found = sym (c.declaration_behind.ensures ∙ ap (λ (it : BuilderState). declaration_of it.declared c.args.name) c.self.view_is) ∙ ap option_copied c.in-None.is in
    sym (symbol_told d.declared c.args.name c.lemma_sound.ensures.built.distinct_names _ found)
