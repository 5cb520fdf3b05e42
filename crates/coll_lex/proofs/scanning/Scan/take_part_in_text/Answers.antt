use Rattle.std.proofs.lemmas.Result.{err_from_is_err_and}
use Rattle.coll_lex.proofs.RunLemmas.{text_symbol_taken, text_symbol_at_fault, text_symbol_starved, symbol_shortens, plain_is_graphic}
use Rattle.coll_lex.proofs.GatherLemmas.{where_refused}
use Rattle.coll_lex.proofs.scanning.Scan.take_part_in_text.Goals as goal

pub take_piece-requires : goal.take_piece-requires
take_piece-requires c = record { some = c.in-Some.ensures.some; graphic = plain_is_graphic c.args.special.escape c.in-Some.name.now c.in-Some.ensures.plain }

pub returns-in_err-take_piece-clause-err : goal.returns-in_err-take_piece-clause-err
returns-in_err-take_piece-clause-err c =
    let p = err_from_is_err_and c.from_residual.result c.from_residual.ensures.1 in
    rw (p.1, p.2)
    (λ no. text_symbol_at_fault c.args.special c.args.self.now c.args.text.now c.in-Some.name.now c.in-Some.rest.now c.in_err-take_piece.field-0.0 c.requires.inside c.requires.unescaped c.in-Some.ensures
    (c.in_err-take_piece.ensures.err no))

pub returns-in_err-take_piece-clause-memory : goal.returns-in_err-take_piece-clause-memory
returns-in_err-take_piece-clause-memory c =
    where_refused _ _ (text_symbol_starved c.args.special c.args.self.now c.args.text.now c.in-Some.name.now c.in-Some.rest.now c.requires.inside c.requires.unescaped c.in-Some.ensures)

pub returns-in-Some-clause-ok : goal.returns-in-Some-clause-ok
returns-in-Some-clause-ok c =
    text_symbol_taken c.args.special c.args.self.now c.take_piece.new.self c.args.text.now c.in-Some.name.now c.in-Some.rest.now c.requires.inside c.requires.unescaped c.in-Some.ensures c.in_ok-take_piece.ensures.ok

pub returns-in-Some-clause-shorter : goal.returns-in-Some-clause-shorter
returns-in-Some-clause-shorter c = symbol_shortens c.args.special.escape c.args.text.now c.in-Some.name.now c.in-Some.rest.now c.in-Some.ensures
