use Rattle.std.proofs.Common.{◌≡◌, true, length, rules, sym, ◌∙◌, tests, ◌||◌, not, arith}
use Rattle.std.specs.List.{list_all}
use Rattle.std.specs.Str.{chars}
use Rattle.std.proofs.lemmas.Bool.{ltb-false}
use Rattle.std.proofs.lemmas.Iterator.{YieldsList-from_chars}
use Rattle.std.proofs.lemmas.Iterator.Search.{all_from_yields_List}
use Rattle.coll_lex.specs.Blanks.{is_blank}
use Rattle.coll_lex.specs.Limits.{most_name_chars}
use Rattle.coll_lex.specs.Tokens.{is_control}
use Rattle.coll_lex.specs.Runs.{is_graphic}
use Rattle.coll_lex.proofs.RunLemmas.{graphic_is_name}
use Rattle.coll_lex.proofs.SymbolLemmas.{short_is_name}
use Rattle.coll_lex.proofs.names.has_name_chars.Goals as goal

pub returns-then-are_graphic : goal.returns-then-are_graphic
returns-then-are_graphic c =
    let bytes = c.args.text.now in
    let graphic : list_all is_graphic bytes ≡ true = rw c.as_bytes.ensures.value at (sym c.are_graphic.ensures ∙ c.if-are_graphic.true) in
    sym (graphic_is_name bytes graphic (omega (arith, c.if-text-le-MOST_NAME_CHARS.true)))

pub returns : goal.returns
returns c =
    let all = all_from_yields_List (λ x. not (is_blank x || is_control x)) _ _ c.all.result c.all.ensures.ran (YieldsList-from_chars c.args.text.now c.utf8.text cc)
    (λ x b q k. search (rules, tests)) in
    all ∙ short_is_name (chars c.args.text.now) (ltb-false most_name_chars (length (chars c.args.text.now)) (sym c.is_long.ensures ∙ c.if-is_long.false))
