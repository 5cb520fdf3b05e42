use Rattle.std.proofs.Common.{◌∙◌, ap}
use Rattle.std.specs.Prelude.{is_some}
use Rattle.coll_lex.proofs.NameTests.{nothing_is_no_name, code_is_no_name, name_by_characters}
use Rattle.coll_lex.proofs.names.is_name.Goals as goal

pub returns-then-is_empty : goal.returns-then-is_empty
returns-then-is_empty c = nothing_is_no_name c.args.text.now c.utf8.text c.if-is_empty.ensures

pub returns-then-is_some : goal.returns-then-is_some
returns-then-is_some c = code_is_no_name _ _ (c.if-is_some.ensures ∙ ap is_some c.code_point.ensures)

pub returns : goal.returns
returns c = c.has_name_chars.ensures ∙ name_by_characters _ c.args.text.now c.utf8.text c.if-is_empty.ensures (c.if-is_some.ensures ∙ ap is_some c.code_point.ensures)
