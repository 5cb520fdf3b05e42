-- Order lines (POSIX.1-2017, 7.3.2.4): an identifier, with or without weights.
use Rattle.std.specs.Prelude.{List, [], ◌∷◌, Option, Some, None, Result, Ok, Err}
use Rattle.coll_lex.specs.declared.tokens.Token.{Token}
use Rattle.coll_syntax.specs.Identifier.{id_of}
use Rattle.coll_syntax.specs.Operands.{read_as}
use Rattle.coll_syntax.specs.Weights.{weights}
use Rattle.coll_syntax.specs.declared.identifiers.Id.{Id}
use Rattle.coll_syntax.specs.declared.statements.OrderLine.{OrderLine}
use Rattle.coll_syntax.specs.declared.syntax_faults.SyntaxFault.{SyntaxFault}
use Rattle.coll_syntax.specs.declared.syntax_faults.SyntaxFault.TheVariants.{UnknownStatement}

-- an identifier and what stands behind it: nothing, or its weights
abbrev pub weighted : Option Id → List Token → Result OrderLine SyntaxFault
weighted None rest = Err UnknownStatement
weighted (Some id) [] = Ok (record { id = id; weights = None })
weighted (Some id) (t ∷ ts) = read_as (λ given. record { id = id; weights = Some given }) (weights (t ∷ ts))

-- an order line; a first token that is no identifier begins no line
abbrev pub order_line : Token → List Token → Result OrderLine SyntaxFault
order_line first rest = weighted (id_of first) rest
