-- What the open logical line begins with is kept; where none is open, the line handed in begins one.
use Rattle.std.proofs.Common.{sym, ap, ◌∙◌}
use Rattle.coll_requests.specs.SessionLines.{opening_of}
use Rattle.coll_lex.specs.LogicalLines.{LexerState, first_line}
use Rattle.coll_requests.proofs.ParsingLemmas.{opening_kept, opening_fresh}
use Rattle.coll_requests.proofs.parsing.LineParser.opening_at.Goals as goal

pub returns-in-Some : goal.returns-in-Some
returns-in-Some c = opening_kept _ _ _ _ (sym c.in-Some.ensures) c.self.invariant ∙ ap (λ (s : LexerState). opening_of (first_line s c.args.line.now)) c.self.view_is

pub returns-in-None : goal.returns-in-None
returns-in-None c = opening_fresh _ _ _ _ c.in-None.ensures c.without_return.ensures c.opening_of.ensures ∙ ap (λ (s : LexerState). opening_of (first_line s c.args.line.now)) c.self.view_is
