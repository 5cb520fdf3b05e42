-- What is parsed is the lexer's answer, or a line for which memory was refused.
use Rattle.std.proofs.Common.{Bool, Some, None, sym, ap, ◌∙◌, subst}
use Rattle.coll_lex.specs.LogicalLines.{LexerState, first_line}
use Rattle.coll_requests.specs.SessionLines.{opening_of}
use Rattle.coll_requests.specs.Parsing.{Parses}
use Rattle.coll_requests.proofs.ParsingLemmas.{numbered, opens_as_none, opens_as_next, parses_fault, parses_none, parses_whole}
use Rattle.coll_lex.proofs.LineEnds.{fed-whole}
use Rattle.coll_requests.proofs.parsing.LineParser.parse_fed.Goals as goal

pub invariant_of-self-in-Ok-None : goal.invariant_of-self-in-Ok-None
invariant_of-self-in-Ok-None c =
    let s = c.self.inside.lexer in
    opens_as_next s c.feed.new.self c.args.line.now c.in-Ok-None.field-0 c.args.opening c.in-Ok-None.ensures.ok
    (c.requires ∙ ap (λ (t : LexerState). opening_of (first_line t c.args.line.now)) (sym c.self.view_is))

pub invariant_of-self-in-Ok-Some : goal.invariant_of-self-in-Ok-Some
invariant_of-self-in-Ok-Some c =
    opens_as_none c.feed.new.self c.self.inside.opening
    (ap (λ (t : LexerState). t.line) (fed-whole c.self.inside.lexer c.args.line.now c.in-Ok-Some.line c.feed.new.self (rw c.in-Ok-Some.field-0-is at c.in-Ok-Some.ensures.ok)))

pub invariant_of-self : goal.invariant_of-self
invariant_of-self c = opens_as_none c.feed.new.self c.self.inside.opening (ap (λ (t : LexerState). t.line) c.in-Err.ensures.dropped)

pub returns-in-Err-clause-parsed : goal.returns-in-Err-clause-parsed
returns-in-Err-clause-parsed c =
    subst (λ (s : LexerState). (starved : Bool) × Parses c.args.commands starved s c.feed.new.self c.args.line.now (Some (numbered c.next_number-number.result c.refused_by_lexer-parsed.result)))
    c.self.view_is
    (parses_fault c.args.commands c.self.inside.lexer c.feed.new.self c.args.line.now c.args.opening c.in-Err.fault (numbered c.next_number-number.result c.refused_by_lexer-parsed.result)
    c.next_number-number.result
    (c.requires ∙ ap (λ (t : LexerState). opening_of (first_line t c.args.line.now)) (sym c.self.view_is)) c.next_number-number.ensures.number c.in-Err.ensures.dropped
    c.in-Err.ensures.err c.in-Err.ensures.memory
    (ap (numbered c.next_number-number.result) c.refused_by_lexer-parsed.ensures.parsed))

pub returns-in-Ok-None-clause-parsed : goal.returns-in-Ok-None-clause-parsed
returns-in-Ok-None-clause-parsed c =
    subst (λ (s : LexerState). (starved : Bool) × Parses c.args.commands starved s c.feed.new.self c.args.line.now None) c.self.view_is
    (parses_none c.args.commands c.self.inside.lexer c.feed.new.self c.args.line.now (rw c.in-Ok-None.field-0-is at c.in-Ok-None.ensures.ok))

pub returns-in-Ok-Some-clause-parsed : goal.returns-in-Ok-Some-clause-parsed
returns-in-Ok-Some-clause-parsed c =
    subst (λ (s : LexerState). (starved : Bool) × Parses c.args.commands starved s c.feed.new.self c.args.line.now (Some (numbered c.next_number-number.result c.tokens_parsed-parsed.result)))
    c.self.view_is
    (parses_whole c.args.commands c.self.inside.lexer c.feed.new.self c.args.line.now c.args.opening c.in-Ok-Some.line c.tokens_parsed-parsed.result c.next_number-number.result
    (c.requires ∙ ap (λ (t : LexerState). opening_of (first_line t c.args.line.now)) (sym c.self.view_is)) c.next_number-number.ensures.number
    (rw c.in-Ok-Some.field-0-is at c.in-Ok-Some.ensures.ok) c.tokens_parsed-parsed.ensures.parsed)
