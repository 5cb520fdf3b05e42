-- The rules of `order_start` (POSIX.1-2017, 7.3.2.3): operands separated by semicolons, one for each level.
use Rattle.std.specs.Prelude.{true, false, if◌then◌else◌, ◌++◌, List, [], ◌∷◌, map, take, drop, Option, Some, None, Result, Ok, Err, codes}
use Rattle.coll_lex.specs.declared.tokens.Token.{Token}
use Rattle.coll_lex.specs.declared.tokens.Token.TheVariants as token
use Rattle.coll_syntax.specs.Identifier.{is_word}
use Rattle.coll_syntax.specs.Operands.{operands_of, all_read}
use Rattle.coll_syntax.specs.declared.rules.Rule.{Rule}
use Rattle.coll_syntax.specs.declared.rule_lists.Directive.{Directive}
use Rattle.coll_syntax.specs.declared.rule_lists.Directive.TheVariants.{Forward, Backward, Position}
use Rattle.coll_syntax.specs.declared.syntax_faults.SyntaxFault.{SyntaxFault}
use Rattle.coll_syntax.specs.declared.syntax_faults.SyntaxFault.TheVariants.{BadRule, TooManyLevels}

-- the directive that a word spells
abbrev pub directive_of : Token → Option Directive
directive_of t = if is_word t (codes "forward") then Some Forward
    else (if is_word t (codes "backward") then Some Backward else (if is_word t (codes "position") then Some Position else None))

-- the rule of one directive; `position` alone means `forward,position` (the project's own rule)
abbrev pub one_directive : Option Directive → Option Rule
one_directive (Some Forward) = Some (record { backward = false; position = false })
one_directive (Some Backward) = Some (record { backward = true; position = false })
one_directive (Some Position) = Some (record { backward = false; position = true })
one_directive None = None

-- the rule of two directives: a direction and `position`, in either order
abbrev pub two_directives : Option Directive → Option Directive → Option Rule
two_directives (Some Forward) (Some Position) = Some (record { backward = false; position = true })
two_directives (Some Position) (Some Forward) = Some (record { backward = false; position = true })
two_directives (Some Backward) (Some Position) = Some (record { backward = true; position = true })
two_directives (Some Position) (Some Backward) = Some (record { backward = true; position = true })
two_directives _ _ = None

-- the rule of one operand: one or two directives separated by a comma
abbrev pub operand_rule : List Token → Option Rule
operand_rule (t ∷ []) = one_directive (directive_of t)
operand_rule (t ∷ token.Comma ∷ u ∷ []) = two_directives (directive_of t) (directive_of u)
operand_rule _ = None

-- a rule, where everything else is a bad one (the project's own rule)
abbrev pub wanted_rule : Option Rule → Result Rule SyntaxFault
wanted_rule (Some read) = Ok read
wanted_rule None = Err BadRule

-- the rule that an operand spells
abbrev pub rule : List Token → Result Rule SyntaxFault
rule ts = wanted_rule (operand_rule ts)

-- what the operands say: the first four are rules, and each further one is one too many, whatever it holds (the project's
-- own limit)
abbrev pub judged_levels : List (List Token) → List (Result Rule SyntaxFault)
judged_levels operands = map rule (take 4 operands) ++ map (λ _. Err TooManyLevels) (drop 4 operands)

-- the rules of all levels
unfoldable pub rules : List Token → Result (List Rule) SyntaxFault
rules ts = all_read (judged_levels (operands_of ts))
