-- The head, the statements and the end are the text.
use Rattle.std.proofs.Common.{[], ◌++◌, codes, refl, List, ℕ, rules}
use Rattle.std.specs.List.{flat_map}
use Rattle.coll_syntax.specs.declared.statements.Statement.{Statement}
use Rattle.coll_texts.specs.StatementText.{statement_bytes}
use Rattle.coll_texts.proofs.PrintedParts.{stops_first, writes_rest}
use Rattle.coll_delta_texts.specs.DeltaText.{delta_text}
use Rattle.coll_delta_texts.proofs.TextParts.{delta_parts}
use Rattle.coll_edit_replies.proofs.statements.write_statements.Goals as goal

abbrev head : List ℕ
head = codes "comment_char %\nescape_char /\nLC_COLLATE\n"

abbrev end : List ℕ
end = codes "END LC_COLLATE\n"

-- what is behind the head
abbrev stated : List Statement → List ℕ
stated statements = flat_map statement_bytes statements ++ end

pub returns-in_err-write_bytes : goal.returns-in_err-write_bytes
returns-in_err-write_bytes g c =
    record {
      sent = let statements = c.args.session.now.history.remaining in
          stops_first _ _ (delta_text [] statements) head (stated statements) c.from_residual.result (delta_parts [] statements) c.from_residual.ensures.0 c.in_err-write_bytes.ensures.sent;
      errors = search rules;
    }

pub returns-in_err-write_remaining : goal.returns-in_err-write_remaining
returns-in_err-write_remaining g c =
    record {
      sent = let statements = c.args.session.now.history.remaining in
          let result = c.from_residual-in_err-write_remaining.result in
          writes_rest _ _ _ (delta_text [] statements) head (stated statements) result (delta_parts [] statements) c.in_ok-write_bytes.ensures.sent
          (stops_first _ _ (stated statements) (flat_map statement_bytes statements) end result refl c.from_residual-in_err-write_remaining.ensures.0 c.in_err-write_remaining.ensures.sent);
      errors = search rules;
    }

pub returns : goal.returns
returns g c =
    record {
      sent = let statements = c.args.session.now.history.remaining in
          let result = c.write_bytes-2.result in
          writes_rest _ _ _ (delta_text [] statements) head (stated statements) result (delta_parts [] statements) c.in_ok-write_bytes.ensures.sent
          (writes_rest _ _ _ (stated statements) (flat_map statement_bytes statements) end result refl c.in_ok-write_remaining.ensures.sent c.write_bytes-2.ensures.sent);
      errors = search rules;
    }
