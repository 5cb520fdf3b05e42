-- Each stop leaves a prefix of the text, and at the end all of it is written.
use Rattle.std.proofs.Common.{ℕ, List, ◌++◌, codes, refl, rules}
use Rattle.std.specs.List.{flat_map}
use Rattle.coll_syntax.specs.declared.statements.Statement.{Statement}
use Rattle.coll_texts.specs.StatementText.{statement_bytes}
use Rattle.coll_texts.proofs.PrintedParts.{stops_first, writes_rest}
use Rattle.coll_delta_texts.specs.DeltaText.{delta_text, copy_bytes}
use Rattle.coll_delta_texts.proofs.TextParts.{delta_parts}
use Rattle.coll_delta_texts.proofs.delta_texts.write_delta.Goals as goal

abbrev head : List ℕ
head = codes "comment_char %\nescape_char /\nLC_COLLATE\n"

abbrev end : List ℕ
end = codes "END LC_COLLATE\n"

-- what is behind the copies, and behind the head
abbrev stated : List Statement → List ℕ
stated statements = flat_map statement_bytes statements ++ end

abbrev category : List (List ℕ) → List Statement → List ℕ
category copies statements = flat_map copy_bytes copies ++ stated statements

pub returns-in_err-write_bytes : goal.returns-in_err-write_bytes
returns-in_err-write_bytes g c =
    let copies = c.args.copies.now in
    let statements = c.args.statements.now in
    record {
      sent = stops_first _ _ (delta_text copies statements) head (category copies statements) c.from_residual.result
          (delta_parts copies statements) c.from_residual.ensures.0 c.in_err-write_bytes.ensures.sent;
      errors = search rules;
    }

pub returns-in_err-write_copies : goal.returns-in_err-write_copies
returns-in_err-write_copies g c =
    let copies = c.args.copies.now in
    let statements = c.args.statements.now in
    let result = c.from_residual-in_err-write_copies.result in
    record {
      sent = writes_rest _ _ _ (delta_text copies statements) head (category copies statements) result (delta_parts copies statements) c.in_ok-write_bytes.ensures.sent
          (stops_first _ _ (category copies statements) (flat_map copy_bytes copies) (stated statements) result refl c.from_residual-in_err-write_copies.ensures.0 c.in_err-write_copies.ensures.sent);
      errors = search rules;
    }

pub returns-in_err-write_statements : goal.returns-in_err-write_statements
returns-in_err-write_statements g c =
    let copies = c.args.copies.now in
    let statements = c.args.statements.now in
    let result = c.from_residual-in_err-write_statements.result in
    record {
      sent = writes_rest _ _ _ (delta_text copies statements) head (category copies statements) result (delta_parts copies statements) c.in_ok-write_bytes.ensures.sent
          (writes_rest _ _ _ (category copies statements) (flat_map copy_bytes copies) (stated statements) result refl c.in_ok-write_copies.ensures.sent
          (stops_first _ _ (stated statements) (flat_map statement_bytes statements) end result refl c.from_residual-in_err-write_statements.ensures.0 c.in_err-write_statements.ensures.sent));
      errors = search rules;
    }

pub returns : goal.returns
returns g c =
    let copies = c.args.copies.now in
    let statements = c.args.statements.now in
    let result = c.write_bytes-2.result in
    record {
      sent = writes_rest _ _ _ (delta_text copies statements) head (category copies statements) result (delta_parts copies statements) c.in_ok-write_bytes.ensures.sent
          (writes_rest _ _ _ (category copies statements) (flat_map copy_bytes copies) (stated statements) result refl c.in_ok-write_copies.ensures.sent
          (writes_rest _ _ _ (stated statements) (flat_map statement_bytes statements) end result refl c.in_ok-write_statements.ensures.sent c.write_bytes-2.ensures.sent));
      errors = search rules;
    }
