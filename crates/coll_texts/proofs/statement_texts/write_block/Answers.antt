-- The line that begins the block, its order lines, and the one that ends it.
use Rattle.std.proofs.Common.{ℕ, List, [], ◌∷◌, ◌++◌, codes, refl, rules}
use Rattle.std.specs.List.{flat_map}
use Rattle.coll_syntax.specs.declared.identifiers.Id.{Id}
use Rattle.coll_texts.specs.CanonicalText.{line_bytes}
use Rattle.coll_texts.specs.PrintedParts.{id_bytes}
use Rattle.coll_texts.specs.StatementText.{block_lines, order_bytes}
use Rattle.coll_texts.proofs.PrintedParts.{stops_first, writes_rest, block_parts}
use Rattle.coll_texts.proofs.statement_texts.write_block.Goals as goal

-- the line that begins the block
abbrev head : Id → List ℕ
head target = codes "reorder-after " ++ (id_bytes target ++ 10 ∷ [])

-- the line that ends it
abbrev end : List ℕ
end = codes "reorder-end\n"

pub returns-in_err-write_pieces : goal.returns-in_err-write_pieces
returns-in_err-write_pieces g c =
    let orders = flat_map order_bytes c.args.lines.now in
    record {
      sent = stops_first _ _ (flat_map line_bytes (block_lines c.args.target.now c.args.lines.now)) (head c.args.target.now) (orders ++ end) c.from_residual.result
          (block_parts c.args.target.now c.args.lines.now) c.from_residual.ensures.0 c.in_err-write_pieces.ensures.sent;
      errors = search rules;
    }

pub returns-in_err-write_order_lines : goal.returns-in_err-write_order_lines
returns-in_err-write_order_lines g c =
    let orders = flat_map order_bytes c.args.lines.now in
    let result = c.from_residual-in_err-write_order_lines.result in
    record {
      sent = writes_rest _ _ _ (flat_map line_bytes (block_lines c.args.target.now c.args.lines.now)) (head c.args.target.now) (orders ++ end) result
          (block_parts c.args.target.now c.args.lines.now) c.in_ok-write_pieces.ensures.sent
          (stops_first _ _ (orders ++ end) orders end result refl c.from_residual-in_err-write_order_lines.ensures.0 c.in_err-write_order_lines.ensures.sent);
      errors = search rules;
    }

pub returns : goal.returns
returns g c =
    let orders = flat_map order_bytes c.args.lines.now in
    record {
      sent = writes_rest _ _ _ (flat_map line_bytes (block_lines c.args.target.now c.args.lines.now)) (head c.args.target.now) (orders ++ end) c.write_bytes.result
          (block_parts c.args.target.now c.args.lines.now) c.in_ok-write_pieces.ensures.sent
          (writes_rest _ _ _ (orders ++ end) orders end c.write_bytes.result refl c.in_ok-write_order_lines.ensures.sent c.write_bytes.ensures.sent);
      errors = search rules;
    }
