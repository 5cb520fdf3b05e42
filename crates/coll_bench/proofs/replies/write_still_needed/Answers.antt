-- The number of the statement, and the number and the name of its refusal.
use Rattle.std.proofs.Common.{◌≡◌, ◌∙◌, rules}
use Rattle.coll_table.specs.Refusals.{refusal_number, refusal_name}
use Rattle.coll_bench.proofs.replies.write_still_needed.Goals as goal

pub returns : goal.returns
returns g c =
    record {
      sent = let number : c.from-2.result ≡ refusal_number c.args.refusal = c.from-2.ensures ∙ c.number.ensures in
          let name : c.as_bytes.result.now ≡ refusal_name c.args.refusal = c.as_bytes.ensures.value ∙ c.name.ensures in
          rw (c.from.ensures, number, name) at c.write_pieces.ensures.sent;
      errors = search rules;
    }
