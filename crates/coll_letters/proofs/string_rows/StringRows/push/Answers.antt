-- One string more is kept.
use Rattle.std.proofs.Common.{All, [], List, ℕ, sym, subst}
use Rattle.std.proofs.lemmas.List.Elements.{All-append, All-cons, All-nil}
use Rattle.coll_letters.specs.StringRows.{IsKnownString, IsStringRow}
use Rattle.coll_letters.proofs.string_rows.StringRows.push.Goals as goal

pub returns : goal.returns
returns c = λ table weights are row. record {
  rows = subst (All (IsStringRow table weights)) (sym c.in_ok-push.ensures.items)
      (All-append (IsStringRow table weights) c.args.self.now.rows.items _ are.rows
      (All-cons (IsStringRow table weights) _ [] (subst (λ (l : List ℕ). IsKnownString table weights l c.args.known) (sym c.in_ok-text.ensures) row) (All-nil (IsStringRow table weights))));
}
