-- The rows of both are those of their elements.
use Rattle.std.proofs.Common.{◌≡◌, ◌∙◌, ap, chars, subst, sym, true}
use Rattle.std.specs.Prelude.{IfSome}
use Rattle.coll_syntax.specs.declared.rules.Rule.{Rule}
use Rattle.coll_nodes.specs.TableLayout.{collation}
use Rattle.coll_ranks.specs.LevelWeights.{level_numbers, row_numbers}
use Rattle.coll_ranks.specs.RankLists.{WeightsValue}
use Rattle.coll_ranks.specs.declared.text_elements.ElementRow.{ElementRow}
use Rattle.coll_key.specs.RowKeys.{AreRowsOf}
use Rattle.coll_letters.proofs.LetterLemmas.{level_orders_by_rows}
use Rattle.coll_letters.proofs.letter_weights.LetterWeights.backward_order.Goals as goal

pub returns : goal.returns
returns c =
    let table = collation c.args.table.now in
    let weights = c.args.self.now.made.weights in
    let rule : Rule = record { backward = true; position = c.args.position } in
    let text = chars c.args.text.now in
    let other = chars c.args.other.now in
    let are : AreRowsOf table text weights c.in-Some.rows.items =
    subst (λ found. IfSome found (λ rows. AreRowsOf table text weights rows.items)) c.in-Some.is c.in_ok-rows.ensures.rows in
    let other_are : AreRowsOf table other weights c.in-Some-2.other_rows.items =
    subst (λ found. IfSome found (λ rows. AreRowsOf table other weights rows.items)) c.in-Some-2.is c.in_ok-other_rows.ensures.rows in
    let same : (row : ElementRow) → level_numbers c.at_level-at_level.result row ≡ row_numbers weights c.args.level row =
    λ row. c.at_level-at_level.ensures row ∙ ap (λ (w : WeightsValue). row_numbers w c.args.level row) c.weights.ensures in
    level_orders_by_rows table c.args.level rule (level_numbers c.at_level-at_level.result) weights same c.requires.level text other c.deref.result.now c.deref-2.result.now
    c.order_from_back.result (subst (AreRowsOf table text weights) (sym c.deref.ensures.value) are) (subst (AreRowsOf table other weights) (sym c.deref-2.ensures.value) other_are) c.order_from_back.ensures
