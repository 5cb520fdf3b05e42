-- The level was seen not to tell the texts apart.
use Rattle.std.proofs.Common.{ℕ, chars, subst, sym}
use Rattle.std.specs.declared.cmp.Ordering.TheVariants.{Equal}
use Rattle.std.proofs.lemmas.Bool.{not-true}
use Rattle.coll_nodes.specs.TableLayout.{collation}
use Rattle.coll_letters.specs.LetterWeights.{OrdersSo}
use Rattle.coll_letters.proofs.BothWays.{both_ways}
use Rattle.coll_letters.proofs.LetterLemmas.{level_orders}
use Rattle.coll_letters.proofs.letter_weights.LetterWeights.level_order.Goals as goal

pub returns-then-seen : goal.returns-then-seen
returns-then-seen c =
    let table = collation c.args.table.now in
    level_orders table c.args.level c.args.rule (chars c.args.text.now) (chars c.args.other.now) Equal c.if-rule.false
    (subst (λ (l : ℕ). OrdersSo table l (chars c.args.text.now) (chars c.args.other.now) Equal) (sym c.if-level-eq0.true) (c.requires.seen.alike c.if-seen.true))

pub returns-then-not-rule : goal.returns-then-not-rule
returns-then-not-rule c =
    both_ways (collation c.args.table.now) c.args.level c.args.rule (chars c.args.text.now) (chars c.args.other.now)
    (not-true c.args.rule.position c.if-not-rule.true) (c.requires.alike c.args.level c.if-level-alike.true)
