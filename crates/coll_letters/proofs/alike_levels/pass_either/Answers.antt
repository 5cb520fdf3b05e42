-- A character that is ignored is passed.
use Rattle.std.proofs.Common.{arith, chars}
use Rattle.coll_nodes.specs.TableLayout.{collation}
use Rattle.coll_letters.proofs.LetterLemmas.{first_passed, second_passed}
use Rattle.coll_letters.proofs.alike_levels.pass_either.Goals as goal

pub returns-then-levels-gt1 : goal.returns-then-levels-gt1
returns-then-levels-gt1 c = record {
  levels = c.ignored_levels-levels.ensures.most;
  same = first_passed (collation c.args.table.now) c.args.letters.now.made.weights (chars c.args.left.now) (chars c.args.right.now) c.in-Some.first c.ignored_levels-levels.result c.in-Some.ensures
      (omega (arith, c.ignored_levels-levels.ensures.most, c.requires.most)) c.ignored_levels-levels.ensures.ignored;
  shorter = omega (arith, c.in-Some.ensures.shorter);
}

pub returns : goal.returns
returns c = record {
  levels = c.ignored_levels-levels-2.ensures.most;
  same = second_passed (collation c.args.table.now) c.args.letters.now.made.weights (chars c.args.left.now) (chars c.args.right.now) c.in_ok-second.second c.ignored_levels-levels-2.result
      c.in_ok-second.ensures (omega (arith, c.ignored_levels-levels-2.ensures.most, c.requires.most)) c.ignored_levels-levels-2.ensures.ignored;
  shorter = omega (arith, c.in_ok-second.ensures.shorter);
}
