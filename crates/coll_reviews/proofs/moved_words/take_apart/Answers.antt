-- Each word stays or moves, down to the first.
use Rattle.std.proofs.Common.{◌≡◌, List, arith, length, reverse, rules, subst, sym}
use Rattle.coll_nodes.specs.TableLayout.{collation}
use Rattle.coll_reviews.specs.MovedWords.{MayStandBefore}
use Rattle.coll_reviews.specs.declared.listed_words.ListedWord.{ListedWord}
use Rattle.coll_reviews.proofs.OrderedWords.{in_order, moves_so, none_apart, stays_so}
use Rattle.coll_reviews.proofs.SeenWords.{kept_before, kept_here, none_placed, seen_before}
use Rattle.coll_reviews.proofs.moved_words.take_apart.Goals as goal

pub words-init : goal.words-init
words-init c = record {
  apart = none_apart (collation c.args.table.now) c.args.list.now.items c.args.kept.now.items c.args.moved.now.items c.requires.kept c.requires.moved;
  placed = none_placed c.args.list.now.items c.args.kept.now.items 0 c.requires.kept;
  serves = c.requires.order;
}

pub may_stay-requires-clause-seen : goal.may_stay-requires-clause-seen
may_stay-requires-clause-seen c = λ seen.
    let here : c.len-place.result ≡ length c.pop.new.self.items = omega (arith, c.len-place.ensures, c.pop.new.self.ok.0) in
    subst (λ (kept : List ListedWord). MayStandBefore (collation c.args.table.now) c.in-Some.listed (reverse kept)) (sym c.deref.ensures.value)
    (seen_before c.args.list.now.items c.words.list.items c.pop.new.self.items c.words.kept.items c.words.last c.in-Some.listed c.words.invariant.placed c.in-Some.ensures.items
    (collation c.args.table.now) c.args.staying.now.behind.items c.len-place.result c.requires.seen here (c.is_behind-seen.ensures seen))

pub words-preserved-then-branch : goal.words-preserved-then-branch
words-preserved-then-branch c =
    let here : c.len-place.result ≡ length c.pop.new.self.items = omega (arith, c.len-place.ensures, c.pop.new.self.ok.0) in
    record {
      apart = stays_so (collation c.args.table.now) c.args.list.now.items c.words.list.items c.pop.new.self.items c.words.kept.items c.words.moved.items c.in-Some.listed c.words.invariant.apart
          c.in-Some.ensures.items c.push.new.self.items c.in_ok-push.ensures.items (rw c.deref.ensures.value at (c.in_ok-may_stay.ensures.may c.if-branch.true));
      placed = kept_here c.args.list.now.items c.words.list.items c.pop.new.self.items c.words.kept.items c.words.last c.in-Some.listed c.words.invariant.placed c.in-Some.ensures.items
          c.push.new.self.items c.len-place.result here c.in_ok-push.ensures.items;
      serves = c.in_ok-may_stay.ensures.serves;
    }

pub words-preserved : goal.words-preserved
words-preserved c = record {
  apart = moves_so (collation c.args.table.now) c.args.list.now.items c.words.list.items c.pop.new.self.items c.words.kept.items c.words.moved.items c.in-Some.listed c.words.invariant.apart
      c.in-Some.ensures.items c.push-in-Some.new.self.items c.in_ok-push-2.ensures.items;
  placed = kept_before c.args.list.now.items c.words.list.items c.pop.new.self.items c.words.kept.items c.words.last c.in-Some.listed c.words.invariant.placed c.in-Some.ensures.items;
  serves = search rules;
}

pub returns-clause-ordered : goal.returns-clause-ordered
returns-clause-ordered c = in_order (collation c.args.table.now) (reverse c.words.kept.items) c.words.invariant.apart.ordered
