-- The next entry is put behind those before it.
use Rattle.std.proofs.Common.{◌≡◌, ◌+◌, length, arith}
use Rattle.coll_ranks.proofs.RecentLemmas.{first_more}
use Rattle.coll_ranks.proofs.recent_ranks.push_next.Goals as goal

pub returns : goal.returns
returns c =
    let next : c.args.rank ≡ length c.args.entries.now.items + 1 = omega (arith, c.if-rank-len.false, c.len.ensures, c.args.entries.now.ok.0) in
    λ table is first. first_more table c.args.entries.now.items c.push.new.self.items c.args.id c.args.rank next c.in_ok-push.ensures.items is first
