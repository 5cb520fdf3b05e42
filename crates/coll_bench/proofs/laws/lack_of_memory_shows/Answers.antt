use Rattle.coll_bench.proofs.LackCutLemmas.{lack_shows_cut, lack_shows_prefix}
use Rattle.coll_bench.proofs.LackLemmas.{lack_shows, lack_shows_last}
use Rattle.coll_bench.proofs.laws.lack_of_memory_shows.Goals as goal

pub returns : goal.returns
returns g = record { shows = lack_shows; shows_last = lack_shows_last; shows_cut = lack_shows_cut; shows_prefix = lack_shows_prefix }
