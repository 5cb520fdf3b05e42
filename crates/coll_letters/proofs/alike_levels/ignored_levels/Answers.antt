-- One level more is ignored.
use Rattle.std.proofs.Common.{arith}
use Rattle.coll_letters.proofs.alike_levels.ignored_levels.Goals as goal

pub loop-level-init : goal.loop-level-init
loop-level-init c = λ level within. absurd (omega (arith, within))
