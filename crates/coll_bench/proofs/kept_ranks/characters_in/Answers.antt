-- All characters of a text are counted.
use Rattle.std.proofs.Common.{rules}
use Rattle.std.proofs.lemmas.Str.{chars_from_encodes}
use Rattle.coll_bench.proofs.kept_ranks.characters_in.Goals as goal

pub returns : goal.returns
returns c = search (rules, chars_from_encodes)
