use Rattle.std.proofs.Common.{◌≡◌, drop}
use Rattle.std.specs.Str.{chars}
use Rattle.std.specs.Prelude.{string_bytes}
use Rattle.coll_syntax.specs.Elements.{characters_of}
use Rattle.coll_syntax.proofs.ElementLemmas.{prefixed}
use Rattle.coll_syntax.proofs.elements.characters.Given as goal

abbrev pub invariant-loop-piece : goal.invariant-loop-piece
invariant-loop-piece l = characters_of l.pieces ≡ prefixed (chars (string_bytes l.text)) (characters_of (drop l.piece-index l.pieces))
