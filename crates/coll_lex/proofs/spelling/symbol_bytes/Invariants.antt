use Rattle.std.proofs.Common.{◌≡◌, ◌+◌, ◌*◌, ◌≤◌, [], ◌∷◌, take}
use Rattle.arrayvec.specs.ArrayVec.{array_vec_len}
use Rattle.coll_lex.specs.Characters.{less_than}
use Rattle.coll_lex.specs.Spelling.{spelled_name}
use Rattle.coll_lex.proofs.spelling.symbol_bytes.Given as goal

abbrev pub invariant-name : goal.invariant-name
invariant-name g l = record {
  items : l.bytes.items ≡ less_than ∷ spelled_name (take l.byte-index l.name) [];
  room : array_vec_len l.bytes ≤ 1 + 2 * l.byte-index;
}
