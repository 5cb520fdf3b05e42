-- The bytes of a text, and what a list ends as, once the slice of its members that it lent is given back.
use Rattle.std.specs.Prelude.{List, ℕ, ◌++◌, length, take, drop, string_bytes}
use Rattle.std.specs.Borrow.{Lends, Fml, RattleType, MutBor, Array}
use Rattle.coll_lex.specs.declared.buffers.Bytes.{Bytes}
use Rattle.coll_lex.specs.declared.buffers.Bytes.TheVariants.{Short, Long}
use Rattle.coll_lex.specs.contracts.buffers.ListBuf.{the_row}

-- the bytes of a text, wherever they lie
abbrev pub text_bytes : Bytes → List ℕ
text_bytes (Short text) = text.bytes
text_bytes (Long text) = string_bytes text

-- the members once those of the slice stand in their places: as many as there were
abbrev pub rewritten : {X : Type 0} → List X → List X → List X
rewritten old members = take (length old) (members ++ drop (length members) old)

-- the list ends with the members that the slice had last
abbrev pub LendsMembers : (X : RattleType) → MutBor (List X.Denot) → MutBor (List X.Denot) → Fml
LendsMembers X list slice = Lends (the_row X) (Array X 0) list slice (rewritten list.now)
