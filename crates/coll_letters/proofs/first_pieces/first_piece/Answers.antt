-- The first element is the character, or the string that was found.
use Rattle.std.proofs.Common.{chars}
use Rattle.coll_nodes.specs.TableLayout.{collation}
use Rattle.coll_letters.proofs.FirstPieceLemmas.{begins_alone_with, begins_with_found, begins_with_letter, bounded}
use Rattle.coll_letters.proofs.MarkLemmas.{stands_apart}
use Rattle.coll_letters.proofs.first_pieces.first_piece.Goals as goal

pub returns-then-is_apart : goal.returns-then-is_apart
returns-then-is_apart c =
    let table = collation c.args.table.now in
    let rest = chars c.in_ok-letter.rest.now in
    begins_alone_with table (chars c.args.text.now) c.in_ok-letter.letter rest c.in_ok-letter.ensures
    (stands_apart table c.args.marks.now c.requires c.in_ok-letter.letter rest (c.is_apart.ensures c.if-is_apart.true))

pub longest_string-requires : goal.longest_string-requires
longest_string-requires c =
    bounded (collation c.args.table.now) c.args.marks.now c.requires (chars c.args.text.now) c.in_ok-letter.letter (chars c.in_ok-letter.rest.now) c.most_at.result c.in_ok-letter.ensures c.most_at.ensures

pub returns-in-Some : goal.returns-in-Some
returns-in-Some c = begins_with_found (collation c.args.table.now) c.lemma_well_formed.ensures.well_formed (chars c.args.text.now) c.in-Some.found c.in-Some.ensures

pub returns-in-None : goal.returns-in-None
returns-in-None c =
    begins_with_letter (collation c.args.table.now) c.lemma_well_formed.ensures.well_formed (chars c.args.text.now) c.in_ok-letter.letter (chars c.in_ok-letter.rest.now) c.in_ok-letter.ensures c.in-None.ensures
