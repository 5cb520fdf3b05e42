-- Each turn takes the next character.
use Rattle.std.proofs.Common.{sym}
use Rattle.std.specs.Prelude.{chars, string_bytes}
use Rattle.std.proofs.lemmas.Str.{chars-nil}
use Rattle.coll_syntax.specs.Elements.{characters_of}
use Rattle.coll_syntax.proofs.ElementLemmas.{prefixed-nil, takes_char}
use Rattle.coll_syntax.proofs.elements.characters.Goals as goal

pub loop-piece-init : goal.loop-piece-init
loop-piece-init c = rw (c.new-text.ensures.bytes, chars-nil) (prefixed-nil (characters_of c.args.pieces.now))

pub loop-piece-preserved : goal.loop-piece-preserved
loop-piece-preserved c =
    let e = rw c.in-Char.is at c.piece-item.is in
    takes_char c.args.pieces.now (chars (string_bytes c.loop-piece.text)) (chars (string_bytes c.push.new.text)) c.loop-piece.piece-index c.in-Char.c c.loop-piece.invariant c.loop-piece-test.true
    (sym e) c.in_ok-push-in-Char.ensures
