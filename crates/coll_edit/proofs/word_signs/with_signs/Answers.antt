-- Each byte is put with what stands before it, and in the end none is left.
use Rattle.std.proofs.Common.{◌≡◌, ◌+◌, ◌++◌, drop, get_or, sym, subst}
use Rattle.std.proofs.lemmas.List.{drop_all, drop_more}
use Rattle.coll_edit.specs.WordSigns.{with_signs}
use Rattle.coll_edit.specs.declared.word_signs.Before.{Before}
use Rattle.coll_edit.specs.declared.word_signs.Before.TheVariants as before
use Rattle.coll_edit.proofs.SignLemmas.{signs_end, signs_on}
use Rattle.coll_edit.proofs.word_signs.with_signs.Goals as goal

pub line-preserved : goal.line-preserved
line-preserved c =
    let line = c.args.line.now in
    let i = c.line.byte-index in
    let kept = c.put_byte.new.kept.items in
    let whole = with_signs before.Apart line in
    subst (λ (s : Before). kept ++ with_signs s (drop (i + 1) line) ≡ whole) (sym c.behind-stands.ensures)
    (signs_on whole c.line.kept.items kept (drop i line) (drop (i + 1) line) c.line.stands (get_or line i 0) c.line.invariant (drop_more line i 0 c.line-test.true) c.in_ok-put_byte.ensures)

pub returns : goal.returns
returns c =
    let line = c.args.line.now in
    let left = drop c.line.byte-index line in
    signs_end (with_signs before.Apart line) c.line.kept.items left c.line.stands c.line.invariant (drop_all c.line.byte-index line c.line-test.false)
