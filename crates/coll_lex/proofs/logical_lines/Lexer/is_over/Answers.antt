use Rattle.std.proofs.Common.{arith}
use Rattle.coll_lex.specs.PlainTexts.{IsOver}
use Rattle.coll_lex.proofs.PlainTextLemmas.{over_all, over_from, told}
use Rattle.coll_lex.proofs.logical_lines.Lexer.is_over.Goals as goal

pub returns-then-blanks-bytes : goal.returns-then-blanks-bytes
returns-then-blanks-bytes c =
    let bytes = c.as_bytes-bytes.ensures.value in
    let blank = rw bytes at c.blanks_length-blanks.ensures.blank in
    let all = rw bytes at c.if-blanks-bytes.true in
    let over = over_all c.self.inside.special c.self.inside.alloc c.args.text.now c.blanks_length-blanks.result blank (omega (arith, all)) in
    rw (← c.self.view_is) (told _ (IsOver c.self.inside.special c.args.text.now) (λ _. over))

pub returns-else-blanks-bytes : goal.returns-else-blanks-bytes
returns-else-blanks-bytes c =
    let bytes = c.as_bytes-bytes.ensures.value in
    let blank = rw bytes at c.blanks_length-blanks.ensures.blank in
    let within = rw bytes at c.blanks_length-blanks.ensures.within in
    let other = rw bytes at c.if-blanks-bytes.false in
    let begins = rw bytes at c.begins_comment.ensures in
    rw (← c.self.view_is)
    (told c.begins_comment.result (IsOver c.self.inside.special c.args.text.now)
    (λ e. over_from c.self.inside.special c.self.inside.alloc c.args.text.now c.blanks_length-blanks.result blank (omega (arith, within, other)) (rw begins at e)))
