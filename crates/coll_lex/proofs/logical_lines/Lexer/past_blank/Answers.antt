use Rattle.std.proofs.Common.{sym}
use Rattle.coll_lex.proofs.PlainTextLemmas.{blank_reads, blank_same}
use Rattle.coll_lex.proofs.RunLemmas.{separator_cut}
use Rattle.coll_lex.proofs.logical_lines.Lexer.past_blank.Goals as goal

pub range_from-requires : goal.range_from-requires
range_from-requires c =
    let begins = rw c.as_bytes.ensures.value at c.if-not-begins_with_separator.ensures in
    λ _. separator_cut c.self.inside.special c.args.text.now c.utf8.text (sym begins)

pub returns-then-is_blank-clause-reads : goal.returns-then-is_blank-clause-reads
returns-then-is_blank-clause-reads c =
    let special = c.self.inside.special in
    let text = c.args.text.now in
    let rest = c.range_from.result.now in
    let begins = rw c.as_bytes.ensures.value at c.if-not-begins_with_separator.ensures in
    let blank = rw (c.from.ensures, c.as_bytes-2.ensures.value) at c.if-is_blank.ensures in
    rw (← c.self.view_is) (blank_same special c.self.inside.alloc text rest (blank_reads special c.self.inside.alloc text rest (sym begins) (sym blank) c.range_from.ensures.value))

pub returns-then-is_blank-clause-ends : goal.returns-then-is_blank-clause-ends
returns-then-is_blank-clause-ends c =
    let special = c.self.inside.special in
    let text = c.args.text.now in
    let rest = c.range_from.result.now in
    let begins = rw c.as_bytes.ensures.value at c.if-not-begins_with_separator.ensures in
    let blank = rw (c.from.ensures, c.as_bytes-2.ensures.value) at c.if-is_blank.ensures in
    rw (← c.self.view_is) (sym (blank_reads special c.self.inside.alloc text rest (sym begins) (sym blank) c.range_from.ensures.value).ends)
