use Rattle.std.proofs.Common.{get_or, refl, sym}
use Rattle.coll_lex.proofs.RunLemmas.{first_stands, behind_first, separator_cut, mark_gathers, blank_passed, semicolon_taken, comma_taken, separator_first, some_begins}
use Rattle.coll_lex.proofs.GatherLemmas.{on_refusal}
use Rattle.coll_lex.proofs.scanning.Scan.take_separator.Goals as goal

pub range_from-requires : goal.range_from-requires
range_from-requires c = λ _. separator_cut c.args.special c.args.text.now c.utf8.text c.requires.separator

pub returns-then-is_blank-clause-ok : goal.returns-then-is_blank-clause-ok
returns-then-is_blank-clause-ok c =
    let text = c.args.text.now in
    let stands = first_stands text (some_begins c.args.special.escape text c.requires.separator) in
    let blank = rw (c.from.ensures, c.as_bytes.ensures.value) at c.if-is_blank.ensures in
    blank_passed c.args.special c.args.self.now text c.range_from.result.now (get_or text 0 0) c.requires.outside c.requires.unescaped c.requires.no_word
    (behind_first text _ c.range_from.result.now (get_or text 0 0) (get_or text 0 0) stands refl c.range_from.ensures.value)
    (separator_first c.args.special text _ (get_or text 0 0) c.requires.separator stands) (sym blank)

pub returns-in_err-push-clause-memory : goal.returns-in_err-push-clause-memory
returns-in_err-push-clause-memory c =
    let other = rw (c.from.ensures, c.as_bytes.ensures.value) at c.if-is_blank.ensures in
    on_refusal _ _ (mark_gathers c.args.special c.args.self.now c.args.text.now c.requires.outside c.requires.unescaped c.requires.separator (sym other))

pub range_from-requires-then-first-eq59 : goal.range_from-requires-then-first-eq59
range_from-requires-then-first-eq59 c = λ _. separator_cut c.args.special c.args.text.now c.utf8.text c.requires.separator

pub returns-then-first-eq59-clause-ok : goal.returns-then-first-eq59-clause-ok
returns-then-first-eq59-clause-ok c =
    let text = c.args.text.now in
    let stands = first_stands text (some_begins c.args.special.escape text c.requires.separator) in
    let is = rw c.as_bytes.ensures.value at c.if-first-eq59.true in
    let rest = c.range_from-then-first-eq59.result.now in
    semicolon_taken c.args.special c.args.self.now _ text rest (get_or text 0 0) c.requires.outside c.requires.unescaped c.requires.no_word
    (behind_first text _ rest (get_or text 0 0) (get_or text 0 0) stands refl c.range_from-then-first-eq59.ensures.value)
    (separator_first c.args.special text _ (get_or text 0 0) c.requires.separator stands) is (rw c.in_ok-push.ensures.ok refl)

pub returns-in_err-push-2-clause-memory : goal.returns-in_err-push-2-clause-memory
returns-in_err-push-2-clause-memory c =
    let other = rw (c.from.ensures, c.as_bytes.ensures.value) at c.if-is_blank.ensures in
    on_refusal _ _ (mark_gathers c.args.special c.args.self.now c.args.text.now c.requires.outside c.requires.unescaped c.requires.separator (sym other))

pub range_from-requires-2 : goal.range_from-requires-2
range_from-requires-2 c = λ _. separator_cut c.args.special c.args.text.now c.utf8.text c.requires.separator

pub returns-clause-ok : goal.returns-clause-ok
returns-clause-ok c =
    let text = c.args.text.now in
    let stands = first_stands text (some_begins c.args.special.escape text c.requires.separator) in
    let other = rw (c.from.ensures, c.as_bytes.ensures.value) at c.if-is_blank.ensures in
    let no = rw c.as_bytes.ensures.value at c.if-first-eq59.false in
    let rest = c.range_from-2.result.now in
    comma_taken c.args.special c.args.self.now _ text rest (get_or text 0 0) c.requires.outside c.requires.unescaped c.requires.no_word
    (behind_first text _ rest (get_or text 0 0) (get_or text 0 0) stands refl c.range_from-2.ensures.value)
    (separator_first c.args.special text _ (get_or text 0 0) c.requires.separator stands) (sym other) no (rw c.in_ok-push-2.ensures.ok refl)
