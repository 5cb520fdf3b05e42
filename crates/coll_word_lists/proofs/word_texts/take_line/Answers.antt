-- What a line is, by its number and its bytes.
use Rattle.std.proofs.Common.{◌≡◌, ◌+◌, ℕ, List, Result, length, chars, subst, sym, ap, ◌∙◌, arith}
use Rattle.std.specs.Prelude.{IfErr}
use Rattle.std.specs.Str.{IsUtf8}
use Rattle.coll_bench.specs.BatchReading.{FailsAs}
use Rattle.coll_bench.specs.BatchRuns.{ending_of}
use Rattle.coll_faults.specs.declared.faults.RunFault.{RunFault}
use Rattle.coll_word_lists.proofs.TextWords.{line_over, line_text, line_of_word, line_not_utf8}
use Rattle.coll_word_lists.proofs.WordTextLemmas.{takes_text}
use Rattle.coll_word_lists.proofs.word_texts.take_line.Goals as goal

pub returns-then-number-gt-MOST_LINES-clause-err : goal.returns-then-number-gt-MOST_LINES-clause-err
returns-then-number-gt-MOST_LINES-clause-err g c =
    let texts = g.L.TakesTexts.texts c.args.texts.now in
    let number : c.next_number-number.result ≡ length texts + 1 = c.next_number-number.ensures ∙ ap (λ (n : ℕ). n + 1) c.count.ensures in
    rw c.fault_at.ensures
    (line_over (length texts) c.next_number-number.result c.args.line.now c.args.line.now number c.requires.short c.requires.few (omega (arith, c.if-number-gt-MOST_LINES.true)))

pub returns-in-Ok-clause-ok : goal.returns-in-Ok-clause-ok
returns-in-Ok-clause-ok g c =
    let texts = g.L.TakesTexts.texts c.args.texts.now in
    let number : c.next_number-number.result ≡ length texts + 1 = c.next_number-number.ensures ∙ ap (λ (n : ℕ). n + 1) c.count.ensures in
    takes_text texts (g.L.TakesTexts.texts c.put_text.new.texts) c.args.line.now (chars c.in-Ok.text.now) c.put_text.result c.put_text.ensures.ok c.put_text.ensures.short
    (line_of_word (length texts) c.next_number-number.result c.args.line.now c.in-Ok.text.now number c.requires.short (omega (arith, c.if-number-gt-MOST_LINES.false))
    (c.in-Ok.ensures.cases.0 ∙ c.without_return.ensures) (subst IsUtf8 c.without_return.ensures c.in-Ok.ensures.cases.1))

pub returns-in-Ok-clause-err : goal.returns-in-Ok-clause-err
returns-in-Ok-clause-err g c =
    let texts = g.L.TakesTexts.texts c.args.texts.now in
    let number : c.next_number-number.result ≡ length texts + 1 = c.next_number-number.ensures ∙ ap (λ (n : ℕ). n + 1) c.count.ensures in
    subst (λ (word : Result (List ℕ) RunFault). IfErr c.put_text.result (λ ended. FailsAs (ending_of ended) word ended))
    (sym (line_text (length texts) c.next_number-number.result c.args.line.now c.in-Ok.text.now number c.requires.short (omega (arith, c.if-number-gt-MOST_LINES.false))
    (c.in-Ok.ensures.cases.0 ∙ c.without_return.ensures) (subst IsUtf8 c.without_return.ensures c.in-Ok.ensures.cases.1)))
    c.put_text.ensures.err

pub returns-in-Err-clause-err : goal.returns-in-Err-clause-err
returns-in-Err-clause-err g c =
    let texts = g.L.TakesTexts.texts c.args.texts.now in
    let number : c.next_number-number.result ≡ length texts + 1 = c.next_number-number.ensures ∙ ap (λ (n : ℕ). n + 1) c.count.ensures in
    rw c.fault_at-in-Err.ensures
    (line_not_utf8 (length texts) c.next_number-number.result c.args.line.now c.args.line.now number c.requires.short (omega (arith, c.if-number-gt-MOST_LINES.false))
    (subst (λ (bytes : List ℕ). IsUtf8 bytes → ⊥) c.without_return.ensures c.in-Err.ensures.cases.0))
