-- What a line is, by its number and its bytes.
use Rattle.std.proofs.Common.{◌≡◌, ◌+◌, ℕ, List, Result, length, chars, subst, sym, ap, ◌∙◌, arith}
use Rattle.std.specs.Prelude.{IfErr}
use Rattle.std.specs.Str.{IsUtf8}
use Rattle.coll_nodes.specs.TableLayout.{collation}
use Rattle.coll_bench.specs.BatchReading.{FailsAs}
use Rattle.coll_bench.specs.BatchRuns.{ending_of}
use Rattle.coll_faults.specs.declared.faults.RunFault.{RunFault}
use Rattle.coll_word_lists.specs.WordReading.{word_key}
use Rattle.coll_word_lists.proofs.TextWords.{line_over, line_text, line_of_word, line_not_utf8, takes}
use Rattle.coll_word_lists.proofs.reading.take_line.Goals as goal

pub returns-then-number-gt-MOST_LINES-clause-err : goal.returns-then-number-gt-MOST_LINES-clause-err
returns-then-number-gt-MOST_LINES-clause-err c =
    let words = c.args.words.now.items in
    let number : c.next_number-number.result ≡ length words + 1 = c.next_number-number.ensures ∙ ap (λ (n : ℕ). n + 1) (c.len.ensures ∙ c.args.words.now.ok.0) in
    rw c.fault_at.ensures
    (line_over (length words) c.next_number-number.result c.args.line.now c.args.line.now number c.requires.short c.requires.few (omega (arith, c.if-number-gt-MOST_LINES.true)))

pub returns-in-Ok-clause-ok : goal.returns-in-Ok-clause-ok
returns-in-Ok-clause-ok c =
    let words = c.args.words.now.items in
    let number : c.next_number-number.result ≡ length words + 1 = c.next_number-number.ensures ∙ ap (λ (n : ℕ). n + 1) (c.len.ensures ∙ c.args.words.now.ok.0) in
    takes (word_key (collation c.args.table.now)) words c.put_word.new.words.items c.args.line.now (chars c.in-Ok.text.now) c.put_word.result c.put_word.ensures.ok c.put_word.ensures.short
    (line_of_word (length words) c.next_number-number.result c.args.line.now c.in-Ok.text.now number c.requires.short (omega (arith, c.if-number-gt-MOST_LINES.false))
    (c.in-Ok.ensures.cases.0 ∙ c.without_return.ensures) (subst IsUtf8 c.without_return.ensures c.in-Ok.ensures.cases.1))

pub returns-in-Ok-clause-err : goal.returns-in-Ok-clause-err
returns-in-Ok-clause-err c =
    let words = c.args.words.now.items in
    let number : c.next_number-number.result ≡ length words + 1 = c.next_number-number.ensures ∙ ap (λ (n : ℕ). n + 1) (c.len.ensures ∙ c.args.words.now.ok.0) in
    subst (λ (word : Result (List ℕ) RunFault). IfErr c.put_word.result (λ ended. FailsAs (ending_of ended) word ended))
    (sym (line_text (length words) c.next_number-number.result c.args.line.now c.in-Ok.text.now number c.requires.short (omega (arith, c.if-number-gt-MOST_LINES.false))
    (c.in-Ok.ensures.cases.0 ∙ c.without_return.ensures) (subst IsUtf8 c.without_return.ensures c.in-Ok.ensures.cases.1)))
    c.put_word.ensures.err

pub returns-in-Err-clause-err : goal.returns-in-Err-clause-err
returns-in-Err-clause-err c =
    let words = c.args.words.now.items in
    let number : c.next_number-number.result ≡ length words + 1 = c.next_number-number.ensures ∙ ap (λ (n : ℕ). n + 1) (c.len.ensures ∙ c.args.words.now.ok.0) in
    rw c.fault_at-in-Err.ensures
    (line_not_utf8 (length words) c.next_number-number.result c.args.line.now c.args.line.now number c.requires.short (omega (arith, c.if-number-gt-MOST_LINES.false))
    (subst (λ (bytes : List ℕ). IsUtf8 bytes → ⊥) c.without_return.ensures c.in-Err.ensures.cases.0))
