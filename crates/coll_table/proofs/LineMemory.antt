-- For which lines memory may be taken: none before the category, and in it each that ends a logical line with tokens.
use Rattle.std.proofs.Common.{◌≡◌, ℕ, false, IsTrue, List, Some, Result, Ok, Err, IfErr, ap, subst, ◌∙◌, refl}
use Rattle.std.specs.Prelude.{◌==◌}
use Rattle.coll_lex.specs.LogicalLines.{LexerState, number_of, outside, fed, needs_memory, takes_memory}
use Rattle.coll_lex.specs.Faults.{lex_fault_number}
use Rattle.coll_lex.specs.declared.faults.LexFault.{LexFault}
use Rattle.coll_lex.specs.declared.faults.LexFault.TheVariants as lex
use Rattle.coll_lex.specs.declared.tokens.Line.{Line}
use Rattle.coll_lex.proofs.LineEnds.{fed-number}
use Rattle.coll_lex.proofs.OutsideLines.{outside-not_starved}
use Rattle.coll_texts.specs.LoadFaults.{lex_cause}
use Rattle.coll_texts.specs.Loading.{LoaderState, by_outside}
use Rattle.coll_texts.specs.declared.load_faults.LoadFault.{LoadFault}
use Rattle.coll_texts.specs.declared.load_faults.LoadCause.{LoadCause}
use Rattle.coll_texts.specs.declared.load_faults.LoadCause.TheVariants.{Lex, OutOfMemory}

-- Before the category.

-- what is no lack of memory is a cause as it is
own_cause : (fault : LexFault) → (lex_fault_number fault == 70) ≡ false → lex_cause fault ≡ Lex fault
own_cause lex.OutOfMemory h = cc
own_cause _ h = refl

-- the fault of a line before the category has the lexer's cause
pub outside_cause : (s : LexerState) (line : List ℕ) (fault : LexFault) (cause : LoadCause) → outside s line ≡ Err fault → cause ≡ lex_cause fault → cause ≡ Lex fault
outside_cause s line fault cause e is = is ∙ own_cause fault (outside-not_starved s line fault e)

-- so it is what the definition answers
pub outside_refused : (s : LoaderState) (line : List ℕ) (number : ℕ) (fault : LexFault) (cause : LoadCause) → number ≡ number_of s.lexer → outside s.lexer line ≡ Err fault → cause ≡ lex_cause fault
    → by_outside s (outside s.lexer line) ≡ Err (record { line = number; cause = cause })
outside_refused s line number fault cause at e is = rw (at, outside_cause s.lexer line fault cause e is) (ap (by_outside s) e)

-- and no lack of memory
pub outside_takes_none : (s : LexerState) (line : List ℕ) (fault : LexFault) (cause : LoadCause) → outside s line ≡ Err fault → cause ≡ lex_cause fault → cause ≡ OutOfMemory → ⊥
outside_takes_none s line fault cause e is lack = let lexed = outside_cause s line fault cause e is in cc

-- In the category.

-- whatever is answered to a line that ends a logical line with tokens, memory may be taken for it
pub whole_takes : {A : Type 0} (s after : LexerState) (line : List ℕ) (whole : Line) (result : Result A LoadFault) → fed s line ≡ Ok (Some whole, after)
    → IfErr result (λ fault. fault.cause ≡ OutOfMemory → IsTrue (takes_memory s line))
unfolding takes_memory
whole_takes s after line whole (Ok answer) e = tt
whole_takes s after line whole (Err fault) e = λ _. ap needs_memory e

-- a lack of memory at a line that ends a logical line carries its number, which is that of the line handed in
pub whole_numbered : {A : Type 0} (s after : LexerState) (line : List ℕ) (whole : Line) (result : Result A LoadFault) → fed s line ≡ Ok (Some whole, after)
    → IfErr result (λ fault. fault.cause ≡ OutOfMemory → fault.line ≡ whole.number) → IfErr result (λ fault. fault.cause ≡ OutOfMemory → fault.line ≡ number_of s)
whole_numbered s after line whole result e h = subst (λ (number : ℕ). IfErr result (λ fault. fault.cause ≡ OutOfMemory → fault.line ≡ number)) (fed-number s line whole after e) h
