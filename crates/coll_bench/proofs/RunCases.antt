-- How a run of a batch ends, by what its inputs and its output answered.
use Rattle.std.proofs.Common.{◌≡◌, inl, inr, ⊎_elim, ℕ, zero, suc, pred, ◌<◌, ◌≤◌, Bool, true, false, if◌then◌else◌, List, []}
use Rattle.std.proofs.Common.{◌++◌, Option, Some, None, Result, Ok, Err, refl, sym, ap, ◌∙◌, subst, arith, append-nil}
use Rattle.std.specs.Prelude.{IfErr, IfOk}
use Rattle.std.specs.Io.KnownBytes.{Appends}
use Rattle.coll_nodes.specs.Table.{Collation}
use Rattle.coll_nodes.specs.TableLayout.{TableValue, collation}
use Rattle.coll_table.specs.Loads.{Loads, FaultSays}
use Rattle.coll_texts.specs.Reading.{reads}
use Rattle.coll_lex.specs.declared.faults.LexFault.{LexFault}
use Rattle.coll_lex.specs.declared.faults.LexFault.TheVariants as lex
use Rattle.coll_syntax.specs.declared.syntax_faults.SyntaxFault.{SyntaxFault}
use Rattle.coll_syntax.specs.declared.syntax_faults.SyntaxFault.TheVariants as syntax
use Rattle.coll_texts.specs.declared.load_faults.LoadFault.{LoadFault}
use Rattle.coll_texts.specs.declared.load_faults.LoadCause.{LoadCause}
use Rattle.coll_texts.specs.declared.load_faults.LoadCause.TheVariants as load
use Rattle.coll_bench.specs.BatchOutcome.{table_fault, table_or_fault, unless_faulty, after_deltas, after_inputs, texts_of}
use Rattle.coll_bench.specs.BatchOutcome.{is_any_too_long, batch_output, text_too_long, output_or_fault, batch_outcome, fault_in}
use Rattle.coll_bench.specs.BatchReading.{ReadsDeltas, DeltasFail, InputsFail, ReadsInputs}
use Rattle.coll_bench.specs.BatchRuns.{Ending, ReadFailed, WriteFailed, Starved, Refused, ending_of, DeltasStopWithin, InputsStopWithin}
use Rattle.coll_bench.specs.BatchRuns.{DeltasStarve, InputsStarve, WritesPrefix, BatchRanTo, BatchRuns, CountsInputs, raised_at}
use Rattle.coll_bench.specs.BatchWriting.{Outputs, IsOfOutput, starved_key}
use Rattle.coll_bench.specs.Reports.{failed_write}
use Rattle.coll_bench.specs.Serving.{ReadsNone}
use Rattle.coll_bench.specs.declared.batches.Batch.{Batch}
use Rattle.coll_faults.specs.declared.faults.Fault.{Fault}
use Rattle.coll_faults.specs.declared.faults.RunFault.{RunFault}

-- The table.

-- inputs of which the table is at fault
faulty_table : (table_text : List ℕ) (delta_texts : List (List ℕ)) (f : LoadFault) → reads table_text ≡ Err f → after_inputs table_text delta_texts ≡ Err (table_fault f)
unfolding after_inputs
faulty_table table_text delta_texts f e = ap (λ r. unless_faulty (table_or_fault r) (λ table. after_deltas 1 table delta_texts)) e

pub sound_table : (table_text : List ℕ) (delta_texts : List (List ℕ)) (table : Collation) → reads table_text ≡ Ok table → after_inputs table_text delta_texts ≡ after_deltas 1 table delta_texts
unfolding after_inputs
sound_table table_text delta_texts table e = ap (λ r. unless_faulty (table_or_fault r) (λ table. after_deltas 1 table delta_texts)) e

module _ (table_text : List ℕ) (delta_texts : List (List ℕ)) (left_after : Option (List ℕ)) (lefts_after : List (Option (List ℕ))) where
  abbrev fails : LoadCause → ℕ → Type 0
  fails cause line = let f : LoadFault = record { line = line; cause = cause } in InputsFail (ending_of (table_fault f)) table_text delta_texts left_after lefts_after (table_fault f)

  at_fault : (cause : LoadCause) (line : ℕ) → reads table_text ≡ Err (record { line = line; cause = cause })
      → after_inputs table_text delta_texts ≡ Err (table_fault (record { line = line; cause = cause }))
  at_fault cause line h = faulty_table table_text delta_texts (record { line = line; cause = cause }) h

  by_lex : (l : LexFault) (line : ℕ) → FaultSays (load.Lex l) line table_text left_after → fails (load.Lex l) line
  by_lex lex.NotUtf8 line h = at_fault (load.Lex lex.NotUtf8) line h
  by_lex lex.OpenSymbol line h = at_fault (load.Lex lex.OpenSymbol) line h
  by_lex lex.EmptySymbol line h = at_fault (load.Lex lex.EmptySymbol) line h
  by_lex lex.BadName line h = at_fault (load.Lex lex.BadName) line h
  by_lex lex.BadCodePoint line h = at_fault (load.Lex lex.BadCodePoint) line h
  by_lex lex.OpenString line h = at_fault (load.Lex lex.OpenString) line h
  by_lex lex.CharacterConstant line h = at_fault (load.Lex lex.CharacterConstant) line h
  by_lex lex.DanglingEscape line h = at_fault (load.Lex lex.DanglingEscape) line h
  by_lex lex.LineTooLong line h = at_fault (load.Lex lex.LineTooLong) line h
  by_lex lex.BadCharDirective line h = at_fault (load.Lex lex.BadCharDirective) line h
  by_lex lex.TooManyLines line h = at_fault (load.Lex lex.TooManyLines) line h
  by_lex lex.OutOfMemory line h = absurd h

  by_syntax : (s : SyntaxFault) (line : ℕ) → FaultSays (load.Syntax s) line table_text left_after → fails (load.Syntax s) line
  by_syntax syntax.UnknownStatement line h = at_fault (load.Syntax syntax.UnknownStatement) line h
  by_syntax syntax.MissingOperand line h = at_fault (load.Syntax syntax.MissingOperand) line h
  by_syntax syntax.ExtraOperand line h = at_fault (load.Syntax syntax.ExtraOperand) line h
  by_syntax syntax.BadRule line h = at_fault (load.Syntax syntax.BadRule) line h
  by_syntax syntax.TooManyLevels line h = at_fault (load.Syntax syntax.TooManyLevels) line h
  by_syntax syntax.WeightTooLong line h = at_fault (load.Syntax syntax.WeightTooLong) line h
  by_syntax syntax.ElementLength line h = at_fault (load.Syntax syntax.ElementLength) line h
  by_syntax syntax.BlockTooLong line h = at_fault (load.Syntax syntax.BlockTooLong) line h
  by_syntax syntax.EmptyString line h = at_fault (load.Syntax syntax.EmptyString) line h
  by_syntax syntax.BadOperand line h = at_fault (load.Syntax syntax.BadOperand) line h
  by_syntax syntax.OutOfMemory line h = absurd h

  by_cause : (cause : LoadCause) (line : ℕ) → FaultSays cause line table_text left_after → fails cause line
  by_cause (load.Lex l) line h = by_lex l line h
  by_cause (load.Syntax s) line h = by_syntax s line h
  by_cause load.NoCategory line h = at_fault load.NoCategory line h
  by_cause load.NoRules line h = at_fault load.NoRules line h
  by_cause load.RulesDiffer line h = at_fault load.RulesDiffer line h
  by_cause load.DeclaredTwice line h = at_fault load.DeclaredTwice line h
  by_cause load.NotDeclared line h = at_fault load.NotDeclared line h
  by_cause load.PlacedTwice line h = at_fault load.PlacedTwice line h
  by_cause load.SymbolWithWeights line h = at_fault load.SymbolWithWeights line h
  by_cause load.TooManyWeights line h = at_fault load.TooManyWeights line h
  by_cause load.WeightNotPlaced line h = at_fault load.WeightNotPlaced line h
  by_cause load.StringTwice line h = at_fault load.StringTwice line h
  by_cause load.SectionTwice line h = at_fault load.SectionTwice line h
  by_cause load.OutsideOrder line h = at_fault load.OutsideOrder line h
  by_cause load.Full line h = at_fault load.Full line h
  by_cause load.NoEnd line h = at_fault load.NoEnd line h
  by_cause load.NotASymbol line h = at_fault load.NotASymbol line h
  by_cause load.ReadFault line h = h
  by_cause load.OutOfMemory line h = h

-- what a load says of the inputs where it answers a fault
pub load_fails : (left left_after : Option (List ℕ)) (lefts lefts_after : List (Option (List ℕ))) (f : LoadFault) → Loads left left_after (Err f)
    → ReadsInputs left left_after lefts lefts_after (Err (table_fault f))
load_fails left left_after lefts lefts_after f says table_text delta_texts e es = by_cause table_text delta_texts left_after lefts_after f.cause f.line (says table_text e)

-- The delta files behind the table.

module _ (table_text : List ℕ) (delta_texts : List (List ℕ)) (table : Collation) (sound : reads table_text ≡ Ok table) where
  -- what a fault says of the delta files it says of the inputs
  fails_behind : (kind : Ending) (left : Option (List ℕ)) (lefts : List (Option (List ℕ))) (ended : RunFault) → 0 < ended.input → DeltasFail kind table delta_texts lefts ended
      → InputsFail kind table_text delta_texts left lefts ended
  fails_behind ReadFailed left lefts ended behind h = (h.0, at_input ended.input behind h.1)
    where
      at_input : (input : ℕ) → 0 < input → DeltasStopWithin (pred input) table delta_texts lefts → InputsStopWithin input table_text delta_texts left lefts
      at_input zero behind h = absurd (omega (arith, behind))
      at_input (suc before) behind h = (table, sound, h)
  fails_behind WriteFailed left lefts ended behind h = h
  fails_behind Starved left lefts ended behind h = at_input ended.input behind h
    where
      at_input : (input : ℕ) → 0 < input → DeltasStarve (pred input) table delta_texts ended.line → InputsStarve input ended.line table_text delta_texts left
      at_input zero behind h = absurd (omega (arith, behind))
      at_input (suc before) behind h = (table, sound, h)
  fails_behind Refused left lefts ended behind h = sound_table table_text delta_texts table sound ∙ h

pub deltas_fail : (left left_after : Option (List ℕ)) (lefts lefts_after : List (Option (List ℕ))) (table new : Collation) (ended : RunFault)
    → ((text : List ℕ) → left ≡ Some text → reads text ≡ Ok table) → 0 < ended.input
    → ReadsDeltas table new lefts lefts_after (Err ended) → ReadsInputs left left_after lefts lefts_after (Err ended)
deltas_fail left left_after lefts lefts_after table new ended sound behind h table_text delta_texts e es =
    fails_behind table_text delta_texts table (sound table_text e) (ending_of ended) left_after lefts_after ended behind (h delta_texts es)

-- The whole run.

-- bytes behind those that are known
appended : (a c : Option (List ℕ)) (before bytes : List ℕ) → a ≡ Some before → Appends a c bytes → c ≡ Some (before ++ bytes)
appended None c before bytes e h = absurd (cc)
appended (Some l) None before bytes e h = absurd h
appended (Some l) (Some m) before bytes e h = let same : l ≡ before = cc in ap Some (h ∙ ap (λ l. l ++ bytes) same)

module _ (b : Batch) (left left_after : Option (List ℕ)) (lefts lefts_after : List (Option (List ℕ))) (taken : Option (List ℕ)) where
  faulty_inputs : (table_text : List ℕ) (delta_texts : List (List ℕ)) (f : RunFault) → after_inputs table_text delta_texts ≡ Err f → batch_outcome b table_text delta_texts ≡ Err f
  unfolding batch_outcome
  faulty_inputs table_text delta_texts f e = ap (λ r. unless_faulty r (output_or_fault b)) e

  sound_inputs : (table_text : List ℕ) (delta_texts : List (List ℕ)) (table : Collation) (long : Bool) → after_inputs table_text delta_texts ≡ Ok table → is_any_too_long (texts_of b) ≡ long
      → batch_outcome b table_text delta_texts ≡ (if long then Err text_too_long else Ok (batch_output b table))
  unfolding batch_outcome
  sound_inputs table_text delta_texts table long e f =
      ap (λ r. unless_faulty r (output_or_fault b)) e ∙ ap (λ (l : Bool). if l then Err text_too_long else Ok (batch_output b table)) f

  -- an input is at fault
  pub inputs_fail : (ended : RunFault) → ReadsInputs left left_after lefts lefts_after (Err ended) → BatchRuns b left left_after lefts lefts_after taken taken (Err ended)
  inputs_fail ended h table_text delta_texts before e es t = ([], t ∙ ap Some (sym (append-nil before)), by_kind (ending_of ended) (h table_text delta_texts e es))
    where
      by_kind : (kind : Ending) → InputsFail kind table_text delta_texts left_after lefts_after ended → BatchRanTo kind b table_text delta_texts left_after lefts_after [] ended
      by_kind ReadFailed h = (refl, h.0, h.1)
      by_kind WriteFailed h = absurd h
      by_kind Starved h = inr (refl, h)
      by_kind Refused h = (refl, faulty_inputs table_text delta_texts ended h)

  module _ (table : TableValue) (read : ReadsInputs left left_after lefts lefts_after (Ok table)) where
    -- a text is too long
    pub text_fails : is_any_too_long (texts_of b) ≡ true → BatchRuns b left left_after lefts lefts_after taken taken (Err text_too_long)
    text_fails long table_text delta_texts before e es t =
        ([], t ∙ ap Some (sym (append-nil before)), (refl, sound_inputs table_text delta_texts (collation table) true (read table_text delta_texts e es) long))

    -- the output is written
    pub output_done : (taken_after : Option (List ℕ)) → is_any_too_long (texts_of b) ≡ false → Appends taken taken_after (batch_output b (collation table))
        → BatchRuns b left left_after lefts lefts_after taken taken_after (Ok tt)
    output_done taken_after short sent table_text delta_texts before e es t = (
      batch_output b (collation table),
      appended taken taken_after before (batch_output b (collation table)) t sent,
      sound_inputs table_text delta_texts (collation table) false (read table_text delta_texts e es) short,
    )

    -- a prefix of the output is written
    pub output_stops : (taken_after : Option (List ℕ)) (f : Fault) → is_any_too_long (texts_of b) ≡ false → Outputs {T = Unit {0}} taken taken_after (batch_output b (collation table)) (Err f)
        → BatchRuns b left left_after lefts lefts_after taken taken_after (Err (fault_in 0 0 f))
    output_stops taken_after f short sent table_text delta_texts before e es t =
        let prefix = sent.1 in (
          prefix.0,
          appended taken taken_after before prefix.0 t prefix.3,
          by_fault prefix.0 f sent.0 (prefix.1, sound_inputs table_text delta_texts (collation table) false (read table_text delta_texts e es) short ∙ ap Ok prefix.2),
        )
      where
        by_fault : (written : List ℕ) (f : Fault) → IsOfOutput f → WritesPrefix b table_text delta_texts written
            → BatchRanTo (ending_of (fault_in 0 0 f)) b table_text delta_texts left_after lefts_after written (fault_in 0 0 f)
        by_fault written f own h =
            ⊎_elim
            (λ (e : f ≡ failed_write). subst (λ (f : Fault). BatchRanTo (ending_of (fault_in 0 0 f)) b table_text delta_texts left_after lefts_after written (fault_in 0 0 f)) (sym e) (
              (refl, refl),
              h,
            ))
            (λ (e : f ≡ starved_key). subst (λ (f : Fault). BatchRanTo (ending_of (fault_in 0 0 f)) b table_text delta_texts left_after lefts_after written (fault_in 0 0 f)) (sym e)
            (inl ((refl, refl), h)))
            own

-- an answer to the output counts no read
pub output_reads : {T : Type 0} (old new : List ℕ) (r : Result T RunFault) → new ≡ old → IfErr r (λ ended. ReadsNone ended) → CountsInputs old new r
output_reads old new (Ok done) same none = same
output_reads old new (Err ended) same none = same ∙ ap (λ (b : Bool). if b then raised_at ended.input old else old) (sym none)

-- a fault that comes with the output counts as one of the first input
pub output_input : {T : Type 0} (count : ℕ) (r : Result T RunFault) → IfErr r (λ ended. ended.input ≡ 0) → IfErr r (λ ended. ended.input ≤ count)
output_input count (Ok done) first = first
output_input count (Err ended) first = omega (arith, first)

-- what holds of a value holds of an answer that has it
pub given_holds : {T E : Type 0} (P : T → Type 0) (value : T) (r : Result T E) → IfOk r (λ given. given ≡ value) → P value → IfOk r P
given_holds P value (Ok given) same h = subst P (sym same) h
given_holds P value (Err e) same h = tt
