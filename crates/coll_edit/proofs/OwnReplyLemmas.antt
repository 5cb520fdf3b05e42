-- What is written for `:explain`, and for `:help` and a number.
use Rattle.std.proofs.Common.{◌≡◌, ◌≢◌, List, ℕ, Option, Result, Ok, Err, refl, sym, ap, ◌∙◌, subst, inl, inr}
use Rattle.std.specs.Prelude.{encode_utf8_all}
use Rattle.std.specs.Io.KnownBytes.{Keeps}
use Rattle.coll_devices.specs.Devices.{Sends}
use Rattle.coll_devices.specs.declared.stops.WriteStop.{WriteStop}
use Rattle.coll_devices.specs.declared.stops.WriteStop.TheVariants as write
use Rattle.coll_nodes.specs.Table.{Collation}
use Rattle.coll_history.specs.Histories.{History}
use Rattle.coll_bench.specs.BatchOutcome.{text_too_long}
use Rattle.coll_faults.specs.declared.faults.Fault.{Fault}
use Rattle.coll_faults.specs.declared.faults.Fault.TheVariants as fault
use Rattle.coll_faults.specs.declared.faults.RunFault.{RunFault}
use Rattle.coll_bench.proofs.ReplyLemmas.{flushed}
use Rattle.coll_explanations.specs.Explaining.{Explains, starved}
use Rattle.coll_explanations.specs.Explanations.{explanation}
use Rattle.coll_edit_replies.specs.Help.{SendsHelp}
use Rattle.coll_edit.specs.OwnReplies.{SendsAnswer, SendsExplained}
use Rattle.coll_edit_replies.specs.Showing.{refusal_told}
use Rattle.coll_edit.specs.declared.own_lines.OwnLine.{OwnLine}
use Rattle.coll_edit.specs.declared.own_lines.OwnLine.TheVariants as own

-- the explanation was written, and flushed
pub explained_whole : (table : Collation) (text other_text : List ℕ) (old mid new : Option (List ℕ)) (r : Result (Unit {0}) WriteStop)
    → Explains table text other_text old mid (Ok tt) → Keeps mid new → SendsExplained table text other_text old new r
explained_whole table text other_text old mid new r (inl (long, is, same)) kept = absurd cc
explained_whole table text other_text old mid new r (inr (short, sent)) kept =
    (explanation table text other_text, inr (short, inl refl), flushed old mid new (explanation table text other_text) r sent kept)

-- a write failed
pub explained_partly : (table : Collation) (text other_text : List ℕ) (old mid : Option (List ℕ)) (ended : RunFault) (stop e : WriteStop) (r : Result (Unit {0}) WriteStop)
    → Explains table text other_text old mid (Err ended) → ended.fault ≡ fault.Write stop → r ≡ Err e → SendsExplained table text other_text old mid r
explained_partly table text other_text old mid ended stop e r (inl (long, is, same)) failed answer =
    let same_fault : ended ≡ text_too_long = cc in
    let clash : text_too_long.fault ≡ fault.Write stop = ap (λ (x : RunFault). x.fault) (sym same_fault) ∙ failed in
    absurd cc
explained_partly table text other_text old mid ended stop e r (inr (short, inl (is, same))) failed answer =
    let clash : starved.fault ≡ fault.Write stop = ap (λ (x : RunFault). x.fault) (sym is) ∙ failed in
    absurd cc
explained_partly table text other_text old mid ended stop e r (inr (short, inr (is, part))) failed answer = (
  explanation table text other_text,
  inr (short, inl refl),
  subst (λ (x : Result (Unit {0}) WriteStop). Sends old mid (explanation table text other_text) x) (sym answer) part,
)

-- it is told that a text is too long, or that memory was refused
pub explained_not : (table : Collation) (text other_text : List ℕ) (old mid new : Option (List ℕ)) (ended : RunFault) (f : Fault) (r : Result (Unit {0}) WriteStop)
    → Explains table text other_text old mid (Err ended) → ended.fault ≡ f → ((stop : WriteStop) → ended.fault ≢ fault.Write stop) → Sends mid new (refusal_told f) r
    → SendsExplained table text other_text old new r
explained_not table text other_text old mid new ended f r (inl (long, is, same)) named other_fault sent =
    let same_fault : ended ≡ text_too_long = cc in (
      refusal_told f,
      inl (long, ap refusal_told (sym named) ∙ ap (λ (x : RunFault). refusal_told x.fault) same_fault),
      subst (λ (t : Option (List ℕ)). Sends t new (refusal_told f) r) same sent,
    )
explained_not table text other_text old mid new ended f r (inr (short, inl (is, same))) named other_fault sent = (
  refusal_told f,
  inr (short, inr (ap refusal_told (sym named) ∙ ap (λ (x : RunFault). refusal_told x.fault) is)),
  subst (λ (t : Option (List ℕ)). Sends t new (refusal_told f) r) same sent,
)
explained_not table text other_text old mid new ended f r (inr (short, inr (is, part))) named other_fault sent = absurd (other_fault write.WriteFault (ap (λ (x : RunFault). x.fault) is))

-- the same of texts by their characters
pub explained_same : (table : Collation) (t text o other_text : List ℕ) (old new : Option (List ℕ)) (r : Result (Unit {0}) WriteStop) → t ≡ text → o ≡ other_text
    → SendsExplained table t o old new r → SendsExplained table text other_text old new r
explained_same table t text o other_text old new r is other_is sent =
    subst (λ (x : List ℕ). SendsExplained table x other_text old new r) is (subst (λ (x : List ℕ). SendsExplained table t x old new r) other_is sent)

-- a number is asked for by these bytes
pub answer_help : (h : History) (o : OwnLine) (number bytes : List ℕ) (old new : Option (List ℕ)) (r : Result (Unit {0}) WriteStop) → o ≡ own.HelpNumber number → encode_utf8_all number ≡ bytes
    → SendsHelp old new bytes r → SendsAnswer h o old new r
answer_help h o number bytes old new r is same sent =
    subst (λ (x : OwnLine). SendsAnswer h x old new r) (sym is) (subst (λ (t : List ℕ). SendsHelp old new t r) (sym same) sent)
