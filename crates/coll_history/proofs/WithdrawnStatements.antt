-- A withdrawal as its definition has it: what remains before the statement is accepted as it was, and those after it as they are
-- put to the table anew.
use Rattle.std.proofs.Common.{◌≡◌, ℕ, ◌+◌, ◌-◌, ◌≤◌, ◌&&◌, Bool, true, false, List, [], ◌∷◌, ◌++◌, length, reverse, take}
use Rattle.std.proofs.Common.{drop, Result, Ok, Err, refl, sym, ap, ◌∙◌, subst, arith, suc, eqb, length-append}
use Rattle.std.specs.Prelude.{if◌then◌else◌, nat_le}
use Rattle.std.proofs.lemmas.Bool.{eq-eqb, le-leb, ne_eqb}
use Rattle.std.proofs.lemmas.List.{append_assoc, length-map, length-reverse, map-append, reverse-append}
use Rattle.std.proofs.Math.Seq.{take-append_seam, drop-append_seam}
use Rattle.coll_syntax.specs.declared.statements.Statement.{Statement}
use Rattle.coll_nodes.specs.SoundLayouts.{IsTable}
use Rattle.coll_nodes.specs.Table.{Collation}
use Rattle.coll_nodes.specs.TableLayout.{TableValue, collation}
use Rattle.coll_table.specs.Delta.{delta}
use Rattle.coll_table.specs.Record.{AreLoose, Extends, turn}
use Rattle.coll_table.specs.RecordLaws.{RecordsTurnBack, RecordsFitWider, RecordsFitNarrower, UndonePutIn}
use Rattle.coll_table.specs.declared.records.Record.{Record}
use Rattle.coll_table.specs.declared.refusals.Refusal.{Refusal}
use Rattle.coll_history.specs.Histories.{History}
use Rattle.coll_history.specs.Kept.{statements_of, undone_by, Leads, LeadsOn, added_by_all, history_of}
use Rattle.coll_history.specs.Withdrawal.{going_on, history_where, is_numbered, withdrawn, withdrawn_from, without_statement}
use Rattle.coll_history.specs.Withdrawing.{AreProper, IsLowered, IsRebuilt, StandsBeforeLast, paired, with_record}
use Rattle.coll_history.specs.declared.histories.Kept.{Kept}
use Rattle.coll_history.specs.declared.history_faults.BenchFault.{BenchFault}
use Rattle.coll_history.specs.declared.history_faults.BenchFault.TheVariants.{NoSuchStatement}
use Rattle.coll_history.proofs.GivenUp.{loose_kept, undone_loose}
use Rattle.coll_history.proofs.HistoryLemmas.{SameCollation, length-remaining, leads_narrower, statements_of-push}
use Rattle.coll_history.proofs.HistorySteps.{made_same}
use Rattle.coll_history.proofs.RebuiltTables.{comes_first}

-- Numbers that none has.

pub is_missing : (h : History) (number : ℕ) → is_numbered h number ≡ false → withdrawn h number ≡ Err NoSuchStatement
unfolding withdrawn
is_missing h number none =
    ap (λ (b : Bool). if b then history_where (withdrawn_from number 1 h.start h.remaining) (without_statement h number) else Err NoSuchStatement) none

pub is_judged : (h : History) (number : ℕ) (r : Result Collation BenchFault) → is_numbered h number ≡ true → withdrawn_from number 1 h.start h.remaining ≡ r
    → withdrawn h number ≡ history_where r (without_statement h number)
unfolding withdrawn
is_judged h number r some e =
    ap (λ (b : Bool). if b then history_where (withdrawn_from number 1 h.start h.remaining) (without_statement h number) else Err NoSuchStatement) some
    ∙ ap (λ (x : Result Collation BenchFault). history_where x (without_statement h number)) e

-- none of the refusals by the table is that no such statement remains
one_judged : (number : ℕ) (b : Bool) (r : Result Collation Refusal) (left : Result Collation BenchFault) (rest : Collation → Result Collation BenchFault)
    → (left ≡ Err NoSuchStatement → ⊥) → ((t : Collation) → rest t ≡ Err NoSuchStatement → ⊥) → (if b then left else going_on number r rest) ≡ Err NoSuchStatement → ⊥
one_judged number true r left rest p q e = p e
one_judged number false (Ok t) left rest p q e = q t e
one_judged number false (Err refusal) left rest p q e = cc

all_judged : (left_out number : ℕ) (table : Collation) (statements : List Statement) → withdrawn_from left_out number table statements ≡ Err NoSuchStatement → ⊥
unfolding withdrawn_from
all_judged left_out number table [] e = cc
all_judged left_out number table (s ∷ later) e =
    one_judged number (eqb number left_out) (delta table s) (withdrawn_from left_out (suc number) table later) (λ (t : Collation). withdrawn_from left_out (suc number) t later)
    (λ f. all_judged left_out (suc number) table later f) (λ t f. all_judged left_out (suc number) t later f) e

accepted_not : (r : Result History BenchFault) (h : History) → r ≡ Ok h → r ≡ Err NoSuchStatement → ⊥
accepted_not r h e f = cc

same_fault : (r : Result History BenchFault) (fault : BenchFault) → r ≡ Err fault → r ≡ Err NoSuchStatement → fault ≡ NoSuchStatement
same_fault r fault e f = cc

pub not_missing : (h : History) (number : ℕ) → is_numbered h number ≡ true → withdrawn h number ≡ Err NoSuchStatement → ⊥
not_missing h number some e = by (withdrawn_from number 1 h.start h.remaining) refl where
  by : (r : Result Collation BenchFault) → withdrawn_from number 1 h.start h.remaining ≡ r → ⊥
  by (Ok table) f = accepted_not (withdrawn h number) (without_statement h number) (is_judged h number (Ok table) some f) e
  by (Err fault) f = all_judged number 1 h.start h.remaining (f ∙ ap Err (same_fault (withdrawn h number) fault (is_judged h number (Err fault) some f) e))

pub numbered_here : (table : TableValue) (kept undone : List Kept) (number len : ℕ) (b : Bool) → len ≡ length kept → (nat_le 1 number && nat_le number len) ≡ b
    → is_numbered (history_of table kept undone) number ≡ b
numbered_here table kept undone number len b same e =
    ap (λ n. nat_le 1 number && nat_le number n) (length-remaining table kept undone ∙ sym same) ∙ e

-- What was taken down.

reverse_statements : (kept : List Kept) → reverse (statements_of kept) ≡ statements_of (reverse kept)
reverse_statements [] = refl
reverse_statements (k ∷ kept) =
    reverse-append (k.statement ∷ []) (statements_of kept)
    ∙ ap (λ (ss : List Statement). ss ++ k.statement ∷ []) (reverse_statements kept)
    ∙ sym (statements_of-push (reverse kept) k)
    ∙ ap statements_of (sym (reverse-append (k ∷ []) kept))

low_undone : (undone earlier later : List Kept) (last : Kept) → undone ≡ (earlier ++ later) ++ last ∷ []
    → reverse (statements_of undone) ≡ last.statement ∷ statements_of (reverse later) ++ statements_of (reverse earlier)
low_undone undone earlier later last e =
    reverse_statements undone
    ∙ ap statements_of (comes_first undone (earlier ++ later) last e)
    ∙ ap (λ (ks : List Kept). last.statement ∷ statements_of ks) (reverse-append earlier later)
    ∙ ap (λ (ss : List Statement). last.statement ∷ ss) (map-append (λ (k : Kept). k.statement) (reverse later) (reverse earlier))

same_prefixes : (a b c d : List Statement) → a ++ b ≡ c ++ d → length a ≡ length c → a ≡ c
same_prefixes a b c d e n = sym (take-append_seam a b) ∙ ap (take (length a)) e ∙ ap (λ m. take m (c ++ d)) n ∙ take-append_seam c d

length_later : (later : List Kept) → length (statements_of (reverse later)) ≡ length later
length_later later = length-map (reverse later) (λ (k : Kept). k.statement) ∙ length-reverse later

-- the statements that remained are those that still do, the one that is left out, and the later ones
pub high_remaining : (high : History) (table : TableValue) (kept undone later : List Kept) (count : ℕ) → IsLowered high (history_of table kept undone) (count + 1) → length later ≡ count
    → (p : StandsBeforeLast undone later)
    → high.remaining ≡ statements_of kept ++ p.last.statement ∷ statements_of (reverse later)
high_remaining high table kept undone later count l n p =
    l.remaining
    ∙ ap (λ (ss : List Statement). statements_of kept ++ ss)
    (same_prefixes l.moved high.undone (p.last.statement ∷ statements_of (reverse later)) (statements_of (reverse p.earlier))
    (sym l.undone ∙ low_undone undone p.earlier later p.last p.parts) (omega (arith, l.moved_count, length_later later, n)))

-- What the definition says of them.

-- the statements before the one that is left out are accepted as they were
before_accepted : (table : TableValue) (kept : List Kept) → Leads table kept → (left_out number : ℕ) (rest : List Statement) → number + length kept ≡ left_out
    → withdrawn_from left_out number (collation (undone_by table kept)) (statements_of kept ++ rest) ≡ withdrawn_from left_out left_out (collation table) rest
unfolding withdrawn_from Leads undone_by
before_accepted table [] leads left_out number rest n =
    let same : number ≡ left_out = omega (arith, n) in
    ap (λ m. withdrawn_from left_out m (collation table) rest) same
before_accepted table (k ∷ kept) leads left_out number rest n =
    let other : eqb number left_out ≡ false = ne_eqb number left_out (λ e. omega (arith, e, n)) in
    let rest_of : Collation → Result Collation BenchFault = λ (t : Collation). withdrawn_from left_out (suc number) t (statements_of kept ++ rest) in
    ap (λ (b : Bool). if b then rest_of (collation (undone_by table (k ∷ kept))) else going_on number (delta (collation (undone_by table (k ∷ kept))) k.statement) rest_of) other
    ∙ ap (λ (r : Result Collation Refusal). going_on number r rest_of) leads.0.accepted
    ∙ before_accepted table kept leads.3 left_out (suc number) rest (omega (arith, n))

left_out_one : (number : ℕ) (table : Collation) (s : Statement) (later : List Statement) → withdrawn_from number number table (s ∷ later) ≡ withdrawn_from number (suc number) table later
unfolding withdrawn_from
left_out_one number table s later =
    ap (λ (b : Bool). if b then withdrawn_from number (suc number) table later else going_on number (delta table s) (λ (t : Collation). withdrawn_from number (suc number) t later))
    (eq-eqb number number refl)

-- where a statement was taken down to, and those after it judged anew
pub judged_anew : (high : History) (table : TableValue) (kept undone later : List Kept) (number count : ℕ) (r : Result Collation BenchFault) → Leads table kept
    → IsLowered high (history_of table kept undone) (count + 1)
    → length later ≡ count → StandsBeforeLast undone later → length kept + 1 ≡ number → withdrawn_from number (number + 1) (collation table) (statements_of (reverse later)) ≡ r
    → withdrawn high number ≡ history_where r (without_statement high number)
judged_anew high table kept undone later number count r leads l n p place e =
    let remaining_is = high_remaining high table kept undone later count l n p in
    let kept_len : length (statements_of kept) ≡ length kept = length-map kept (λ (k : Kept). k.statement) in
    let first : 1 ≤ number = omega (arith, place) in
    let within : number ≤ length high.remaining = omega (arith, place, ap length remaining_is, length-append (statements_of kept) (p.last.statement ∷ statements_of (reverse later)), kept_len) in
    let some : is_numbered high number ≡ true = ap (λ (b : Bool). b && nat_le number (length high.remaining)) (le-leb 1 number first) ∙ le-leb number (length high.remaining) within in
    let next : number + 1 ≡ suc number = omega arith in
    let start : 1 + length kept ≡ number = omega (arith, place) in
    is_judged high number r some
    (ap (λ (t : Collation). withdrawn_from number 1 t high.remaining) (sym l.start)
    ∙ ap (withdrawn_from number 1 (collation (undone_by table kept))) remaining_is
    ∙ before_accepted table kept leads number 1 (p.last.statement ∷ statements_of (reverse later)) start
    ∙ left_out_one number (collation table) p.last.statement (statements_of (reverse later))
    ∙ ap (λ m. withdrawn_from number m (collation table) (statements_of (reverse later))) (sym next)
    ∙ e)

-- The history without the statement.

-- the pairs of a prefix
paired_prefix : (kept others : List Kept) (fresh : List Record) → length fresh ≡ length kept → paired (kept ++ others) fresh ≡ paired kept fresh
unfolding paired
paired_prefix [] [] fresh n = refl
paired_prefix [] (o ∷ others) [] n = refl
paired_prefix [] (o ∷ others) (change ∷ fresh) n = absurd (omega (arith, n))
paired_prefix (k ∷ kept) others [] n = absurd (omega (arith, n))
paired_prefix (k ∷ kept) others (change ∷ fresh) n = ap (λ (ks : List Kept). with_record k change ∷ ks) (paired_prefix kept others fresh (omega (arith, n)))

statements_paired : (kept : List Kept) (fresh : List Record) → length fresh ≡ length kept → statements_of (paired kept fresh) ≡ statements_of kept
unfolding paired
statements_paired [] fresh n = refl
statements_paired (k ∷ kept) [] n = absurd (omega (arith, n))
statements_paired (k ∷ kept) (change ∷ fresh) n = ap (λ (ss : List Statement). k.statement ∷ ss) (statements_paired kept fresh (omega (arith, n)))

pub paired_later : (later earlier : List Kept) (fresh : List Record) → length fresh ≡ length later → paired (reverse (earlier ++ later)) fresh ≡ paired (reverse later) fresh
paired_later later earlier fresh n =
    ap (λ (ks : List Kept). paired ks fresh) (reverse-append earlier later) ∙ paired_prefix (reverse later) (reverse earlier) fresh (n ∙ sym (length-reverse later))

-- what remains without it
remaining_without : (all prefix : List Statement) (s : Statement) (later : List Statement) (number : ℕ) → all ≡ prefix ++ s ∷ later → length prefix + 1 ≡ number
    → take (number - 1) all ++ drop number all ≡ prefix ++ later
remaining_without all prefix s later number e n =
    let before : number - 1 ≡ length prefix = omega (arith, n) in
    let whole : number ≡ length (prefix ++ s ∷ []) = omega (arith, n, length-append prefix (s ∷ [])) in
    ap (λ (m : ℕ). take m all ++ drop number all) before
    ∙ ap (λ (ss : List Statement). take (length prefix) ss ++ drop number all) e
    ∙ ap (λ (ss : List Statement). ss ++ drop number all) (take-append_seam prefix (s ∷ later))
    ∙ ap (λ (m : ℕ). prefix ++ drop m all) whole
    ∙ ap (λ (ss : List Statement). prefix ++ drop (length (prefix ++ s ∷ [])) ss) (e ∙ sym (append_assoc prefix (s ∷ []) later))
    ∙ ap (λ (ss : List Statement). prefix ++ ss) (drop-append_seam (prefix ++ s ∷ []) later)

pub settled_history : (high : History) (table table3 : TableValue) (kept undone later kept3 undone3 : List Kept) (fresh : List Record) (number count : ℕ)
    → IsLowered high (history_of table kept undone) (count + 1) → length later ≡ count
    → StandsBeforeLast undone later → length kept + 1 ≡ number → length fresh ≡ length later → kept3 ≡ kept ++ paired (reverse later) fresh → undone3 ≡ []
    → collation (undone_by table3 kept3) ≡ collation (undone_by table kept) → history_of table3 kept3 undone3 ≡ without_statement high number
settled_history high table table3 kept undone later kept3 undone3 fresh number count l n p place paired_len kept_is none start =
    let kept_len : length (statements_of kept) + 1 ≡ number = omega (arith, place, length-map kept (λ (k : Kept). k.statement)) in
    made_same (collation (undone_by table3 kept3)) high.start (statements_of kept3) (take (number - 1) high.remaining ++ drop number high.remaining) (reverse (statements_of undone3)) []
    (start ∙ l.start)
    (ap statements_of kept_is
    ∙ map-append (λ (k : Kept). k.statement) kept (paired (reverse later) fresh)
    ∙ ap (λ (ss : List Statement). statements_of kept ++ ss) (statements_paired (reverse later) fresh (paired_len ∙ sym (length-reverse later)))
    ∙ sym (remaining_without high.remaining (statements_of kept) p.last.statement (statements_of (reverse later)) number (high_remaining high table kept undone later count l n p) kept_len))
    (ap (λ (ks : List Kept). reverse (statements_of ks)) none)

-- The records of what was taken down.

-- their statements are proper
all_proper : (table : TableValue) (kept : List Kept) → LeadsOn table kept → AreProper kept
unfolding LeadsOn AreProper
all_proper table [] leads = tt
all_proper table (k ∷ kept) leads = (leads.0.proper, all_proper (turn table k.change) kept leads.3)

prefix_proper : (kept others : List Kept) → AreProper (kept ++ others) → AreProper kept
unfolding AreProper
prefix_proper [] others proper = tt
prefix_proper (k ∷ kept) others proper = (proper.0, prefix_proper kept others proper.1)

after_first_proper : (k : Kept) (kept : List Kept) → AreProper (k ∷ kept) → AreProper kept
unfolding AreProper
after_first_proper k kept proper = proper.1

pub later_proper : (table : TableValue) (undone later : List Kept) → LeadsOn table (reverse undone) → StandsBeforeLast undone later → AreProper (reverse later)
later_proper table undone later leads_on p =
    prefix_proper (reverse later) (reverse p.earlier)
    (subst AreProper (reverse-append p.earlier later)
    (after_first_proper p.last (reverse (p.earlier ++ later))
    (subst AreProper (comes_first undone (p.earlier ++ later) p.last p.parts) (all_proper table (reverse undone) leads_on))))

-- their nodes are loose in the table that was rebuilt
pub loose_rebuilt : RecordsTurnBack → UndonePutIn → (table now : TableValue) (undone kept : List Kept) → IsTable table → LeadsOn table (reverse undone) → IsRebuilt table now kept
    → AreLoose now.layout (added_by_all (reverse undone))
loose_rebuilt turns put_in table now undone kept is leads_on r =
    loose_kept table.layout now.layout (added_by_all (reverse undone)) r.loose (undone_loose turns put_in table is (reverse undone) leads_on)

-- what remains leads back in the table that was rebuilt, and from which the old records' nodes were dropped
pub record LeadsSettled (table3 table : TableValue) (kept3 kept : List Kept) : Type 0 where
  pub leads : Leads table3 kept3
  pub start : collation (undone_by table3 kept3) ≡ collation (undone_by table kept)

module _ (turns : RecordsTurnBack) (wider : RecordsFitWider) (narrower : RecordsFitNarrower) (same : SameCollation) where
  pub leads_settled : (table now table3 : TableValue) (kept fresh kept3 : List Kept) → IsTable now → IsTable table3 → Leads table kept → IsRebuilt table now fresh → Extends now table3
      → kept3 ≡ kept ++ fresh → LeadsSettled table3 table kept3 kept
  leads_settled table now table3 kept fresh kept3 now_is is leads r extends e =
      let alike = leads_narrower turns wider narrower same now table3 now_is is extends (kept ++ fresh) (r.leads kept leads) in
      subst (λ (ks : List Kept). LeadsSettled table3 table ks kept) (sym e)
      (record { leads = alike.leads; start = sym (same (undone_by now (kept ++ fresh)) (undone_by table3 (kept ++ fresh)) alike.table_is alike.extends) ∙ r.start kept leads })
