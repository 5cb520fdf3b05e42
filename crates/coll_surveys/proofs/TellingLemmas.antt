-- What is told behind the faults that were told.
use Rattle.std.proofs.Common.{◌≡◌, ◌≤◌, ◌<◌, ℕ, ◌+◌, List, [], ◌∷◌, ◌++◌, get_or, length, map, take, Option, Some, Result, Ok, Err, refl, sym, ap, ◌∙◌, subst, append_assoc, append-nil, inl, inr}
use Rattle.std.specs.List.{flat_map}
use Rattle.std.specs.Prelude.{OnOk}
use Rattle.std.proofs.lemmas.Grind.{flat_map-append}
use Rattle.std.proofs.lemmas.List.{map-append, take_all, take_more}
use Rattle.coll_syntax.specs.declared.lines.TableLine.{TableLine}
use Rattle.coll_nodes.specs.Table.{Collation}
use Rattle.coll_texts.specs.BuilderStates.{BuilderState, line_fault}
use Rattle.coll_advice.specs.declared.found.Found.{Found}
use Rattle.coll_faults.specs.declared.faults.Fault.TheVariants as fault
use Rattle.coll_surveys.specs.DeltaSurveys.{BlockState, block_faults, category_faults}
use Rattle.coll_surveys.specs.TableSurveys.{bare_line, judged_faults, judging, line_faults, load_faults, outside_faults, told_of_table}
use Rattle.coll_findings.specs.ToldFaults.{AreAmong, LineFault, Tells, at_line, told_fault}
use Rattle.coll_findings.specs.declared.findings.FoundFault.{FoundFault}
use Rattle.coll_surveys.specs.declared.table_surveys.TableSurvey.{TableSurvey}

-- nothing was told
pub told_none : (old new : List FoundFault) (given : List LineFault) → new ≡ old → Tells old new given
told_none old new given same = ([], same ∙ sym (append-nil old), tt)

later_among : (told : List LineFault) (one : LineFault) (given : List LineFault) → AreAmong told given → AreAmong told (one ∷ given)
later_among [] one given p = tt
later_among (first ∷ told) one given p = inr p

among_append : (told given more later : List LineFault) → AreAmong told given → AreAmong more later → AreAmong (told ++ more) (given ++ later)
among_append [] [] more later p q = q
among_append [] (one ∷ given) more later p q = later_among more one (given ++ later) (among_append [] given more later tt q)
among_append (first ∷ told) [] more later p q = absurd p
among_append (first ∷ told) (one ∷ given) more later (inl (same, p)) q = inl (same, among_append told given more later p q)
among_append (first ∷ told) (one ∷ given) more later (inr p) q = inr (among_append (first ∷ told) given more later p q)

-- more were told behind them
pub told_on : (a b c : List FoundFault) (given later : List LineFault) → Tells a b given → Tells b c later → Tells a c (given ++ later)
told_on a b c given later (told, is, among) (more, is_then, among_then) = (
  told ++ more,
  is_then ∙ ap (λ (l : List FoundFault). l ++ more) is ∙ append_assoc a told more,
  subst (λ (l : List LineFault). AreAmong l (given ++ later)) (sym (map-append told_fault told more)) (among_append (map told_fault told) given (map told_fault more) later among among_then),
)

-- what holds anyway, and what is told behind others, also where there is no answer
pub on_ok : {T E P : Type 0} (r : Result T E) → P → OnOk r P
on_ok (Ok x) p = p
on_ok (Err e) p = tt

pub told_on_ok : {T E : Type 0} (a b c : List FoundFault) (given later : List LineFault) (r : Result T E) → Tells a b given → OnOk r (Tells b c later) → OnOk r (Tells a c (given ++ later))
told_on_ok a b c given later (Ok x) first second = told_on a b c given later first second
told_on_ok a b c given later (Err e) first second = tt

-- the end of the category in an open block
pub category_ended : (table : Collation) (block : Option BlockState) (b : BlockState) (number : ℕ) → block ≡ Some b
    → category_faults table block number ≡ block_faults table block ++ at_line number fault.BlockNotEnded ∷ []
category_ended table block b number is = subst (λ (x : Option BlockState). category_faults table x number ≡ block_faults table x ++ at_line number fault.BlockNotEnded ∷ []) (sym is) refl

-- one more of a list is told behind those before it
pub told_more : (a b c : List FoundFault) (f : Found → LineFault) (xs : List Found) (i : ℕ) (x : Found) → i < length xs → x ≡ get_or xs i x → Tells a b (map f (take i xs))
    → Tells b c (f x ∷ []) → Tells a c (map f (take (i + 1) xs))
told_more a b c f xs i x within is first one =
    subst (Tells a c) (sym (ap (map f) (take_more xs i x within ∙ ap (λ (y : Found). take i xs ++ y ∷ []) (sym is)) ∙ map-append f (take i xs) (x ∷ [])))
    (told_on a b c (map f (take i xs)) (f x ∷ []) first one)

-- all of a list are told
pub told_all : (a b : List FoundFault) (f : Found → LineFault) (xs : List Found) (i : ℕ) → length xs ≤ i → Tells a b (map f (take i xs)) → Tells a b (map f xs)
told_all a b f xs i past tells = subst (λ (l : List Found). Tells a b (map f l)) (take_all i xs past) tells

-- a line of a table: what is told of where it stands, and then what judging it gives
pub line_told : {T E : Type 0} (old mid new : TableSurvey) (number : ℕ) (read bare : TableLine) (r : Result T E) → Tells (told_of_table old) (told_of_table mid) (outside_faults old.standing number read)
    → mid.builder ≡ judging old.builder old.standing read → bare ≡ bare_line read
    → OnOk r (Tells (told_of_table mid) (told_of_table new) (load_faults (line_fault mid.builder (record { number = number; line = bare }))))
    → OnOk r (Tells (told_of_table old) (told_of_table new) (line_faults old.builder old.standing number read))
line_told old mid new number read bare (Ok x) first judges is second =
    told_on (told_of_table old) (told_of_table mid) (told_of_table new) (outside_faults old.standing number read) (judged_faults (judging old.builder old.standing read) number read) first
    (subst (λ (b : BuilderState). Tells (told_of_table mid) (told_of_table new) (judged_faults b number read)) judges
    (subst (λ (l : TableLine). Tells (told_of_table mid) (told_of_table new) (load_faults (line_fault mid.builder (record { number = number; line = l })))) is second))
line_told old mid new number read bare (Err e) first judges is second = tt

-- what one more of a list has is told behind what those before it have
pub each_told : {T : Type 0} (a b c : List FoundFault) (f : T → List LineFault) (xs : List T) (i : ℕ) (x : T) → i < length xs → x ≡ get_or xs i x → Tells a b (flat_map f (take i xs))
    → Tells b c (f x) → Tells a c (flat_map f (take (i + 1) xs))
each_told {T} a b c f xs i x within is first one =
    subst (Tells a c)
    (sym (ap (flat_map f) (take_more xs i x within ∙ ap (λ (y : T). take i xs ++ y ∷ []) (sym is)) ∙ flat_map-append f (take i xs) (x ∷ []) ∙ ap (λ (l : List LineFault). flat_map f (take i xs) ++ l) (append-nil (f x))))
    (told_on a b c (flat_map f (take i xs)) (f x) first one)

-- what all of a list have is told
pub all_told : {T : Type 0} (a b : List FoundFault) (f : T → List LineFault) (xs : List T) (i : ℕ) → length xs ≤ i → Tells a b (flat_map f (take i xs)) → Tells a b (flat_map f xs)
all_told {T} a b f xs i past tells = subst (λ (l : List T). Tells a b (flat_map f l)) (take_all i xs past) tells
