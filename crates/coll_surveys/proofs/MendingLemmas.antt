-- What is left of a block, fault by fault, is what judging its lines leaves.
use Rattle.std.proofs.Common.{◌≡◌, ◌↔◌, ◌==◌, ◌||◌, ℕ, zero, suc, ◌<◌, ◌≤◌, Bool, true, false, not, if◌then◌else◌, List, [], ◌∷◌, ◌++◌, get_or, length, map, set, Option, Some, None, Result, Ok, Err}
use Rattle.std.proofs.Common.{refl, sym, ap, ◌∙◌, subst, append_assoc, append-nil, arith, length-append}
use Rattle.std.specs.Prelude.{IsOk, OnOk, reverse}
use Rattle.std.specs.Borrow.{Bor}
use Rattle.std.specs.List.{fold, list_any, remove}
use Rattle.std.specs.Option.{option_or}
use Rattle.std.proofs.lemmas.Bool.{false≢true}
use Rattle.std.proofs.lemmas.Bool.Decides.{Decides-eqb}
use Rattle.std.proofs.lemmas.List.{map-append, reverse-append}
use Rattle.std.proofs.lemmas.List.Sums.{fold-append}
use Rattle.coll_syntax.specs.Proper.{is_proper}
use Rattle.coll_syntax.specs.declared.identifiers.Id.{Id}
use Rattle.coll_syntax.specs.declared.statements.OrderLine.{OrderLine}
use Rattle.coll_syntax.specs.declared.statements.Statement.{Statement}
use Rattle.coll_syntax.specs.declared.statements.Statement.TheVariants as statement
use Rattle.coll_nodes.specs.Causes.{refused_if}
use Rattle.coll_nodes.specs.OwnNames.{own_id}
use Rattle.coll_nodes.specs.Table.{Collation, is_placed}
use Rattle.coll_statements.specs.OwnStatements.{own_line}
use Rattle.coll_table.specs.Delta.{delta, line_refusal}
use Rattle.coll_table.specs.Judging.{id_refusal}
use Rattle.coll_table.specs.declared.refusals.Refusal.{Refusal}
use Rattle.coll_table.specs.declared.refusals.Refusal.TheVariants.{Full, TargetNotPlaced}
use Rattle.coll_advice.specs.Faults.{answered_faults, block_faults, block_ids, block_line_faults, faults, full_faults, line_faults, listed, same_refusal}
use Rattle.coll_advice.specs.LineFaults.{about, ids_fault, ids_in, line_fault}
use Rattle.coll_advice.specs.declared.found.Found.{Found}
use Rattle.coll_surveys.specs.DeltaSurveys.{answered_block, is_of_no_line, is_of_weights, mended, mended_block, mended_line, mended_lines, table_after, table_behind, table_behind_block}
use Rattle.coll_surveys.specs.DeltaSurveys.{table_behind_left, table_mended, without_fault, without_fault_at, without_faults, without_found, without_lines}

-- One fault.

-- a fault at no line of a block takes nothing out
past_lines : (place : ℕ) (found : Found) (lines : List OrderLine) → length lines ≤ place → without_fault_at place found lines ≡ lines
past_lines place found [] past = refl
past_lines zero found (line ∷ lines) past = absurd (omega (arith, past))
past_lines (suc place) found (line ∷ lines) past = ap (λ (l : List OrderLine). line ∷ l) (past_lines place found lines (omega (arith, past)))

-- the weights of the line at a place
weights_at : (place : ℕ) (found : Found) (lines : List OrderLine) (seen line : OrderLine) → place < length lines → seen ≡ get_or lines place seen → line ≡ get_or lines place line
    → is_of_weights found.refusal found.id seen.id ≡ true → set lines place (record line { weights = None }) ≡ without_fault_at place found lines
weights_at place found [] seen line within seen_is line_is weights = absurd (omega (arith, within))
weights_at zero found (first ∷ lines) seen line within seen_is line_is weights =
    ap (λ (l : OrderLine). record l { weights = None } ∷ lines) line_is
    ∙ sym (ap (λ (b : Bool). (if b then record first { weights = None } ∷ [] else []) ++ lines)
    (subst (λ (l : OrderLine). is_of_weights found.refusal found.id l.id ≡ true) seen_is weights))
weights_at (suc place) found (first ∷ lines) seen line within seen_is line_is weights =
    ap (λ (l : List OrderLine). first ∷ l) (weights_at place found lines seen line (omega (arith, within)) seen_is line_is weights)

-- the line at a place
line_at : (place : ℕ) (found : Found) (lines : List OrderLine) (seen : OrderLine) → place < length lines → seen ≡ get_or lines place seen
    → is_of_weights found.refusal found.id seen.id ≡ false → remove lines place ≡ without_fault_at place found lines
line_at place found [] seen within seen_is weights = absurd (omega (arith, within))
line_at zero found (first ∷ lines) seen within seen_is weights =
    sym (ap (λ (b : Bool). (if b then record first { weights = None } ∷ [] else []) ++ lines)
    (subst (λ (l : OrderLine). is_of_weights found.refusal found.id l.id ≡ false) seen_is weights))
line_at (suc place) found (first ∷ lines) seen within seen_is weights = ap (λ (l : List OrderLine). first ∷ l) (line_at place found lines seen (omega (arith, within)) seen_is weights)

-- a fault is taken out at its place
at_place : (found : Found) (place : ℕ) (lines left : List OrderLine) → found.line ≡ Some place → left ≡ without_fault_at place found lines → left ≡ without_fault lines found
at_place found place lines left at is = is ∙ ap (λ (p : Option ℕ). without_found p found lines) (sym at)

-- there is no line at its place
pub past_fault : (found : Found) (place : ℕ) (lines : List OrderLine) → found.line ≡ Some place → length lines ≤ place → lines ≡ without_fault lines found
past_fault found place lines at past = at_place found place lines lines at (sym (past_lines place found lines past))

-- it takes out the weights of a line, or the line
pub weights_out : (found : Found) (place : ℕ) (lines left : List OrderLine) (seen line : OrderLine) → found.line ≡ Some place → place < length lines → seen ≡ get_or lines place seen
    → line ≡ get_or lines place line → is_of_weights found.refusal found.id seen.id ≡ true → left ≡ set lines place (record line { weights = None }) → left ≡ without_fault lines found
weights_out found place lines left seen line at within seen_is line_is weights is =
    at_place found place lines left at (is ∙ weights_at place found lines seen line within seen_is line_is weights)

pub line_out : (found : Found) (place : ℕ) (lines left : List OrderLine) (seen : OrderLine) → found.line ≡ Some place → place < length lines → seen ≡ get_or lines place seen
    → is_of_weights found.refusal found.id seen.id ≡ false → left ≡ remove lines place → left ≡ without_fault lines found
line_out found place lines left seen at within seen_is weights is = at_place found place lines left at (is ∙ line_at place found lines seen within seen_is weights)

-- All faults, from the last one on.

-- one more is taken out
pub one_more : (lines before after : List OrderLine) (seen : List (Bor Found)) (one : Bor Found) → before ≡ fold without_fault lines (map (λ (f : Bor Found). f.now) seen)
    → after ≡ without_fault before one.now → after ≡ fold without_fault lines (map (λ (f : Bor Found). f.now) (seen ++ one ∷ []))
one_more lines before after seen one so_far is =
    is ∙ ap (λ (l : List OrderLine). without_fault l one.now) so_far
    ∙ sym (ap (fold without_fault lines) (map-append (λ (f : Bor Found). f.now) seen (one ∷ []))
    ∙ fold-append without_fault lines (map (λ (f : Bor Found). f.now) seen) (one.now ∷ []))

-- the first one is the last that is taken out
with_fault : (lines : List OrderLine) (found : Found) (later : List Found) → without_faults lines (found ∷ later) ≡ without_fault (without_faults lines later) found
with_fault lines found later = ap (fold without_fault lines) (reverse-append (found ∷ []) later) ∙ fold-append without_fault lines (reverse later) (found ∷ [])

-- it is that of the line that stands behind others
at_seam : (front : List OrderLine) (line : OrderLine) (later : List OrderLine) (place : ℕ) (found : Found) → place ≡ length front
    → without_fault_at place found (front ++ line ∷ later) ≡ front ++ (mended_line line (Some found) ++ later)
at_seam [] line later place found within = subst (λ (n : ℕ). without_fault_at n found (line ∷ later) ≡ mended_line line (Some found) ++ later) (sym within) refl
at_seam (first ∷ front) line later zero found within = absurd (omega (arith, within))
at_seam (first ∷ front) line later (suc place) found within = ap (λ (l : List OrderLine). first ∷ l) (at_seam front line later place found (omega (arith, within)))

-- a fault, if one is found, stands at this place
abbrev pub IsAt : Option ℕ → Option Found → Type 0
IsAt place None = Unit {0}
IsAt place (Some found) = found.line ≡ place

-- a line more, with its fault
line_more : (front : List OrderLine) (line : OrderLine) (lines left : List OrderLine) (place : ℕ) (o : Option Found) (later : List Found) → place ≡ length front → IsAt (Some place) o
    → without_faults ((front ++ line ∷ []) ++ lines) later ≡ (front ++ line ∷ []) ++ left → without_faults (front ++ line ∷ lines) (listed o ++ later) ≡ front ++ (mended_line line o ++ left)
line_more front line lines left place None later within at is =
    ap (λ (l : List OrderLine). without_faults l later) (sym (append_assoc front (line ∷ []) lines)) ∙ is ∙ append_assoc front (line ∷ []) left
line_more front line lines left place (Some found) later within at is =
    let rest : without_faults (front ++ line ∷ lines) later ≡ front ++ line ∷ left =
    ap (λ (l : List OrderLine). without_faults l later) (sym (append_assoc front (line ∷ []) lines)) ∙ is ∙ append_assoc front (line ∷ []) left in
    with_fault (front ++ line ∷ lines) found later ∙ ap (λ (l : List OrderLine). without_fault l found) rest
    ∙ ap (λ (p : Option ℕ). without_found p found (front ++ line ∷ left)) at ∙ at_seam front line left place found within

-- the fault of a line stands at its place
about_at : (place : Option ℕ) (id : Id) (r : Option Refusal) → IsAt place (about place id r)
about_at place id None = tt
about_at place id (Some refusal) = refl

or_at : (place : Option ℕ) (a b : Option Found) → IsAt place a → IsAt place b → IsAt place (option_or a b)
or_at place None b first second = second
or_at place (Some found) b first second = first

ids_at : (table : Collation) (place : Option ℕ) (more ids : List Id) → IsAt place (ids_fault table place more ids)
ids_at table place more [] = tt
ids_at table place more (id ∷ ids) =
    or_at place (about place id (id_refusal table more (own_id table.declared id))) (ids_fault table place more ids) (about_at place id (id_refusal table more (own_id table.declared id)))
    (ids_at table place more ids)

fault_at : (table : Collation) (place : ℕ) (before all : List Id) (line : OrderLine) → IsAt (Some place) (line_fault table place before all line)
fault_at table place before all line =
    or_at (Some place) (about (Some place) line.id (line_refusal table before (own_line table.declared line))) (ids_fault table (Some place) all (ids_in line))
    (about_at (Some place) line.id (line_refusal table before (own_line table.declared line))) (ids_at table (Some place) all (ids_in line))

-- lines behind others, without all that is found
lines_out : (table : Collation) (front : List OrderLine) (place : ℕ) (before all : List Id) (lines : List OrderLine) → place ≡ length front
    → without_faults (front ++ lines) (line_faults table place before all lines) ≡ front ++ mended_lines table place before all lines
lines_out table front place before all [] within = refl
lines_out table front place before all (line ∷ lines) within =
    let behind = before ++ own_id table.declared line.id ∷ [] in
    line_more front line lines (mended_lines table (suc place) behind all lines) place (line_fault table place before all line) (line_faults table (suc place) behind all lines) within
    (fault_at table place before all line) (lines_out table (front ++ line ∷ []) (suc place) behind all lines (omega (arith, within, length-append front (line ∷ []))))

-- Blocks.

-- where all faults are those of lines, the target has none
about_none : (id : Id) (r : Option Refusal) (later : List Found) → list_any is_of_no_line (listed (about None id r) ++ later) ≡ false → listed (about None id r) ++ later ≡ later
about_none id None later lines = refl
about_none id (Some refusal) later lines = absurd (false≢true (sym lines))

-- and the block is not too long
or_true : (b : Bool) → (b || true) ≡ true
or_true true = refl
or_true false = refl

one_of_none : (found : List Found) (one : Found) → is_of_no_line one ≡ true → list_any is_of_no_line (found ++ one ∷ []) ≡ true
one_of_none [] one none = ap (λ (b : Bool). b || false) none
one_of_none (first ∷ found) one none = ap (λ (b : Bool). is_of_no_line first || b) (one_of_none found one none) ∙ or_true (is_of_no_line first)

last_none : (b : Bool) (found : List Found) (one : Found) → is_of_no_line one ≡ true → list_any is_of_no_line (found ++ (if b then one ∷ [] else [])) ≡ false
    → found ++ (if b then one ∷ [] else []) ≡ found
last_none true found one none lines = absurd (false≢true (sym lines ∙ one_of_none found one none))
last_none false found one none lines = append-nil found

block_found : (table : Collation) (target : Id) (lines : List OrderLine) (refusal : Refusal) → list_any is_of_no_line (block_faults table target lines refusal) ≡ false
    → block_faults table target lines refusal ≡ block_line_faults table target lines
block_found table target lines refusal none =
    let of_lines = block_line_faults table target lines in
    let no_target : block_faults table target lines refusal ≡ of_lines ++ full_faults refusal =
    about_none target (refused_if (not (is_placed table (own_id table.declared target))) TargetNotPlaced None) (of_lines ++ full_faults refusal) none in
    no_target
    ∙ last_none (same_refusal refusal Full) of_lines (record { line = None; refusal = Full; id = None }) refl (subst (λ (l : List Found). list_any is_of_no_line l ≡ false) no_target none)

-- what is left of a block that is refused
lines_left : (table : Collation) (target : Id) (lines : List OrderLine) (refusal : Refusal) → delta table (statement.Block target lines) ≡ Err refusal
    → list_any is_of_no_line (faults table (statement.Block target lines)) ≡ false
    → without_faults lines (faults table (statement.Block target lines)) ≡ mended_lines table zero (own_id table.declared target ∷ []) (block_ids table target lines) lines
unfolding faults
lines_left table target lines refusal refused none =
    let found : faults table (statement.Block target lines) ≡ block_faults table target lines refusal = ap (answered_faults table (statement.Block target lines)) refused in
    ap (without_faults lines) (found ∙ block_found table target lines refusal (subst (λ (l : List Found). list_any is_of_no_line l ≡ false) found none))
    ∙ lines_out table [] zero (own_id table.declared target ∷ []) (block_ids table target lines) lines refl

block_left : (table : Collation) (target : Id) (lines : List OrderLine) (refusal : Refusal) (b : Bool) → delta table (statement.Block target lines) ≡ Err refusal
    → list_any is_of_no_line (faults table (statement.Block target lines)) ≡ b
    → table_behind_left table (if b then None else Some (statement.Block target (without_faults lines (faults table (statement.Block target lines)))))
    ≡ (if b then table else table_behind table (mended_block table target lines))
block_left table target lines refusal true refused is = refl
block_left table target lines refusal false refused is =
    ap (λ (l : List OrderLine). table_behind table (statement.Block target l)) (lines_left table target lines refusal refused is)

none_left : (table : Collation) (b : Bool) → table_behind_left table (if b then None else None) ≡ table
none_left table true = refl
none_left table false = refl

left_of : (table : Collation) (s : Statement) (refusal : Refusal) → delta table s ≡ Err refusal → table_behind_left table (mended s (faults table s)) ≡ table_mended table s
unfolding table_mended
left_of table (statement.Block target lines) refusal refused =
    block_left table target lines refusal (list_any is_of_no_line (faults table (statement.Block target lines))) refused refl
left_of table (statement.Symbol name) refusal refused = none_left table (list_any is_of_no_line (faults table (statement.Symbol name)))
left_of table (statement.Element name text) refusal refused = none_left table (list_any is_of_no_line (faults table (statement.Element name text)))
left_of table (statement.Equivalence name symbol) refusal refused = none_left table (list_any is_of_no_line (faults table (statement.Equivalence name symbol)))
left_of table (statement.SectionAfter moved after) refusal refused = none_left table (list_any is_of_no_line (faults table (statement.SectionAfter moved after)))
left_of table (statement.Reweight line) refusal refused = none_left table (list_any is_of_no_line (faults table (statement.Reweight line)))

-- nothing is left of another statement
pub no_block : (s : Statement) (found : List Found) → ((target : Id) (lines : List OrderLine) → s ≡ statement.Block target lines → ⊥) → None ≡ without_lines s found
no_block (statement.Block target lines) found other = absurd (other target lines refl)
no_block _ found other = refl

-- Statements with faults, and without.

-- a list that is empty, or isn't, by its length
none_found : (found : List Found) (n : ℕ) → n ≡ length found → (n == 0) ≡ true → found ≡ []
none_found [] n long empty = refl
none_found (first ∷ later) n long empty = let none : n ≡ 0 = (Decides-eqb n 0).0 empty in absurd (omega (arith, long, none))

some_found : (found : List Found) (n : ℕ) → n ≡ length found → (n == 0) ≡ false → found ≡ [] → ⊥
some_found found n long some none = false≢true (sym some ∙ ap (λ (m : ℕ). m == 0) (long ∙ ap length none))

-- the table behind a block without faults
pub accepted_behind : (table : Collation) (s : Statement) (found : List Found) (n : ℕ) → n ≡ length found → (n == 0) ≡ true → (found ≡ []) ↔ IsOk (delta table s)
    → table_behind table s ≡ table_behind_block table s
accepted_behind table s found n long empty accepted = by (delta table s) refl where
  by : (r : Result Collation Refusal) → delta table s ≡ r → table_behind table s ≡ table_behind_block table s
  by (Ok after) is =
      ap (λ (r : Result Collation Refusal). if is_proper s then table_after table r else table) is
      ∙ sym (ap (λ (r : Result Collation Refusal). if is_proper s then answered_block table s r else table) is)
  by (Err refusal) is = absurd (false≢true (subst (λ (r : Result Collation Refusal). IsOk r) is (accepted.0 (none_found found n long empty))))

-- the table behind a block with faults
pub mended_behind : (table : Collation) (s : Statement) (found seen : List Found) (n : ℕ) → is_proper s ≡ true → found ≡ faults table s → seen ≡ found → n ≡ length found → (n == 0) ≡ false
    → (found ≡ []) ↔ IsOk (delta table s) → table_behind_left table (mended s seen) ≡ table_behind_block table s
mended_behind table s found seen n proper is seen_is long some accepted = by (delta table s) refl where
  by : (r : Result Collation Refusal) → delta table s ≡ r → table_behind_left table (mended s seen) ≡ table_behind_block table s
  by (Ok after) answer = absurd (some_found found n long some (accepted.1 (subst (λ (r : Result Collation Refusal). IsOk r) (sym answer) refl)))
  by (Err refusal) answer =
      ap (λ (l : List Found). table_behind_left table (mended s l)) (seen_is ∙ is) ∙ left_of table s refusal answer
      ∙ sym (ap (λ (b : Bool). if b then answered_block table s (delta table s) else table) proper ∙ ap (answered_block table s) answer)

-- the table behind another statement with faults
pub refused_behind : (table : Collation) (s : Statement) (found : List Found) (n : ℕ) → n ≡ length found → (n == 0) ≡ false → (found ≡ []) ↔ IsOk (delta table s)
    → table ≡ table_behind table s
refused_behind table s found n long some accepted = by (delta table s) refl where
  same : (b : Bool) → (if b then table else table) ≡ table
  same true = refl
  same false = refl

  by : (r : Result Collation Refusal) → delta table s ≡ r → table ≡ table_behind table s
  by (Ok after) answer = absurd (some_found found n long some (accepted.1 (subst (λ (r : Result Collation Refusal). IsOk r) (sym answer) refl)))
  by (Err refusal) answer = sym (ap (λ (r : Result Collation Refusal). if is_proper s then table_after table r else table) answer ∙ same (is_proper s))

-- what is left is put to the table, if something is
pub left_behind : {T E : Type 0} (table after : Collation) (b : Bool) (s : Statement) (left : Option Statement) (r : Result T E) → (if b then Some s else None) ≡ left → b ≡ true
    → OnOk r (after ≡ table_behind table s) → OnOk r (after ≡ table_behind_left table left)
left_behind table after b s left (Ok x) is some behind = behind ∙ ap (table_behind_left table) (sym (ap (λ (x : Bool). if x then Some s else None) some) ∙ is)
left_behind table after b s left (Err e) is some behind = tt

pub nothing_behind : (table : Collation) (b : Bool) (s : Statement) (left : Option Statement) → (if b then Some s else None) ≡ left → b ≡ false → table ≡ table_behind_left table left
nothing_behind table b s left is none = ap (table_behind_left table) (sym (ap (λ (x : Bool). if x then Some s else None) none) ∙ is)
