-- A statement that declares no element leaves the marks of a table those of the table.
use Rattle.std.proofs.Common.{◌≡◌, List, [], ◌∷◌, ◌++◌, Option, None, Some, option_map, Ok, map, sym, subst, ap, ◌∙◌}
use Rattle.std.specs.Prelude.{ℕ, Bool, false, Err, nat_le, not, length, if◌then◌else◌}
use Rattle.coll_syntax.specs.declared.identifiers.Id.{Id}
use Rattle.coll_syntax.specs.declared.statements.OrderLine.{OrderLine}
use Rattle.coll_syntax.specs.declared.statements.Statement.{Statement}
use Rattle.coll_syntax.specs.declared.statements.Statement.TheVariants as statement
use Rattle.coll_nodes.specs.Limits.{most_entries}
use Rattle.coll_nodes.specs.OwnNames.{named_own, own_id, own_weights}
use Rattle.coll_nodes.specs.Table.{Collation, entries_of, is_placed}
use Rattle.coll_nodes.specs.declared.declarations.Declaration.{Declaration}
use Rattle.coll_nodes.specs.declared.declarations.Declaration.TheVariants as declaration
use Rattle.coll_elements.proofs.Tests.{by_test}
use Rattle.coll_table.specs.Delta.{all_moved, block_delta, block_result, declaration_delta, declaration_refusal, delta, ids_given, lines_refusal, looked_up, or_refused, own_delta, reweight_delta, reweight_refusal, reweighted, section_delta, section_refusal, weight_ids_refusal}
use Rattle.coll_table.specs.OwnStatements.{own_statement}
use Rattle.coll_table.specs.declared.refusals.Refusal.TheVariants.{Full, TargetNotPlaced}
use Rattle.coll_table.proofs.DeltaPlacing.{all_moved_declared}
use Rattle.coll_table.proofs.DeltaRefusals.{or_unrefused, unrefused}
use Rattle.coll_reviews.specs.Declaring.{declares_element}
use Rattle.coll_letters.specs.ElementMarks.{AreMarks, StayMarks, TellOfAll, TellsOf}
use Rattle.coll_letters.specs.declared.element_marks.ElementMarks.{ElementMarks}

-- one more
tell_of_one_more : (marks : ElementMarks) (ds : List Declaration) (d : Declaration) → TellOfAll marks ds → TellsOf marks d → TellOfAll marks (ds ++ d ∷ [])
tell_of_one_more marks [] d told one = (one, tt)
tell_of_one_more marks (first ∷ ds) d told one = (told.0, tell_of_one_more marks ds d told.1 one)

declared_more : (old new : Collation) (d : Declaration) (marks : ElementMarks) → declaration_delta old d ≡ Ok new → TellsOf marks d → AreMarks old marks → AreMarks new marks
declared_more old new d marks e one are =
    subst (λ (t : Collation). AreMarks t marks) (unrefused (declaration_refusal old d) (record old { declared = old.declared ++ d ∷ [] }) new e).1
    (tell_of_one_more marks old.declared d are one)

-- a table with the same declarations
declared_so : (old new : Collation) (marks : ElementMarks) → new.declared ≡ old.declared → AreMarks old marks → AreMarks new marks
declared_so old new marks same are = subst (TellOfAll marks) (sym same) are

looked_up_is : (table new : Collation) (lines : List OrderLine) → looked_up table lines ≡ Ok new → new.declared ≡ table.declared
looked_up_is table new lines e = ap (λ (t : Collation). t.declared) (sym (unrefused (weight_ids_refusal table (ids_given lines)) table new e).1)

block_result_is : (table new : Collation) (lines : List OrderLine) → block_result table lines ≡ Ok new → new.declared ≡ table.declared
block_result_is table new lines e =
    by_test (λ (b : Bool). (if b then looked_up table lines else Err Full) ≡ Ok new → new.declared ≡ table.declared) (nat_le (length (entries_of table)) most_entries)
    (λ on fits. looked_up_is table new lines fits) (λ off full. absurd cc) e

block_is : (table new : Collation) (target : Id) (lines : List OrderLine) → block_delta table target lines ≡ Ok new → new.declared ≡ table.declared
block_is table new target lines e =
    by_test
    (λ (b : Bool). (if not b then Err TargetNotPlaced else or_refused (lines_refusal table (target ∷ []) lines) (block_result (all_moved table target lines) lines)) ≡ Ok new → new.declared ≡ table.declared)
    (is_placed table target)
    (λ on placed.
    block_result_is (all_moved table target lines) new lines (or_unrefused (lines_refusal table (target ∷ []) lines) (block_result (all_moved table target lines) lines) new placed).1
    ∙ all_moved_declared table target lines)
    (λ off missing. absurd cc) e

section_is : (table new : Collation) (name after : List ℕ) → section_delta table name after ≡ Ok new → new.declared ≡ table.declared
section_is table new name after e = ap (λ (t : Collation). t.declared) (sym (unrefused (section_refusal table name after) _ new e).1)

reweight_is : (table new : Collation) (line : OrderLine) → reweight_delta table line ≡ Ok new → new.declared ≡ table.declared
reweight_is table new line e =
    looked_up_is (reweighted table line) new (line ∷ []) (or_unrefused (reweight_refusal table line) (looked_up (reweighted table line) (line ∷ [])) new e).1

-- a line by own names
abbrev own_line : List Declaration → OrderLine → OrderLine
own_line declared line = record { id = own_id declared line.id; weights = option_map (own_weights declared) line.weights }

-- a statement that declares no element
one_stays : (s : Statement) → declares_element s ≡ false → (marks : ElementMarks) (old new : Collation) → delta old s ≡ Ok new → AreMarks old marks → AreMarks new marks
unfolding delta own_statement own_delta
one_stays (statement.Symbol name) other marks old new e are = declared_more old new (declaration.Symbol name) marks e tt are
one_stays (statement.Element name text) other marks old new e are = absurd cc
one_stays (statement.Equivalence name symbol) other marks old new e are = declared_more old new (declaration.Equivalence name (named_own old.declared symbol)) marks e tt are
one_stays (statement.Block target lines) other marks old new e are = declared_so old new marks (block_is old new (own_id old.declared target) (map (own_line old.declared) lines) e) are
one_stays (statement.SectionAfter name after) other marks old new e are = declared_so old new marks (section_is old new name after e) are
one_stays (statement.Reweight line) other marks old new e are = declared_so old new marks (reweight_is old new (own_line old.declared line) e) are

pub marks_stay : (s : Statement) → declares_element s ≡ false → (marks : Option ElementMarks) → StayMarks s marks marks
marks_stay s other None = λ old new e are. tt
marks_stay s other (Some marks) = λ old new e are. one_stays s other marks old new e are
