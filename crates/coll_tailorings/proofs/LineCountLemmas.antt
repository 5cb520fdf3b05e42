-- The number of lines of statements, and of a delta file.
use Rattle.std.proofs.Common.{◌≡◌, ◌+◌, ℕ, List, [], ◌∷◌, ◌++◌, map, length, codes, All, ap, sym, subst, ◌∙◌, arith}
use Rattle.std.specs.List.{flat_map}
use Rattle.std.proofs.lemmas.List.{flat_map_more, length-append, length-map}
use Rattle.std.proofs.lemmas.List.Elements.{All-append, All-cons, All-nil}
use Rattle.coll_syntax.specs.declared.statements.Statement.{Statement}
use Rattle.coll_texts.specs.StatementText.{statement_lines}
use Rattle.coll_delta_texts.specs.Writable.{IsWritable}
use Rattle.coll_delta_texts.specs.DeltaText.{copy_line, delta_lines}
use Rattle.coll_texts.specs.CanonicalText.{opening_lines}
use Rattle.coll_tailorings.specs.LineCounts.{line_count}

-- where nothing is kept, it can all be written
pub none_is_written : (none : List Statement) → none ≡ [] → All IsWritable none
none_is_written none same = subst (All IsWritable) (sym same) (All-nil IsWritable)

-- where nothing is kept, there are only the other lines
pub counted_none : (others : ℕ) (none : List Statement) → none ≡ [] → others ≡ others + line_count none
counted_none others none same = let no_lines : line_count none ≡ 0 = ap line_count same in omega (arith, no_lines)

sum_on : (after kept lines more others : ℕ) → after + kept ≡ lines + more → lines ≡ others + kept → after ≡ others + more
sum_on after kept lines more others step counted = omega (arith, step, counted)

-- the lines of what is kept, and the others, are counted on
pub counted_on : (after : ℕ) (kept : List Statement) (lines : ℕ) (more : List Statement) (others : ℕ)
    → after + line_count kept ≡ lines + line_count more → lines ≡ others + line_count kept → after ≡ others + line_count more
counted_on after kept lines more others step counted = sum_on after (line_count kept) lines (line_count more) others step counted

line_count_more : (kept : List Statement) (s : Statement) → line_count (kept ++ s ∷ []) ≡ line_count kept + length (statement_lines s)
line_count_more kept s =
    ap length (sym (flat_map_more statement_lines [] kept s)) ∙ length-append (flat_map statement_lines kept) (statement_lines s)

sum_with : (after lines one kept more : ℕ) → after ≡ lines + one → more ≡ kept + one → after + kept ≡ lines + more
sum_with after lines one kept more step counted = omega (arith, step, counted)

-- the lines of a statement that is kept are counted
pub counted_with : (after lines : ℕ) (kept more : List Statement) (s : Statement) → after ≡ lines + length (statement_lines s)
    → more ≡ kept ++ s ∷ [] → after + line_count kept ≡ lines + line_count more
counted_with after lines kept more s step same =
    sum_with after lines (length (statement_lines s)) (line_count kept) (line_count more) step (ap line_count same ∙ line_count_more kept s)

-- what is kept can be written, with a statement more that can
pub written_with : (kept more : List Statement) (s : Statement) → IsWritable s → more ≡ kept ++ s ∷ [] → All IsWritable kept
    → All IsWritable more
written_with kept more s writable same before =
    subst (All IsWritable) (sym same) (All-append IsWritable kept (s ∷ []) before (All-cons IsWritable s [] writable (All-nil IsWritable)))

-- the length of three lists with a member more
three_and_one : (first second third : List (List ℕ)) (last : List ℕ)
    → length (first ++ (second ++ (third ++ last ∷ []))) ≡ length first + (length second + (length third + 1))
three_and_one first second third last =
    length-append first (second ++ (third ++ last ∷ []))
    ∙ ap (λ n. length first + n)
    (length-append second (third ++ last ∷ []) ∙ ap (λ n. length second + n) (length-append third (last ∷ [])))

sums : (all mapped copies lines : ℕ) → all ≡ 3 + (mapped + (lines + 1)) → mapped ≡ copies → all ≡ (copies + 4) + lines
sums all mapped copies lines parts same = omega (arith, parts, same)

-- a delta file has a line for each copy, those of its statements, and four others
pub delta_length : (copies : List (List ℕ)) (statements : List Statement)
    → length (delta_lines copies statements) ≡ (length copies + 4) + line_count statements
unfolding delta_lines
delta_length copies statements =
    sums (length (delta_lines copies statements)) (length (map copy_line copies)) (length copies) (line_count statements)
    (three_and_one opening_lines (map copy_line copies) (flat_map statement_lines statements) (codes "END LC_COLLATE"))
    (length-map copies copy_line)
