-- A line of a text is found by passing those before it.
use Rattle.std.proofs.Common.{◌≡◌, ◌+◌, ◌-◌, ◌<◌, ℕ, suc, List, [], ◌∷◌, length, get_or, drop, ap, sym, ◌∙◌, arith}
use Rattle.std.proofs.lemmas.List.{drop-drop, get_or-drop, length-drop}
use Rattle.coll_devices.specs.PhysicalLines.{lines_of, without_return}
use Rattle.coll_refused_lines.specs.NumberedLines.{IsLineAt}

-- one more line is passed
pub one_more : (lines left later : List (List ℕ)) (n : ℕ) (first : List ℕ) → drop n lines ≡ left → left ≡ first ∷ later → drop (n + 1) lines ≡ later
one_more lines left later n first passed begins = sym (drop-drop 1 n lines) ∙ ap (drop 1) (passed ∙ begins)

-- the line behind those that are passed has the next number
pub line_behind : (text line first : List ℕ) (later : List (List ℕ)) (number n : ℕ) → n ≡ number - 1 → drop n (lines_of text) ≡ first ∷ later
    → line ≡ without_return first → IsLineAt text number line
line_behind text line first later number n count passed is =
    let lines = lines_of text in
    let some : length (drop n lines) ≡ suc (length later) = ap length passed in
    let there : n < length lines = omega (arith, length-drop n lines) in
    let at_n : get_or (drop n lines) 0 [] ≡ get_or lines n [] = get_or-drop n lines 0 [] ∙ ap (λ k. get_or lines k []) (omega arith) in
    let here : get_or lines n [] ≡ first = sym at_n ∙ ap (λ l. get_or l 0 []) passed in
    record {
      there = rw (← count) there;
      is = rw (← count) (is ∙ ap without_return (sym here));
    }
