-- The request of a block, by its lines: its statement where nothing spoils it, and else the fault that decides.
use Rattle.std.proofs.Common.{◌≡◌, ℕ, ◌+◌, ◌≤◌, Bool, true, List, [], ◌∷◌, ◌++◌, length, Option, Some, None, Ok, Err, refl, sym, ap, ◌∙◌, arith, append-nil, append_assoc, length-append}
use Rattle.std.specs.Prelude.{if◌then◌else◌}
use Rattle.std.specs.List.{list_all}
use Rattle.std.proofs.lemmas.Bool.{lt-leb, and_parts}
use Rattle.std.proofs.lemmas.Grind.{flat_map-append}
use Rattle.coll_syntax.specs.declared.syntax_faults.SyntaxFault.TheVariants as syntax
use Rattle.coll_syntax.specs.declared.statements.OrderLine.{OrderLine}
use Rattle.coll_requests.specs.Limits.{most_block_lines}
use Rattle.coll_requests.specs.Requests.{fault_at, order_by, orders_in, or_else, lack_by, first_lack, spoils_by, spoils, first_spoiler, stated_unless, request_of, unless_starved, block_request}
use Rattle.coll_requests.specs.Laws.{is_taken, BlockStates, BlockStarves, BlockBegunRefused, BlockSpoiled}
use Rattle.coll_requests.specs.declared.request_faults.RequestFault.TheVariants as fault
use Rattle.coll_requests.specs.declared.session_lines.Parsed.{Parsed}
use Rattle.coll_requests.specs.declared.session_lines.Parsed.TheVariants as parsed
use Rattle.coll_requests.specs.declared.session_lines.ParsedLine.{ParsedLine}
use Rattle.coll_requests.specs.declared.requests.FaultAt.{FaultAt}

abbrev all_taken : List ParsedLine → Bool
all_taken lines = list_all (λ (line : ParsedLine). is_taken line.parsed) lines

taken_lacks_none : (n : ℕ) (h : Parsed) → is_taken h ≡ true → lack_by n h ≡ None
taken_lacks_none n (parsed.Stops f) taken = refl
taken_lacks_none n (parsed.Refused o f) taken = absurd cc
taken_lacks_none n (parsed.Command c) taken = refl
taken_lacks_none n (parsed.BadCommand f) taken = refl
taken_lacks_none n (parsed.BlockStart target) taken = refl
taken_lacks_none n parsed.BlockEnd taken = refl
taken_lacks_none n (parsed.OrderLine order) taken = refl
taken_lacks_none n (parsed.Standalone a) taken = absurd cc

no_lack : (lines : List ParsedLine) → all_taken lines ≡ true → first_lack lines ≡ None
unfolding first_lack
no_lack [] all = refl
no_lack (line ∷ lines) all =
    ap (λ (w : Option ℕ). or_else w (first_lack lines)) (taken_lacks_none line.number line.parsed (and_parts (is_taken line.parsed) (all_taken lines) all).0)
    ∙ no_lack lines (and_parts (is_taken line.parsed) (all_taken lines) all).1

-- a line that isn't refused spoils nothing where there is room for it
taken_spoils_none : (orders n : ℕ) (h : Parsed) → is_taken h ≡ true → orders + length (order_by h) ≤ most_block_lines → spoils_by orders n h ≡ None
taken_spoils_none orders n (parsed.Stops f) taken few = refl
taken_spoils_none orders n (parsed.Refused o f) taken few = absurd cc
taken_spoils_none orders n (parsed.Command c) taken few = refl
taken_spoils_none orders n (parsed.BadCommand f) taken few = refl
taken_spoils_none orders n (parsed.BlockStart target) taken few = refl
taken_spoils_none orders n parsed.BlockEnd taken few = refl
taken_spoils_none orders n (parsed.OrderLine order) taken few =
    ap (λ (b : Bool). if b then Some (fault_at n (fault.Syntax syntax.BlockTooLong)) else None) (lt-leb most_block_lines orders (omega (arith, few)))
taken_spoils_none orders n (parsed.Standalone a) taken few = absurd cc

abbrev order_of : ParsedLine → List OrderLine
order_of line = order_by line.parsed

orders-append : (xs ys : List ParsedLine) → length (orders_in (xs ++ ys)) ≡ length (orders_in xs) + length (orders_in ys)
orders-append xs ys = ap length (flat_map-append order_of xs ys) ∙ length-append (orders_in xs) (orders_in ys)

orders-cons : (line : ParsedLine) (lines : List ParsedLine) → length (orders_in (line ∷ lines)) ≡ length (order_by line.parsed) + length (orders_in lines)
orders-cons line lines = length-append (order_by line.parsed) (orders_in lines)

no_spoiler : (before lines : List ParsedLine) → all_taken lines ≡ true → length (orders_in before) + length (orders_in lines) ≤ most_block_lines → first_spoiler before lines ≡ None
unfolding first_spoiler
no_spoiler before [] all few = refl
no_spoiler before (line ∷ lines) all few =
    let own = length (order_by line.parsed) in
    let rest = length (orders_in lines) in
    let split : length (orders_in (line ∷ lines)) ≡ own + rest = orders-cons line lines in
    let one : length (orders_in (line ∷ [])) ≡ own + 0 = orders-cons line [] in
    let more : length (orders_in (before ++ line ∷ [])) ≡ length (orders_in before) + length (orders_in (line ∷ [])) = orders-append before (line ∷ []) in
    let here : length (orders_in before) + own ≤ most_block_lines = omega (arith, few, split) in
    let next : length (orders_in (before ++ line ∷ [])) + rest ≤ most_block_lines = omega (arith, few, split, more, one) in
    ap (λ (s : Option FaultAt). or_else s (first_spoiler (before ++ line ∷ []) lines))
    (taken_spoils_none (length (orders_in before)) line.number line.parsed (and_parts (is_taken line.parsed) (all_taken lines) all).0 here)
    ∙ no_spoiler (before ++ line ∷ []) lines (and_parts (is_taken line.parsed) (all_taken lines) all).1 next

pub block_states : BlockStates
unfolding block_request
block_states n target body all few =
    ap (λ (w : Option ℕ). unless_starved w (request_of n (Ok target) body)) (no_lack body all)
    ∙ ap (λ (s : Option FaultAt). stated_unless s n target (orders_in body)) (no_spoiler [] body all (omega (arith, few)))

pub block_starves : BlockStarves
unfolding block_request
block_starves block line lack = ap (λ (w : Option ℕ). unless_starved w (request_of block.line block.target block.lines)) lack

pub block_begun_refused : BlockBegunRefused
unfolding block_request
block_begun_refused n f body none = ap (λ (w : Option ℕ). unless_starved w (request_of n (Err f) body)) none

or_none_first : (a b : Option FaultAt) → or_else a b ≡ None → a ≡ None
or_none_first (Some x) b e = cc
or_none_first None b e = refl

or_none_second : (a b : Option FaultAt) → or_else a b ≡ None → b ≡ None
or_none_second (Some x) b e = absurd cc
or_none_second None b e = e

-- the first line that spoils the block is the first of all lines that does
spoiler-within : (before prefix lines : List ParsedLine) (line : ParsedLine) (at : FaultAt) → first_spoiler before prefix ≡ None → spoils (before ++ prefix) line ≡ Some at
    → first_spoiler before (prefix ++ line ∷ lines) ≡ Some at
unfolding first_spoiler
spoiler-within before [] lines line at none spoiled =
    ap (λ (s : Option FaultAt). or_else s (first_spoiler (before ++ line ∷ []) lines)) (ap (λ (ls : List ParsedLine). spoils ls line) (sym (append-nil before)) ∙ spoiled)
spoiler-within before (first ∷ prefix) lines line at none spoiled =
    ap (λ (s : Option FaultAt). or_else s (first_spoiler (before ++ first ∷ []) (prefix ++ line ∷ lines))) (or_none_first (spoils before first) (first_spoiler (before ++ first ∷ []) prefix) none)
    ∙ spoiler-within (before ++ first ∷ []) prefix lines line at (or_none_second (spoils before first) (first_spoiler (before ++ first ∷ []) prefix) none)
    (ap (λ (ls : List ParsedLine). spoils ls line) (append_assoc before (first ∷ []) prefix) ∙ spoiled)

pub block_spoiled : BlockSpoiled
unfolding block_request
block_spoiled n target before later line at none first spoiled =
    ap (λ (w : Option ℕ). unless_starved w (request_of n (Ok target) (before ++ line ∷ later))) none
    ∙ ap (λ (s : Option FaultAt). stated_unless s n target (orders_in (before ++ line ∷ later))) (spoiler-within [] before later line at first spoiled)
