-- The lines of statements, one behind another, say these statements.
use Rattle.std.proofs.Common.{◌≡◌, ℕ, suc, ◌+◌, ◌<◌, ◌≤◌, Bool, true, if◌then◌else◌, List, [], ◌∷◌, ◌++◌}
use Rattle.std.proofs.Common.{All, length, map, Some, None, Ok, sym, ap, ◌∙◌, refl, arith, append-nil, append_assoc, length-append}
use Rattle.std.specs.List.{flat_map, list_all}
use Rattle.std.proofs.lemmas.Bool.{and_parts, lt-leb}
use Rattle.std.proofs.lemmas.Grind.{flat_map-append}
use Rattle.std.proofs.lemmas.List.{length-map}
use Rattle.std.proofs.lemmas.List.Elements.{All-head, All-tail}
use Rattle.coll_syntax.specs.declared.lines.DeltaLine.{DeltaLine}
use Rattle.coll_syntax.specs.declared.lines.DeltaLine.TheVariants as line
use Rattle.coll_syntax.specs.declared.identifiers.Id.{Id}
use Rattle.coll_syntax.specs.declared.syntax_faults.SyntaxFault.TheVariants as syntax
use Rattle.coll_syntax.specs.declared.statements.OrderLine.{OrderLine}
use Rattle.coll_syntax.specs.declared.statements.Statement.{Statement}
use Rattle.coll_syntax.specs.declared.statements.Statement.TheVariants as statement
use Rattle.coll_requests.specs.SessionLines.{delta_parsed}
use Rattle.coll_requests.specs.Limits.{most_block_lines}
use Rattle.coll_requests.specs.Requests.{fault_at, order_by, orders_in, requests_at, block_after}
use Rattle.coll_requests.specs.Laws.{block_with, is_taken}
use Rattle.coll_requests.specs.DeltaFiles.{DeltaOutcome, Ended, after_statements, statements_in, by_fault, outcome_within}
use Rattle.coll_requests.specs.declared.delta_files.StatementAt.{StatementAt}
use Rattle.coll_requests.specs.declared.request_faults.RequestFault.TheVariants as fault
use Rattle.coll_requests.specs.declared.requests.RequestAt.{RequestAt}
use Rattle.coll_requests.specs.declared.session_lines.Opening.{Opening}
use Rattle.coll_requests.specs.declared.session_lines.Opening.TheVariants as opening
use Rattle.coll_requests.specs.declared.session_lines.StandaloneLine.TheVariants as apart
use Rattle.coll_requests.specs.declared.session_lines.Parsed.{Parsed}
use Rattle.coll_requests.specs.declared.session_lines.Parsed.TheVariants as parsed
use Rattle.coll_requests.specs.declared.session_lines.ParsedLine.{ParsedLine}
use Rattle.coll_requests.proofs.BlockRequests.{block_states}
use Rattle.coll_delta_texts.specs.Writable.{IsWritable}
use Rattle.coll_delta_texts.proofs.DeltaSays.{statement_reads}

-- What is parsed.

-- what a line that is read is parsed as
abbrev pub parsed_of : DeltaLine → Parsed
parsed_of read = delta_parsed opening.Neither (Ok read)

-- whatever it begins with
pub any_opening : (o : Opening) (read : DeltaLine) → delta_parsed o (Ok read) ≡ parsed_of read
any_opening o (line.Symbol name) = refl
any_opening o (line.Element name text) = refl
any_opening o (line.Equivalence name symbol) = refl
any_opening o line.Script = refl
any_opening o line.Category = refl
any_opening o line.EndCategory = refl
any_opening o line.Copy = refl
any_opening o (line.ReorderAfter target) = refl
any_opening o line.ReorderEnd = refl
any_opening o (line.SectionAfter moved after) = refl
any_opening o (line.Order order) = refl

-- lines one behind another, of which the first has this number
unfoldable pub parsed_from : ℕ → List DeltaLine → List ParsedLine
parsed_from n [] = []
parsed_from n (read ∷ reads) = record { number = n; parsed = parsed_of read } ∷ parsed_from (suc n) reads

-- What is said.

-- a statement that begins at this line
abbrev stated : ℕ → Statement → List StatementAt
stated n s = record { line = n; statement = s } ∷ []

-- statements one behind another, of which the first begins at this line
abbrev pub numbered_from : ℕ → List Statement → List StatementAt
numbered_from n [] = []
numbered_from n (s ∷ ss) = record { line = n; statement = s } ∷ numbered_from (n + length (statement_reads s)) ss

pub numbered_statements : (n : ℕ) (ss : List Statement) → map (λ (at : StatementAt). at.statement) (numbered_from n ss) ≡ ss
numbered_statements n [] = refl
numbered_statements n (s ∷ ss) = ap (λ later. s ∷ later) (numbered_statements (n + length (statement_reads s)) ss)

-- no statement, and then what later lines say
after_none : (o : DeltaOutcome) → after_statements [] o ≡ o
after_none o = refl

-- a line that is a statement
one_says : (n : ℕ) (s : Statement) (read : DeltaLine) (later : List DeltaLine) → parsed_of read ≡ parsed.Standalone (apart.Statement s)
    → outcome_within None (parsed_from n (read ∷ later)) ≡ after_statements (stated n s) (outcome_within None (parsed_from (n + 1) later))
unfolding parsed_from outcome_within requests_at block_after
one_says n s read later e =
    let next : suc n ≡ n + 1 = omega arith in
    rw e (ap (λ m. after_statements (stated n s) (outcome_within None (parsed_from m later))) next)

-- an order line outside a block
reweight_says : (n : ℕ) (order : OrderLine) (later : List DeltaLine)
    → outcome_within None (parsed_from n (line.Order order ∷ later)) ≡ after_statements (stated n (statement.Reweight order)) (outcome_within None (parsed_from (n + 1) later))
unfolding parsed_from outcome_within requests_at block_after
reweight_says n order later =
    let next : suc n ≡ n + 1 = omega arith in
    ap (λ m. after_statements (stated n (statement.Reweight order)) (outcome_within None (parsed_from m later))) next

-- a copy
copy_says_nothing : (n : ℕ) (later : List DeltaLine) → outcome_within None (parsed_from n (line.Copy ∷ later)) ≡ outcome_within None (parsed_from (suc n) later)
unfolding parsed_from outcome_within requests_at block_after
copy_says_nothing n later = refl

-- the end of the category
end_says : (n : ℕ) → outcome_within None (parsed_from n (line.EndCategory ∷ [])) ≡ record { statements = []; ending = Ended }
unfolding parsed_from outcome_within requests_at block_after
end_says n = refl

-- Blocks.

-- an order line as it is parsed
abbrev ordered : ℕ → OrderLine → ParsedLine
ordered m o = record { number = m; parsed = parsed.OrderLine o }

abbrev AreTaken : List ParsedLine → Type 0
AreTaken lines = list_all (λ (line : ParsedLine). is_taken line.parsed) lines ≡ true

taken_more : (done : List ParsedLine) (m : ℕ) (o : OrderLine) → AreTaken done → AreTaken (done ++ ordered m o ∷ [])
taken_more [] m o all = refl
taken_more (first ∷ done) m o all =
    let parts = and_parts (is_taken first.parsed) (list_all (λ (line : ParsedLine). is_taken line.parsed) done) all in
    rw parts.0 (taken_more done m o parts.1)

-- the line that begins a block
begun : (n : ℕ) (target : Id) (later : List DeltaLine)
    → outcome_within None (parsed_from n (line.ReorderAfter target ∷ later)) ≡ outcome_within (Some (block_with n (Ok target) [])) (parsed_from (suc n) later)
unfolding parsed_from outcome_within requests_at block_after
begun n target later = refl

-- an order line of a block that has room for it
goes_on : (n m : ℕ) (target : Id) (done : List ParsedLine) (o : OrderLine) (later : List DeltaLine) → length (orders_in done) < most_block_lines
    → outcome_within (Some (block_with n (Ok target) done)) (parsed_from m (line.Order o ∷ later))
    ≡ outcome_within (Some (block_with n (Ok target) (done ++ ordered m o ∷ []))) (parsed_from (suc m) later)
unfolding parsed_from outcome_within requests_at block_after
goes_on n m target done o later room =
    ap (λ (full : Bool). by_fault (Some (block_with n (Ok target) done)) (ordered m o) (if full then Some (fault_at m (fault.Syntax syntax.BlockTooLong)) else None)
    (outcome_within (Some (block_with n (Ok target) (done ++ ordered m o ∷ []))) (parsed_from (suc m) later)))
    (lt-leb most_block_lines (length (orders_in done)) room)

-- the line that ends it
ended_here : (n m : ℕ) (target : Id) (done : List ParsedLine) (later : List DeltaLine) → AreTaken done → length (orders_in done) ≤ most_block_lines
    → outcome_within (Some (block_with n (Ok target) done)) (parsed_from m (line.ReorderEnd ∷ later))
    ≡ after_statements (stated n (statement.Block target (orders_in done))) (outcome_within None (parsed_from (suc m) later))
unfolding parsed_from outcome_within requests_at block_after
ended_here n m target done later all few =
    ap (λ (u : RequestAt). after_statements (statements_in (u ∷ [])) (outcome_within None (parsed_from (suc m) later))) (block_states n target done all few)

abbrev order_of : ParsedLine → List OrderLine
order_of line = order_by line.parsed

-- the lines of a block from some line on
block_says : (n m : ℕ) (target : Id) (done : List ParsedLine) (lines : List OrderLine) (later : List DeltaLine)
    → AreTaken done → length (orders_in done) + length lines ≤ most_block_lines
    → outcome_within (Some (block_with n (Ok target) done)) (parsed_from m (map line.Order lines ++ line.ReorderEnd ∷ later))
    ≡ after_statements (stated n (statement.Block target (orders_in done ++ lines))) (outcome_within None (parsed_from (m + (length lines + 1)) later))
block_says n m target done [] later all few =
    let next : suc m ≡ m + (0 + 1) = omega arith in
    ended_here n m target done later all (omega (arith, few))
    ∙ ap (λ os. after_statements (stated n (statement.Block target os)) (outcome_within None (parsed_from (suc m) later))) (sym (append-nil (orders_in done)))
    ∙ ap (λ k. after_statements (stated n (statement.Block target (orders_in done ++ []))) (outcome_within None (parsed_from k later))) next
block_says n m target done (o ∷ os) later all few =
    let more = done ++ ordered m o ∷ [] in
    let orders : orders_in more ≡ orders_in done ++ o ∷ [] = flat_map-append order_of done (ordered m o ∷ []) in
    let count : length (orders_in more) ≡ length (orders_in done) + 1 = ap length orders ∙ length-append (orders_in done) (o ∷ []) in
    let room : length (orders_in more) + length os ≤ most_block_lines = omega (arith, few, count) in
    let joined : orders_in more ++ os ≡ orders_in done ++ o ∷ os = ap (λ l. l ++ os) orders ∙ append_assoc (orders_in done) (o ∷ []) os in
    let next : suc m + (length os + 1) ≡ m + (length (o ∷ os) + 1) = omega arith in
    goes_on n m target done o (map line.Order os ++ line.ReorderEnd ∷ later) (omega (arith, few))
    ∙ block_says n (suc m) target more os later (taken_more done m o all) room
    ∙ ap (λ l. after_statements (stated n (statement.Block target l)) (outcome_within None (parsed_from (suc m + (length os + 1)) later))) joined
    ∙ ap (λ k. after_statements (stated n (statement.Block target (orders_in done ++ o ∷ os))) (outcome_within None (parsed_from k later))) next

-- Statements.

-- the lines of a statement say it
statement_said : (n : ℕ) (s : Statement) (later : List DeltaLine) → IsWritable s
    → outcome_within None (parsed_from n (statement_reads s ++ later)) ≡ after_statements (stated n s) (outcome_within None (parsed_from (n + length (statement_reads s)) later))
statement_said n (statement.Symbol name) later h = one_says n (statement.Symbol name) (line.Symbol name) later refl
statement_said n (statement.Element name text) later h = one_says n (statement.Element name text) (line.Element name text) later refl
statement_said n (statement.Equivalence name symbol) later h = one_says n (statement.Equivalence name symbol) (line.Equivalence name symbol) later refl
statement_said n (statement.Block target lines) later h =
    let is = h.0 in
    let last : List DeltaLine = line.ReorderEnd ∷ [] in
    let few : length (orders_in []) + length lines ≤ most_block_lines = omega (arith, is.1) in
    let count : length (map line.Order lines ++ last) ≡ length lines + 1 = length-append (map line.Order lines) last ∙ ap (λ k. k + 1) (length-map lines line.Order) in
    let next : suc n + (length lines + 1) ≡ n + length (line.ReorderAfter target ∷ (map line.Order lines ++ last)) = omega (arith, count) in
    ap (λ reads. outcome_within None (parsed_from n (line.ReorderAfter target ∷ reads))) (append_assoc (map line.Order lines) last later)
    ∙ begun n target (map line.Order lines ++ line.ReorderEnd ∷ later)
    ∙ block_says n (suc n) target [] lines later refl few
    ∙ ap (λ k. after_statements (stated n (statement.Block target lines)) (outcome_within None (parsed_from k later))) next
statement_said n (statement.SectionAfter moved after) later h = one_says n (statement.SectionAfter moved after) (line.SectionAfter moved after) later refl
statement_said n (statement.Reweight order) later h = reweight_says n order later

-- and so do those of statements, up to the end of the category
pub statements_said : (n : ℕ) (ss : List Statement) → All IsWritable ss
    → outcome_within None (parsed_from n (flat_map statement_reads ss ++ line.EndCategory ∷ [])) ≡ record { statements = numbered_from n ss; ending = Ended }
statements_said n [] h = end_says n
statements_said n (s ∷ ss) h =
    ap (λ reads. outcome_within None (parsed_from n reads)) (append_assoc (statement_reads s) (flat_map statement_reads ss) (line.EndCategory ∷ []))
    ∙ statement_said n s (flat_map statement_reads ss ++ line.EndCategory ∷ []) (All-head IsWritable s ss h)
    ∙ ap (after_statements (stated n s)) (statements_said (n + length (statement_reads s)) ss (All-tail IsWritable s ss h))

-- copies before them say nothing
pub past_copies : (n : ℕ) (copies : List (List ℕ)) (later : List DeltaLine)
    → outcome_within None (parsed_from n (map (λ _. line.Copy) copies ++ later)) ≡ outcome_within None (parsed_from (n + length copies) later)
past_copies n [] later =
    let same : n ≡ n + 0 = omega arith in
    ap (λ m. outcome_within None (parsed_from m later)) same
past_copies n (name ∷ names) later =
    let next : suc n + length names ≡ n + length (name ∷ names) = omega arith in
    copy_says_nothing n (map (λ _. line.Copy) names ++ later) ∙ past_copies (suc n) names later ∙ ap (λ m. outcome_within None (parsed_from m later)) next
