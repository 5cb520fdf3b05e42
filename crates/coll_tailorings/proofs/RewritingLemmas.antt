-- A table that statements rewrite, with a statement more behind them.
use Rattle.std.proofs.Common.{◌≡◌, Bool, true, false, List, [], ◌∷◌, ◌++◌, Result, Ok, Err, refl, ap, sym, subst, ◌∙◌}
use Rattle.std.proofs.lemmas.Bool.{false≢true}
use Rattle.coll_syntax.specs.declared.statements.Statement.{Statement}
use Rattle.coll_nodes.specs.Table.{Collation}
use Rattle.coll_table.specs.Delta.{delta}
use Rattle.coll_table.specs.declared.refusals.Refusal.{Refusal}
use Rattle.coll_tailorings.specs.Rewriting.{Answers, LeadsOn, and_then, rewritten}

appended_by : (r : Result Collation Refusal) (given later : List Statement)
    → ((t : Collation) → rewritten t (given ++ later) ≡ and_then (rewritten t given) (λ u. rewritten u later))
    → and_then r (λ t. rewritten t (given ++ later)) ≡ and_then (and_then r (λ t. rewritten t given)) (λ u. rewritten u later)
appended_by (Ok t) given later h = h t
appended_by (Err f) given later h = refl

rewritten-append : (table : Collation) (given later : List Statement)
    → rewritten table (given ++ later) ≡ and_then (rewritten table given) (λ u. rewritten u later)
unfolding rewritten
rewritten-append table [] later = refl
rewritten-append table (s ∷ given) later = appended_by (delta table s) given later (λ t. rewritten-append t given later)

one_more : (r : Result Collation Refusal) (after : Collation) → r ≡ Ok after → and_then r (λ u. rewritten u []) ≡ Ok after
unfolding rewritten
one_more (Ok t) after h = h
one_more (Err f) after h = h

-- no statement rewrites a table to itself
pub rewritten_by_none : (table : Collation) (none : List Statement) → none ≡ [] → rewritten table none ≡ Ok table
unfolding rewritten
rewritten_by_none table none same = subst (λ ss. rewritten table ss ≡ Ok table) (sym same) refl

-- statements that lead on do so from each table
pub led_on : (start : Collation) (given : List Statement) (table : Collation) (more : List Statement) (after : Collation)
    → LeadsOn given table more after → rewritten start given ≡ Ok table → rewritten start more ≡ Ok after
unfolding LeadsOn
led_on start given table more after leads stands = leads start stands

-- where nothing changes, what was given leads to the same table
leads_on_still : (given : List Statement) (table : Collation) → LeadsOn given table given table
unfolding LeadsOn
leads_on_still given table start leads = leads

-- a statement that is refused changes nothing
pub refused_stays : (accepted : Bool) (table : Collation) (s : Statement) (after : Collation)
    → Answers accepted table s after → accepted ≡ false → after ≡ table
refused_stays true table s after answer refused = absurd (false≢true (sym refused))
refused_stays false table s after answer refused = answer.1

-- a statement that is accepted rewrites the table
pub accepted_rewrites : (accepted : Bool) (table : Collation) (s : Statement) (after : Collation)
    → Answers accepted table s after → accepted ≡ true → delta table s ≡ Ok after
accepted_rewrites true table s after answer accepts = answer
accepted_rewrites false table s after answer accepts = absurd (false≢true accepts)

-- a statement that is left out leads to the same table
pub leads_on_without : (given : List Statement) (table after : Collation) → after ≡ table → LeadsOn given table given after
leads_on_without given table after same = subst (LeadsOn given table given) (sym same) (leads_on_still given table)

with_one : (given : List Statement) (table : Collation) (s : Statement) (after : Collation)
    → delta table s ≡ Ok after → LeadsOn given table (given ++ s ∷ []) after
unfolding LeadsOn rewritten
with_one given table s after accepts start leads =
    rewritten-append start given (s ∷ [])
    ∙ ap (λ r. and_then r (λ u. rewritten u (s ∷ []))) leads
    ∙ one_more (delta table s) after accepts

-- a statement that is accepted leads on from what was given
pub leads_on_with : (given more : List Statement) (table : Collation) (s : Statement) (after : Collation)
    → delta table s ≡ Ok after → more ≡ given ++ s ∷ [] → LeadsOn given table more after
leads_on_with given more table s after accepts same =
    subst (λ ss. LeadsOn given table ss after) (sym same) (with_one given table s after accepts)
