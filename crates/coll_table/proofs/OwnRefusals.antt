-- No refusal of an order line outside a block is a lack of memory: nothing is grown for it.
use Rattle.std.proofs.Common.{◌≡◌, Bool, true, false, List, [], ◌∷◌, Option, Some, None, Result, Ok, Err, IfErr, ap, subst, ◌∙◌}
use Rattle.std.specs.Option.{option_or}
use Rattle.coll_syntax.specs.declared.identifiers.Id.{Id}
use Rattle.coll_syntax.specs.declared.statements.OrderLine.{OrderLine}
use Rattle.coll_nodes.specs.Causes.{refused_if}
use Rattle.coll_table.specs.Delta.{ids_given, looked_up, or_refused, reweight_delta, reweight_refusal, reweighted, unless_refused, weight_id_refusal, weight_ids_refusal, weights_refusal}
use Rattle.coll_nodes.specs.Table.{Collation}
use Rattle.coll_table.specs.declared.refusals.Refusal.{Refusal}
use Rattle.coll_table.specs.declared.refusals.Refusal.TheVariants.{OutOfMemory}

-- a refusal, if there is one, is of the statement
abbrev OwnRefusal : Option Refusal → Type 0
OwnRefusal None = Unit {0}
OwnRefusal (Some OutOfMemory) = ⊥
OwnRefusal (Some _) = Unit {0}

-- so is that of an answer
abbrev OwnAnswer : Result Collation Refusal → Type 0
OwnAnswer (Ok table) = Unit {0}
OwnAnswer (Err refusal) = OwnRefusal (Some refusal)

tested : (test : Bool) (refusal : Refusal) (later : Option Refusal) → OwnRefusal (Some refusal) → OwnRefusal later → OwnRefusal (refused_if test refusal later)
tested true refusal later own h = own
tested false refusal later own h = h

either_own : (a b : Option Refusal) → OwnRefusal a → OwnRefusal b → OwnRefusal (option_or a b)
either_own (Some refusal) b h k = h
either_own None b h k = k

unless_own : (refusal : Option Refusal) (after : Collation) → OwnRefusal refusal → OwnAnswer (unless_refused refusal after)
unless_own (Some refusal) after h = h
unless_own None after h = tt

or_own : (refusal : Option Refusal) (answer : Result Collation Refusal) → OwnRefusal refusal → OwnAnswer answer → OwnAnswer (or_refused refusal answer)
or_own (Some refusal) answer h k = h
or_own None answer h k = k

module _ (table : Collation) where
  weights_own : (line : OrderLine) → OwnRefusal (weights_refusal table line None)
  weights_own line = search (tested)

  line_own : (line : OrderLine) → OwnRefusal (reweight_refusal table line)
  line_own line = search (tested, weights_own)

  id_own : (id : Id) → OwnRefusal (weight_id_refusal table id)
  id_own id = search (tested)

  ids_own : (ids : List Id) → OwnRefusal (weight_ids_refusal table ids)
  ids_own [] = tt
  ids_own (id ∷ ids) = either_own (weight_id_refusal table id) (weight_ids_refusal table ids) (id_own id) (ids_own ids)

reweight_own : (table : Collation) (line : OrderLine) → OwnAnswer (reweight_delta table line)
reweight_own table line =
    let after = reweighted table line in
    or_own (reweight_refusal table line) (looked_up after (line ∷ [])) (line_own table line)
    (unless_own (weight_ids_refusal after (ids_given (line ∷ []))) after (ids_own after (ids_given (line ∷ []))))

-- so a lack of memory is no answer to it
pub reweight_unstarved : {U : Type 0} (Taken : Type 0) (r : Result U Refusal) (table : Collation) (line : OrderLine) (refusal : Option Refusal)
    → reweight_delta table line ≡ unless_refused refusal (reweighted table line)
    → IfErr r (λ it. refusal ≡ Some it) → IfErr r (λ it. it ≡ OutOfMemory → Taken)
reweight_unstarved Taken (Ok u) table line refusal is some = tt
reweight_unstarved Taken (Err it) table line refusal is some =
    λ lack. absurd (subst OwnAnswer (is ∙ ap (λ r. unless_refused r (reweighted table line)) (some ∙ ap Some lack)) (reweight_own table line))
