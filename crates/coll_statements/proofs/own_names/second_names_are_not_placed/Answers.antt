-- What is placed is known as an own name, and so is no second name.
use Rattle.std.proofs.Common.{◌≡◌, false, refl}
use Rattle.coll_order.proofs.Sameness.{by_test, not_both}
use Rattle.coll_syntax.specs.Identifier.{same_id}
use Rattle.coll_nodes.specs.Table.{entries_of, ids_of, is_placed}
use Rattle.coll_nodes.specs.WellFormed.{IsKnown}
use Rattle.coll_nodes.proofs.OwnNames.{known_not_second}
use Rattle.coll_lookups.proofs.Sameness.{found_holds, same_id_decides}
use Rattle.coll_statements.proofs.own_names.second_names_are_not_placed.Goals as goal

pub returns : goal.returns
returns c = λ table id well second. by_test (λ b. is_placed table id ≡ b → b ≡ false) (is_placed table id)
    (λ _ there. not_both second (known_not_second table.declared id well.built.distinct_names
    (found_holds same_id same_id_decides (IsKnown table.declared) (ids_of (entries_of table)) id well.built.known there)))
    (λ _ _. refl) refl
