-- What is put in, and what is left, is the whole.
use Rattle.std.proofs.Common.{◌≡◌, ◌+◌, ◌<◌, ◌++◌, length, All}
use Rattle.std.specs.List.{flat_map}
use Rattle.coll_lookups.specs.NamePlaces.{place_named}
use Rattle.coll_elements.specs.TableElements.{ranked_declared, HasString}
use Rattle.coll_elements.proofs.table_elements.put_all.Given as goal

abbrev pub invariant-declared : goal.invariant-declared
invariant-declared l =
    record {
      whole : l.all ++ flat_map (ranked_declared (place_named l.places)) l.left ≡ l.initial.all ++ flat_map (ranked_declared (place_named l.places)) l.initial.left;
      some : All HasString l.left;
      few : length l.all + length l.left < 1_000_000;
    }
