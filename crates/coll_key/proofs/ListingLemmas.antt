-- Parts of the compiled listing that are written one behind another make up its lines.
use Rattle.std.proofs.Common.{◌≡◌, ◌<◌, ℕ, suc, ◌+◌, List, [], ◌++◌, length, get_or, drop, Option, sym, ap, subst, ◌∙◌, refl, arith, append_assoc, append-nil}
use Rattle.std.specs.Io.KnownBytes.{Appends}
use Rattle.std.specs.List.{flat_map}
use Rattle.std.proofs.KnownBytes.{Appends-trans}
use Rattle.coll_devices.specs.Devices.{AppendsPrefix}
use Rattle.coll_devices.proofs.WritingLemmas.{AppendsPrefix-before, AppendsPrefix-after}
use Rattle.coll_syntax.specs.declared.identifiers.Id.{Id}
use Rattle.coll_syntax.specs.declared.weights.Weight.{Weight}
use Rattle.coll_nodes.specs.Table.{Collation}
use Rattle.coll_texts.proofs.PrintedParts.{left_begins}
use Rattle.coll_key.specs.CompiledListing.{compiled_listing, listing_head, listed_rule}
use Rattle.coll_key.specs.ListingParts.{entries_part, is_star, level_bytes, levels_bytes}
use Rattle.coll_ranks.specs.Ranks.{RanksValue, compiled_weight}

-- the parts of the whole listing
pub listing_parts : (table : Collation) → compiled_listing table ≡ listing_head table ++ (flat_map listed_rule table.rules ++ entries_part table)
unfolding compiled_listing
listing_parts table = refl

-- What is written of a whole, and what is left of it.

-- the prefix of a whole is written, and this is left
abbrev pub IsLeft : (whole left : List ℕ) → (before now : Option (List ℕ)) → Type 0
IsLeft whole left before now = (done : List ℕ) × (whole ≡ done ++ left) × Appends before now done

-- one more part is written
pub left_more : (whole left part later : List ℕ) (a b c : Option (List ℕ)) → left ≡ part ++ later → IsLeft whole left a b → Appends b c part → IsLeft whole later a c
left_more whole left part later a b c first h more = (
  h.0 ++ part,
  h.1 ∙ (ap (λ l. h.0 ++ l) first ∙ sym (append_assoc h.0 part later)),
  Appends-trans a b c h.0 part h.2 more,
)

-- the next part stops
pub left_prefix : (whole left part later : List ℕ) (a b c : Option (List ℕ)) → left ≡ part ++ later → IsLeft whole left a b → AppendsPrefix b c part → AppendsPrefix a c whole
left_prefix whole left part later a b c first h prefix =
    subst (AppendsPrefix a c) (sym (h.1 ∙ ap (λ l. h.0 ++ l) first))
    (AppendsPrefix-after a b c h.0 (part ++ later) h.2 (AppendsPrefix-before b c part later prefix))

-- nothing is left
pub left_none : (whole left : List ℕ) (a b : Option (List ℕ)) → left ≡ [] → IsLeft whole left a b → Appends a b whole
left_none whole left a b none h = subst (Appends a b) (sym (h.1 ∙ (ap (λ l. h.0 ++ l) none ∙ append-nil h.0))) h.2

-- the levels from one on are that level, and those behind it
pub levels_next : (ranks : RanksValue) (rank : ℕ) (id : Id) (weights : List Weight) (level : ℕ) (weight : Weight) → level < length weights → weight ≡ get_or weights level weight
    → levels_bytes ranks rank id level (drop level weights) ≡ level_bytes (is_star id weight) (compiled_weight ranks.compiled rank level)
    ++ levels_bytes ranks rank id (level + 1) (drop (level + 1) weights)
levels_next ranks rank id weights level weight within is =
    ap (levels_bytes ranks rank id level) (left_begins weights level weight within is)
    ∙ ap (λ n. level_bytes (is_star id weight) (compiled_weight ranks.compiled rank level) ++ levels_bytes ranks rank id n (drop (level + 1) weights))
    (let next : suc level ≡ level + 1 = omega arith in next)
