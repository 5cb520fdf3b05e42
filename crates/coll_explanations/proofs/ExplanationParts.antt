-- The parts of an explanation, one behind another.
use Rattle.std.proofs.Common.{◌≡◌, ℕ, suc, ◌+◌, ◌<◌, List, [], ◌++◌, length, get_or, drop, codes, Option, Some, None, false, inr, refl, sym, ap, ap₂, subst, ◌∙◌, append_assoc, arith}
use Rattle.std.specs.Prelude.{decimal, encode_utf8_all, option_map, is_some, Result, Ok, Err, IfErr}
use Rattle.std.specs.declared.cmp.Ordering.{Ordering}
use Rattle.std.proofs.lemmas.Bool.{false≢true}
use Rattle.std.specs.Io.KnownBytes.{Appends}
use Rattle.std.proofs.KnownBytes.{Appends-trans}
use Rattle.std.proofs.lemmas.List.{at_drop_more}
use Rattle.coll_devices.specs.Devices.{AppendsPrefix, Sends}
use Rattle.coll_devices.proofs.WritingLemmas.{AppendsPrefix-after, AppendsPrefix-before}
use Rattle.coll_syntax.specs.declared.identifiers.Id.{Id}
use Rattle.coll_syntax.specs.declared.rules.Rule.{Rule}
use Rattle.coll_nodes.specs.Table.{Collation}
use Rattle.coll_texts.specs.CanonicalText.{spelled_rule}
use Rattle.coll_elements.specs.Elements.{elements_of}
use Rattle.coll_key.specs.TextOrder.{order_of}
use Rattle.coll_bench.specs.Serving.{write_failed}
use Rattle.coll_faults.specs.declared.faults.RunFault.{RunFault}
use Rattle.coll_explanations.specs.Explaining.{WritesWhole}
use Rattle.coll_explanations.specs.Explanations.{apart_at, difference_words, level_line, level_lines, unless_apart, explanation, explanation_of}
use Rattle.coll_explanations.specs.ToldLists.{Apart}
use Rattle.coll_explanations.specs.ToldSteps.{apart_of}
use Rattle.coll_explanations.specs.declared.differences.Difference.{Difference}

-- the line of a level, as far as its rule
abbrev pub level_start : (number : ℕ) → Rule → List ℕ
level_start number rule = codes "level " ++ (decimal number ++ (codes " " ++ (encode_utf8_all (spelled_rule rule []) ++ codes " ")))

pub level_parts : (number : ℕ) (rule : Rule) (apart : Option Apart) → level_line number rule apart ≡ level_start number rule ++ difference_words apart
level_parts number rule apart =
    let spelled = encode_utf8_all (spelled_rule rule []) in
    ap (λ l. codes "level " ++ (decimal number ++ (codes " " ++ l))) (sym (append_assoc spelled (codes " ") (difference_words apart)))
    ∙ ap (λ l. codes "level " ++ l) (sym (append_assoc (decimal number) (codes " " ++ (spelled ++ codes " ")) (difference_words apart)))

-- where two lists differ, as far as what stands there
abbrev pub place_start : (place : ℕ) → List ℕ
place_start place = codes "differs at " ++ (decimal place ++ codes ": ")

pub place_parts : (apart : Apart) → difference_words (Some apart) ≡ place_start apart.place ++ ((apart.words ++ codes ", ") ++ (apart.other_words ++ codes "\n"))
place_parts apart =
    ap (λ l. codes "differs at " ++ (decimal apart.place ++ (codes ": " ++ l))) (sym (append_assoc apart.words (codes ", ") (apart.other_words ++ codes "\n")))
    ∙ ap (λ l. codes "differs at " ++ l) (sym (append_assoc (decimal apart.place) (codes ": ") ((apart.words ++ codes ", ") ++ (apart.other_words ++ codes "\n"))))

-- Level by level.

module _ (table : Collation) (elements others : List Id) where
  -- the lines of levels from one on
  abbrev lines_from : ℕ → List Rule → List ℕ
  lines_from level rules = level_lines table level rules elements others

  -- the lines before a level are written, and those from it on are left
  abbrev pub HasLevels : (rules left : List Rule) → (level : ℕ) → (before now : Option (List ℕ)) → Type 0
  HasLevels rules left level before now =
      (done : List ℕ) × (level_lines table 0 rules elements others ≡ done ++ level_lines table level left elements others) × Appends before now done

  module _ (rules : List Rule) (level : ℕ) (none : Rule) (apart : Option Apart) (within : level < length rules)
      (found : apart ≡ apart_at table level (get_or rules level none) elements others) (a b c : Option (List ℕ)) (so_far : HasLevels rules (drop level rules) level a b) where
    -- the line of this level, and those of the levels behind it
    abbrev pub line : List ℕ
    line = level_line (level + 1) (get_or rules level none) apart

    abbrev later : List ℕ
    later = level_lines table (level + 1) (drop (level + 1) rules) elements others

    -- what is left begins with the line of the level
    left : level_lines table level (drop level rules) elements others ≡ line ++ unless_apart apart later
    left =
        let next : suc level ≡ level + 1 = omega arith in
        at_drop_more (lines_from level) rules level none within
        ∙ ap₂ (λ (p : Option Apart) (n : ℕ). level_line n (get_or rules level none) p ++ unless_apart p (level_lines table n (drop (level + 1) rules) elements others)) (sym found) next

    whole : level_lines table 0 rules elements others ≡ so_far.0 ++ (line ++ unless_apart apart later)
    whole = so_far.1 ∙ ap (λ l. so_far.0 ++ l) left

    -- its line stops
    pub level_stops : AppendsPrefix b c line → AppendsPrefix a c (level_lines table 0 rules elements others)
    level_stops prefix =
        subst (AppendsPrefix a c) (sym whole)
        (AppendsPrefix-after a b c so_far.0 (line ++ unless_apart apart later) so_far.2 (AppendsPrefix-before b c line (unless_apart apart later) prefix))

    -- it is equal, and the next follows
    pub level_passes : Appends b c line → apart ≡ None → HasLevels rules (drop (level + 1) rules) (level + 1) a c
    level_passes written equal = (
      so_far.0 ++ line,
      whole ∙ ap (λ p. so_far.0 ++ (line ++ unless_apart p later)) equal ∙ sym (append_assoc so_far.0 line later),
      Appends-trans a b c so_far.0 line so_far.2 written,
    )

-- no difference was found
pub none_apart : (difference : Option Difference) → false ≡ is_some difference → option_map apart_of difference ≡ None
none_apart None none = refl
none_apart (Some difference) none = absurd (false≢true none)

-- The whole.

-- what was sent is the whole, or a write failed
pub whole_sent : (bytes : List ℕ) (taken taken_after : Option (List ℕ)) (r : Result (Unit {0}) RunFault) → Sends taken taken_after bytes r → IfErr r (λ ended. ended ≡ write_failed)
    → WritesWhole bytes taken taken_after r
whole_sent bytes taken taken_after (Ok done) sent fault = sent
whole_sent bytes taken taken_after (Err ended) sent fault = inr (fault, sent)

-- the elements and the order of two texts make up their explanation
pub explained : (table : Collation) (text other : List ℕ) (elements others : List Id) (order : Ordering) → elements ≡ elements_of table text → others ≡ elements_of table other
    → order ≡ order_of table text other → explanation_of table elements others order ≡ explanation table text other
unfolding explanation
explained table text other elements others order is others_are ordered =
    ap (λ (es : List Id). explanation_of table es others order) is
    ∙ ap (λ (es : List Id). explanation_of table (elements_of table text) es order) others_are
    ∙ ap (explanation_of table (elements_of table text) (elements_of table other)) ordered
