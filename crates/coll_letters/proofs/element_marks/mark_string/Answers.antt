-- The first two characters are marked, with how many the string has.
use Rattle.std.proofs.Common.{◌∙◌, ◌≤◌, ℕ, ap, length, rules, subst}
use Rattle.std.specs.Prelude.{slice_index_or}
use Rattle.std.specs.Str.Iter.{chars_rest}
use Rattle.std.proofs.lemmas.Str.{chars_from_encodes}
use Rattle.coll_letters.proofs.MarkLemmas.{both_marked}
use Rattle.coll_letters.proofs.element_marks.mark_string.Goals as goal

pub returns-clause-told : goal.returns-clause-told
returns-clause-told c =
    let run = c.count-count.ensures.runs in
    let bytes = (c.chars.ensures.runs run.0 run.0.seen).1 run.2 ∙ ap chars_rest run.1 ∙ c.chars.ensures.rest in
    let counted = run.3 ∙ run.0.long ∙ ap length (chars_from_encodes run.0.items c.args.text.now c.utf8.text bytes) in
    both_marked (record { firsts = c.raise-2.new.marks; pairs = c.raise_pair.new.pairs; count = c.args.marks.now.count }) c.in-Some.first c.in-Some-split_first_char.second c.count-count.result _ _ _ c.in-Some.ensures c.in-Some-split_first_char.ensures counted (search rules)
    (subst (λ (place : ℕ). c.count-count.result ≤ slice_index_or c.raise_pair.new.pairs.items place 0) c.pair_place.ensures.place c.in_ok-raise_pair.ensures.least)
