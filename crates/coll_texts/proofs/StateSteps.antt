-- What lines say together grows by one line, as each part of a builder does.
use Rattle.std.proofs.Common.{◌≡◌, ℕ, false, List, [], ◌∷◌, ◌++◌, Option, Some, None, sym, ap, ◌∙◌, refl, append_assoc, append-nil}
use Rattle.std.specs.Option.{option_or}
use Rattle.std.proofs.lemmas.Grind.{flat_map-append, fold-append}
use Rattle.coll_syntax.specs.declared.rules.Rule.{Rule}
use Rattle.coll_syntax.specs.declared.lines.TableLine.{TableLine}
use Rattle.coll_syntax.specs.declared.lines.TableLine.TheVariants as line
use Rattle.coll_nodes.specs.declared.entries.Entry.{Entry}
use Rattle.coll_nodes.specs.Table.{Section}
use Rattle.coll_nodes.specs.Entries.{entry_of}
use Rattle.coll_texts.specs.BuilderStates.{Numbered, BuilderState, declared_in_line, declared_in, open_after, is_open, rules_given, rules_by, rules_in, levels_of}
use Rattle.coll_texts.specs.BuilderStates.{begun_by, placed_by, Cut, cut_at, cut, sections_of, placing_number, numbers_in, state_of, own_order, is_end}
use Rattle.coll_texts.specs.Loading.{with_last, rules_after, with_section, with_section_if, state_with, state_after}

-- The rules: those of the first line that gives any.

or_again : {X : Type 0} (a b c : Option X) → option_or a (option_or b c) ≡ option_or (option_or a b) c
or_again (Some x) b c = refl
or_again None b c = refl

or_none : {X : Type 0} (a : Option X) → option_or a None ≡ a
or_none (Some x) = refl
or_none None = refl

rules_more : (before : List Numbered) (n : Numbered) → rules_in (before ++ n ∷ []) ≡ option_or (rules_in before) (rules_by n.line)
rules_more [] n = or_none (rules_by n.line)
rules_more (m ∷ before) n = ap (option_or (rules_by m.line)) (rules_more before n) ∙ or_again (rules_by m.line) (rules_in before) (rules_by n.line)

-- The sections: cut from the front, they grow at the end.

-- sections with more entries, behind all others
with_entries : List Section → List Entry → List Section
with_entries [] entries = []
with_entries (last ∷ []) entries = record last { entries = last.entries ++ entries } ∷ []
with_entries (first ∷ second ∷ later) entries = first ∷ with_entries (second ∷ later) entries

-- one more is the last
one_more : (sections : List Section) (entry : Entry) → with_entries sections (entry ∷ []) ≡ with_last sections entry
unfolding with_entries
one_more [] entry = refl
one_more (last ∷ []) entry = refl
one_more (first ∷ second ∷ later) entry = ap (λ sections. first ∷ sections) (one_more (second ∷ later) entry)

-- none more leave them as they are
none_more : (sections : List Section) → with_entries sections [] ≡ sections
unfolding with_entries
none_more [] = refl
none_more (last ∷ []) = ap (λ entries. record last { entries = entries } ∷ []) (append-nil last.entries)
none_more (first ∷ second ∷ later) = ap (λ sections. first ∷ sections) (none_more (second ∷ later))

-- the end of a cut with more entries
entries_behind : List Entry → List Section → List Entry → Cut
entries_behind entries [] placed = record { entries = entries ++ placed; later = [] }
entries_behind entries (first ∷ later) placed = record { entries = entries; later = with_entries (first ∷ later) placed }

-- a cut with what one more line begins, or else places
cut_with : Cut → Option (List ℕ) → List Entry → Cut
cut_with c (Some name) placed = record { entries = c.entries; later = with_section c.later name }
cut_with c None placed = entries_behind c.entries c.later placed

-- what stands in front doesn't change what the last line adds
prefix_behind : (placed : List Entry) (entries : List Entry) (later : List Section) (last : List Entry) → cut_at None placed (entries_behind entries later last)
    ≡ entries_behind (placed ++ entries) later last
unfolding entries_behind
prefix_behind placed entries [] last = ap (λ joined. record { entries = joined; later = [] }) (sym (append_assoc placed entries last))
prefix_behind placed entries (first ∷ later) last = refl

begun_behind : (name : List ℕ) (entries : List Entry) (later : List Section) (last : List Entry) → cut_at (Some name) [] (entries_behind entries later last)
    ≡ entries_behind [] (record { name = Some name; entries = entries } ∷ later) last
unfolding entries_behind with_entries
begun_behind name entries [] last = refl
begun_behind name entries (first ∷ later) last = refl

prefix_cut : (begun : Option (List ℕ)) (placed : List Entry) (c : Cut) (begins : Option (List ℕ)) (last : List Entry) → cut_at begun placed (cut_with c begins last)
    ≡ cut_with (cut_at begun placed c) begins last
unfolding cut_with
prefix_cut (Some name) placed c (Some next) last = refl
prefix_cut None placed c (Some next) last = refl
prefix_cut (Some name) placed c None last = begun_behind name c.entries c.later last
prefix_cut None placed c None last = prefix_behind placed c.entries c.later last

-- a line alone, cut
alone_cut : (begun : Option (List ℕ)) (placed : List Entry) → cut_at begun placed (record { entries = []; later = [] }) ≡ cut_with (record { entries = []; later = [] }) begun placed
unfolding cut_with entries_behind
alone_cut (Some name) placed = refl
alone_cut None placed = ap (λ joined. record { entries = joined; later = [] }) (append-nil placed)

-- lines and one more, cut
cut_more : (before lines : List Numbered) (n : Numbered) → cut before (lines ++ n ∷ []) ≡ cut_with (cut before lines) (begun_by n.line) (placed_by (before ++ lines) n.line)
cut_more before (m ∷ lines) n =
    ap (cut_at (begun_by m.line) (placed_by before m.line))
    (cut_more (before ++ m ∷ []) lines n ∙ ap (λ all. cut_with (cut (before ++ m ∷ []) lines) (begun_by n.line) (placed_by all n.line)) (append_assoc before (m ∷ []) lines))
    ∙ prefix_cut (begun_by m.line) (placed_by before m.line) (cut (before ++ m ∷ []) lines) (begun_by n.line) (placed_by (before ++ m ∷ lines) n.line)
cut_more before [] n =
    ap (λ all. cut_at (begun_by n.line) (placed_by all n.line) (record { entries = []; later = [] })) (sym (append-nil before))
    ∙ alone_cut (begun_by n.line) (placed_by (before ++ []) n.line)

-- a line that begins no section places its entry, if it has one, behind all others
placed_behind : (entries : List Entry) (later : List Section) (placed : List Entry) → sections_of (entries_behind entries later placed)
    ≡ with_entries (sections_of (record { entries = entries; later = later })) placed
unfolding entries_behind with_entries
placed_behind entries [] placed = refl
placed_behind entries (first ∷ later) placed = refl

sections_placed : (c : Cut) (placed : List Entry) → sections_of (cut_with c None placed) ≡ with_entries (sections_of c) placed
unfolding cut_with
sections_placed c placed = placed_behind c.entries c.later placed

sections_kept : (c : Cut) → sections_of (cut_with c None []) ≡ sections_of c
sections_kept c = sections_placed c [] ∙ none_more (sections_of c)

sections_with_entry : (c : Cut) (entry : Entry) → sections_of (cut_with c None (entry ∷ [])) ≡ with_last (sections_of c) entry
sections_with_entry c entry = sections_placed c (entry ∷ []) ∙ one_more (sections_of c) entry

-- a line that begins one adds it
sections_begun : (c : Cut) (begun : Option (List ℕ)) → sections_of (cut_with c begun []) ≡ with_section_if (sections_of c) begun
unfolding cut_with
sections_begun c (Some name) = refl
sections_begun c None = sections_kept c

-- What lines say together, and one more.

-- an `order_start` gives the rules where no line before it does
rules_opened : (before given : Option (List Rule)) → option_or before (Some (rules_given given)) ≡ rules_after before given
rules_opened (Some rules) given = refl
rules_opened None given = refl

-- what lines and one more say, part by part, where that isn't the end of the category
said_with : List Numbered → ℕ → TableLine → BuilderState
said_with before number l = record {
  order_open = open_after (is_open before) l;
  rules = option_or (rules_in before) (rules_by l);
  declared = declared_in before ++ declared_in_line (declared_in before) l;
  sections = sections_of (cut_with (cut [] before) (begun_by l) (placed_by before l));
  numbers = numbers_in before ++ placing_number number l;
}

more_said : (before : List Numbered) (number : ℕ) (l : TableLine) → is_end l ≡ false → said_with before number l ≡ state_with (state_of before) number l
unfolding said_with state_of state_with
more_said before number (line.Symbol name) e = rw (or_none (rules_in before), sections_kept (cut [] before), append-nil (numbers_in before)) refl
more_said before number (line.Element name text) e = rw (or_none (rules_in before), sections_kept (cut [] before), append-nil (numbers_in before)) refl
more_said before number (line.Equivalence name symbol) e = rw (or_none (rules_in before), sections_kept (cut [] before), append-nil (numbers_in before)) refl
more_said before number (line.OrderStart section rules) e =
    rw (append-nil (declared_in before), sections_begun (cut [] before) section, append-nil (numbers_in before), rules_opened (rules_in before) rules) refl
more_said before number line.OrderEnd e = rw (or_none (rules_in before), append-nil (declared_in before), sections_kept (cut [] before), append-nil (numbers_in before)) refl
more_said before number (line.Section name) e = rw (or_none (rules_in before), append-nil (declared_in before), sections_begun (cut [] before) (Some name), append-nil (numbers_in before)) refl
more_said before number line.Script e = rw (or_none (rules_in before), append-nil (declared_in before), sections_kept (cut [] before), append-nil (numbers_in before)) refl
more_said before number line.EndCategory e = cc
more_said before number (line.Order order) e = rw (
  or_none (rules_in before),
  append-nil (declared_in before),
  sections_with_entry (cut [] before) (entry_of (levels_of (rules_in before)) (declared_in before) (own_order (declared_in before) order)),
) refl

-- what lines say together with one more is what they say, with what that line adds; behind the end of the category there is none
pub state_more : (before : List Numbered) (n : Numbered) → is_end n.line ≡ false → state_of (before ++ n ∷ []) ≡ state_after (state_of before) n
unfolding said_with state_of
state_more before n e =
    rw (
      fold-append (λ was (m : Numbered). open_after was m.line) false before (n ∷ []),
      rules_more before n,
      fold-append (λ declared (m : Numbered). declared ++ declared_in_line declared m.line) [] before
          (n ∷ []),
      cut_more [] before n,
      flat_map-append (λ (m : Numbered). placing_number m.number m.line) before (n ∷ []),
      append-nil (placing_number n.number n.line),
    )
    (more_said before n.number n.line e)
