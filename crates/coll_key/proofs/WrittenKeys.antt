-- The parts of a written key.
use Rattle.std.proofs.Common.{◌≡◌, ℕ, ◌+◌, ◌<◌, ◌&&◌, not, Bool, true, false, List, [], ◌∷◌, ◌++◌, length, get_or, drop, codes, refl, sym, ap, ◌∙◌, append_assoc, append-nil}
use Rattle.std.specs.List.{flat_map}
use Rattle.std.proofs.lemmas.Grind.{flat_map-append}
use Rattle.std.proofs.lemmas.List.{at_drop_more}
use Rattle.coll_lex.specs.Characters.{space}
use Rattle.coll_syntax.specs.declared.rules.Rule.{Rule}
use Rattle.coll_key.specs.WrittenKey.{behind_space, before_space, joined_by_spaces, level_end, level_words, word_of, words_of, key_words, first_level, later_levels, written_key}

-- words with a space behind each, and a last word
ended_by : (words : List (List ℕ)) (last : List ℕ) → joined_by_spaces (words ++ last ∷ []) ≡ flat_map before_space words ++ last
ended_by [] last = append-nil last
ended_by (word ∷ words) last = ap (λ bytes. word ++ bytes) (behind words) ∙ sym (append_assoc word (space ∷ []) (flat_map before_space words ++ last))
    ∙ sym (append_assoc (before_space word) (flat_map before_space words) last)
  where
    behind : (words : List (List ℕ)) → flat_map behind_space (words ++ last ∷ []) ≡ (space ∷ []) ++ (flat_map before_space words ++ last)
    behind [] = ap (λ bytes. space ∷ bytes) (append-nil last)
    behind (word ∷ words) =
        ap (λ bytes. space ∷ (word ++ bytes)) (behind words)
        ∙ ap (λ bytes. space ∷ bytes) (sym (append_assoc word (space ∷ []) (flat_map before_space words ++ last)) ∙ sym (append_assoc (before_space word) (flat_map before_space words) last))

-- the words of a level are those of its numbers, and its end
level_by_words : (position : Bool) (list : List ℕ) → level_words position list ≡ words_of position position list ++ level_end ∷ []
level_by_words false [] = refl
level_by_words false (n ∷ list) = ap (λ words. word_of false n ∷ words) (level_by_words false list)
level_by_words true [] = refl
level_by_words true (p ∷ []) = refl
level_by_words true (p ∷ n ∷ list) = ap (λ words. word_of true p ∷ word_of false n ∷ words) (level_by_words true list)

-- a level is its numbers, with a space behind each, and its end
pub level_parts : (position : Bool) (list : List ℕ) → joined_by_spaces (level_words position list) ≡ flat_map before_space (words_of position position list) ++ codes "|"
level_parts position list = ap joined_by_spaces (level_by_words position list) ∙ ended_by (words_of position position list) level_end

-- words behind others
joined-append : (word : List ℕ) (words later : List (List ℕ)) → joined_by_spaces ((word ∷ words) ++ later) ≡ joined_by_spaces (word ∷ words) ++ flat_map behind_space later
joined-append word words later = ap (λ bytes. word ++ bytes) (flat_map-append behind_space words later) ∙ sym (append_assoc word (flat_map behind_space words) (flat_map behind_space later))

-- a level has a word
level_word : (position : Bool) (list : List ℕ) → (word : List ℕ) × (words : List (List ℕ)) × (level_words position list ≡ word ∷ words)
level_word false [] = (level_end, [], refl)
level_word false (n ∷ list) = (word_of false n, level_words false list, refl)
level_word true [] = (level_end, [], refl)
level_word true (p ∷ []) = (word_of true p, level_end ∷ [], refl)
level_word true (p ∷ n ∷ list) = (word_of true p, word_of false n ∷ level_words true list, refl)

-- words behind a level
level_joined : (position : Bool) (list : List ℕ) (later : List (List ℕ)) → joined_by_spaces (level_words position list ++ later)
    ≡ joined_by_spaces (level_words position list) ++ flat_map behind_space later
level_joined position list later =
    let some = level_word position list in
    ap (λ words. joined_by_spaces (words ++ later)) some.2
    ∙ joined-append some.0 some.1 later
    ∙ ap (λ words. joined_by_spaces words ++ flat_map behind_space later) (sym some.2)

-- a level with a space before it
level_behind : (position : Bool) (list : List ℕ) → flat_map behind_space (level_words position list) ≡ space ∷ joined_by_spaces (level_words position list)
level_behind position list =
    let some = level_word position list in
    ap (flat_map behind_space) some.2 ∙ ap (λ words. space ∷ joined_by_spaces words) (sym some.2)

-- a key is its first level, and the later ones
pub key_parts : (rules later : List Rule) (first : Rule) (key level left : List ℕ) → rules ≡ first ∷ later → level ≡ first_level key → left ≡ later_levels key
    → written_key rules key ≡ joined_by_spaces (level_words first.position level) ++ flat_map behind_space (key_words later left)
unfolding written_key
key_parts rules later first key level left is at_level at_left =
    ap (λ rs. joined_by_spaces (key_words rs key)) is
    ∙ level_joined first.position (first_level key) (key_words later (later_levels key))
    ∙ ap (λ l. joined_by_spaces (level_words first.position l) ++ flat_map behind_space (key_words later (later_levels key))) (sym at_level)
    ∙ ap (λ l. joined_by_spaces (level_words first.position level) ++ flat_map behind_space (key_words later l)) (sym at_left)

-- the levels that are left begin with one
pub levels_left : (rules : List Rule) (i : ℕ) (none : Rule) → i < length rules → (key level later : List ℕ) → level ≡ first_level key → later ≡ later_levels key
    → flat_map behind_space (key_words (drop i rules) key) ≡ (space ∷ joined_by_spaces (level_words (get_or rules i none).position level))
    ++ flat_map behind_space (key_words (drop (i + 1) rules) later)
levels_left rules i none within key level later at_level at_later =
    let position = (get_or rules i none).position in
    let others = key_words (drop (i + 1) rules) in
    at_drop_more (λ rs. flat_map behind_space (key_words rs key)) rules i none within
    ∙ flat_map-append behind_space (level_words position (first_level key)) (others (later_levels key))
    ∙ ap (λ bytes. bytes ++ flat_map behind_space (others (later_levels key))) (level_behind position (first_level key))
    ∙ ap (λ l. (space ∷ joined_by_spaces (level_words position l)) ++ flat_map behind_space (others (later_levels key))) (sym at_level)
    ∙ ap (λ l. (space ∷ joined_by_spaces (level_words position level)) ++ flat_map behind_space (others l)) (sym at_later)

-- the numbers that are left begin with one
pub numbers_left : (position at_position : Bool) (numbers : List ℕ) (i : ℕ) → i < length numbers → flat_map before_space (words_of position at_position (drop i numbers))
    ≡ before_space (word_of at_position (get_or numbers i 0)) ++ flat_map before_space (words_of position (position && not at_position) (drop (i + 1) numbers))
numbers_left position at_position numbers i within = at_drop_more (λ list. flat_map before_space (words_of position at_position list)) numbers i 0 within
