-- The lines that tell why two texts compare as they do (the project's own).
use Rattle.std.specs.Prelude.{ℕ, suc, List, [], ◌∷◌, ◌++◌, Option, Some, None, codes, decimal, encode_utf8_all}
use Rattle.std.specs.List.{flat_map}
use Rattle.std.specs.declared.cmp.Ordering.{Ordering}
use Rattle.coll_devices.specs.PhysicalLines.{line_feed}
use Rattle.coll_lex.specs.Characters.{space}
use Rattle.coll_syntax.specs.declared.identifiers.Id.{Id}
use Rattle.coll_syntax.specs.declared.rules.Rule.{Rule}
use Rattle.coll_nodes.specs.Table.{Collation}
use Rattle.coll_texts.specs.CanonicalText.{spelled_rule}
use Rattle.coll_texts.specs.PrintedParts.{id_bytes}
use Rattle.coll_elements.specs.Elements.{elements_of}
use Rattle.coll_key.specs.TextOrder.{order_of}
use Rattle.coll_bench.specs.Replies.{order_word}
use Rattle.coll_explanations.specs.Sources.{sources_at}
use Rattle.coll_explanations.specs.ToldLists.{Apart, first_apart, told_list}

-- an element, with a space before it
abbrev pub element_word : Id → List ℕ
element_word element = space ∷ id_bytes element

-- the line of a text's elements, behind the letter of the text
abbrev pub elements_line : (letter : List ℕ) → (elements : List Id) → List ℕ
elements_line letter elements = letter ++ (flat_map element_word elements ++ line_feed ∷ [])

-- where the lists of two texts with these elements differ first, at a level with this rule
abbrev pub apart_at : Collation → (level : ℕ) → Rule → (elements others : List Id) → Option Apart
apart_at table level rule elements others =
    first_apart 1 (told_list rule (sources_at table level) elements) (told_list rule (sources_at table level) others)

-- what a level's line says behind its rule: that the lists are equal, or where they differ first, and what stands there in either
abbrev pub difference_words : Option Apart → List ℕ
difference_words None = codes "equal\n"
difference_words (Some apart) =
    codes "differs at " ++ (decimal apart.place ++ (codes ": " ++ (apart.words ++ (codes ", " ++ (apart.other_words ++ line_feed ∷ [])))))

-- the line of a level, by its number from 1 and its rule
abbrev pub level_line : (number : ℕ) → Rule → Option Apart → List ℕ
level_line number rule apart =
    codes "level " ++ (decimal number ++ (codes " " ++ (encode_utf8_all (spelled_rule rule []) ++ (codes " " ++ difference_words apart))))

-- the lines behind that of a level: none where it decides
abbrev pub unless_apart : Option Apart → (later : List ℕ) → List ℕ
unless_apart None later = later
unless_apart (Some apart) later = []

-- the lines of levels with these rules, from a level on, up to the first whose lists differ
abbrev pub level_lines : Collation → (level : ℕ) → List Rule → (elements others : List Id) → List ℕ
level_lines table level [] elements others = []
level_lines table level (rule ∷ rules) elements others =
    level_line (suc level) rule (apart_at table level rule elements others)
    ++ unless_apart (apart_at table level rule elements others) (level_lines table (suc level) rules elements others)

-- the lines that explain texts with these elements and in this order: the elements of each, the levels up to the one that decides, and
-- last the order
abbrev pub explanation_of : Collation → (elements others : List Id) → Ordering → List ℕ
explanation_of table elements others order =
    elements_line (codes "A") elements
    ++ (elements_line (codes "B") others ++ (level_lines table 0 table.rules elements others ++ (order_word order ++ line_feed ∷ [])))

-- the explanation of two texts
unfoldable pub explanation : Collation → (text other : List ℕ) → List ℕ
explanation table text other = explanation_of table (elements_of table text) (elements_of table other) (order_of table text other)
