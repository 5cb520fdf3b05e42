-- Parts of a text that are written one behind another make up the text.
use Rattle.std.proofs.Common.{◌≡◌, ℕ, ◌+◌, ◌<◌, Bool, true, false, List, [], ◌∷◌, ◌++◌, length, get_or, drop, map, codes, Option, Some, None, Result, IsErr, sym, ap, subst, ◌∙◌, refl, arith}
use Rattle.std.proofs.Common.{append_assoc, append-nil}
use Rattle.std.specs.Prelude.{encode_utf8_all}
use Rattle.std.specs.Io.KnownBytes.{Appends}
use Rattle.std.specs.List.{flat_map, list_all}
use Rattle.std.proofs.KnownBytes.{Appends-trans}
use lib.Utf8.{encode}
use Rattle.std.proofs.lemmas.Grind.{flat_map-append}
use Rattle.std.proofs.lemmas.Str.{encodes-append}
use Rattle.std.specs.Iterator.{Yields}
use Rattle.std.proofs.lemmas.Iterator.{YieldsList}
use Rattle.std.proofs.lemmas.Iterator.Consumers.{YieldsList-turn, YieldsList-end}
use Rattle.std.proofs.lemmas.List.{drop_all, drop_more, length_push}
use Rattle.coll_devices.specs.Devices.{AppendsPrefix, Sends}
use Rattle.coll_devices.specs.PhysicalLines.{line_feed}
use Rattle.coll_lex.specs.Characters.{space}
use Rattle.coll_lex.specs.Spelling.{spelled_symbol, spelled_code}
use Rattle.coll_lex.proofs.SpellingLemmas.{spelled_symbol-append, spelled_code-append}
use Rattle.coll_devices.proofs.WritingLemmas.{AppendsPrefix-before, AppendsPrefix-after, Sends-stopped, Sends-after}
use Rattle.coll_syntax.specs.declared.identifiers.Id.{Id}
use Rattle.coll_syntax.specs.declared.identifiers.Id.TheVariants.{Char, Named, Undefined}
use Rattle.coll_syntax.specs.declared.weights.Weight.{Weight}
use Rattle.coll_syntax.specs.declared.weights.Weight.TheVariants.{Ignore, Own, Names}
use Rattle.coll_syntax.specs.declared.rules.Rule.{Rule}
use Rattle.coll_syntax.specs.declared.statements.OrderLine.{OrderLine}
use Rattle.coll_nodes.specs.declared.declarations.Declaration.TheVariants as declaration
use Rattle.coll_nodes.specs.Table.{Collation}
use Rattle.coll_nodes.specs.Walks.{VisitedSection, visited}
use Rattle.coll_syntax.specs.Weights.{is_own}
use Rattle.coll_texts.specs.CanonicalText.{spelled_all, spelled_behind, spelled_joined, spelled_id, spelled_string, spelled_own, spelled_names, spelled_weight, weights_behind}
use Rattle.coll_texts.specs.CanonicalText.{direction_word, spelled_position, spelled_rule, declaration_line, rules_line, visited_line, closing_lines, canonical_lines, line_bytes, text}
use Rattle.coll_texts.specs.PrintedParts.{id_bytes, behind_bytes, char_bytes, symbol_bytes, text_bytes, element_bytes}
use Rattle.coll_texts.specs.PrintedParts.{names_bytes, declaration_bytes, visited_bytes, table_bytes}
use Rattle.coll_texts.specs.StatementText.{spelled_given, given_behind, order_line, target_line, section_after_line, block_lines, order_bytes}

-- What is written.

-- a call that writes the same bytes, otherwise said
pub sends_same : {T E : Type 0} (a b : Option (List ℕ)) (whole bytes : List ℕ) (r : Result T E) → whole ≡ bytes → Sends a b bytes r → Sends a b whole r
sends_same a b whole bytes r same sent = subst (λ bytes. Sends a b bytes r) (sym same) sent

-- a call that stops in the first part of a whole
pub stops_first : {T E : Type 0} (a b : Option (List ℕ)) (whole first rest : List ℕ) (r : Result T E) → whole ≡ first ++ rest → IsErr r → AppendsPrefix a b first → Sends a b whole r
stops_first a b whole first rest r same stopped part = Sends-stopped a b whole r stopped (subst (AppendsPrefix a b) (sym same) (AppendsPrefix-before a b first rest part))

-- a last call that writes the rest of a whole
pub writes_rest : {T E : Type 0} (a b c : Option (List ℕ)) (whole first rest : List ℕ) (r : Result T E) → whole ≡ first ++ rest → Appends a b first → Sends b c rest r → Sends a c whole r
writes_rest a b c whole first rest r same done last = subst (λ bytes. Sends a c bytes r) (sym same) (Sends-after a b c first rest r done last)

-- what is left of a list begins with the member at this place
pub left_begins : {X : Type 0} (xs : List X) (i : ℕ) (x : X) → i < length xs → x ≡ get_or xs i x → drop i xs ≡ x ∷ drop (i + 1) xs
left_begins xs i x within is = drop_more xs i x within ∙ ap (λ y. y ∷ drop (i + 1) xs) (sym is)

module _ {X : Type 0} (part : X → List ℕ) where
  -- the parts of some members are written, and those of the others are left
  abbrev pub HasWritten : (all left : List X) → (before now : Option (List ℕ)) → Type 0
  HasWritten all left before now = (done : List ℕ) × (flat_map part all ≡ done ++ flat_map part left) × Appends before now done

  -- one more is written
  pub written_more : (all left later : List X) (x : X) (a b c : Option (List ℕ)) → left ≡ x ∷ later → HasWritten all left a b → Appends b c (part x) → HasWritten all later a c
  written_more all left later x a b c first h more = (
    h.0 ++ part x,
    h.1 ∙ ap (λ xs. h.0 ++ flat_map part xs) first ∙ sym (append_assoc h.0 (part x) (flat_map part later)),
    Appends-trans a b c h.0 (part x) h.2 more,
  )

  -- the next stops
  pub written_prefix : (all left later : List X) (x : X) (a b c : Option (List ℕ)) → left ≡ x ∷ later → HasWritten all left a b → AppendsPrefix b c (part x) → AppendsPrefix a c (flat_map part all)
  written_prefix all left later x a b c first h prefix =
      subst (AppendsPrefix a c) (sym (h.1 ∙ ap (λ xs. h.0 ++ flat_map part xs) first))
      (AppendsPrefix-after a b c h.0 (part x ++ flat_map part later) h.2 (AppendsPrefix-before b c (part x) (flat_map part later) prefix))

  -- all are written
  pub written_all : (all left : List X) (a b : Option (List ℕ)) → left ≡ [] → HasWritten all left a b → Appends a b (flat_map part all)
  written_all all left a b none h = subst (Appends a b) (sym (h.1 ∙ ap (λ xs. h.0 ++ flat_map part xs) none ∙ append-nil h.0)) h.2

-- Members that are yielded one after another, each written as one part.

module _ {S X : Type 0} {steps : S → Option X → S → Type 0} {start now next : S} {all : List X} (part : X → List ℕ) (road : YieldsList steps (λ x. x) start all)
    (yielded : List X) (so_far : Yields steps start yielded now) (given : Option X) (step : steps now given next)
    (a b : Option (List ℕ)) (h : HasWritten part all (drop (length yielded) all) a b) where
  -- one more is written
  pub yielded_more : (x : X) (c : Option (List ℕ)) → given ≡ Some x → Appends b c (part x) → HasWritten part all (drop (length (yielded ++ x ∷ [])) all) a c
  yielded_more x c is more =
      let turn = YieldsList-turn road yielded now so_far given next x is step in
      rw (length_push yielded x) (written_more part all _ _ x a b c (left_begins all (length yielded) x turn.0 turn.1) h more)

  -- the next stops
  pub yielded_prefix : (x : X) (c : Option (List ℕ)) → given ≡ Some x → AppendsPrefix b c (part x) → AppendsPrefix a c (flat_map part all)
  yielded_prefix x c is stop =
      let turn = YieldsList-turn road yielded now so_far given next x is step in
      written_prefix part all _ _ x a b c (left_begins all (length yielded) x turn.0 turn.1) h stop

  -- all are written
  pub yielded_all : given ≡ None → Appends a b (flat_map part all)
  yielded_all is =
      let whole = YieldsList-end road yielded now so_far given next is step in
      written_all part all _ a b (drop_all (length yielded) all (omega (arith, whole.1))) h

-- Spellings and what follows them.

-- what follows a spelling stands behind it
abbrev pub StandsBefore : {X : Type 0} → (X → List ℕ → List ℕ) → Type 0
StandsBefore {X = X} spelled = (x : X) (rest : List ℕ) → encode_utf8_all (spelled x rest) ≡ encode_utf8_all (spelled x []) ++ encode_utf8_all rest

pub id_before : StandsBefore spelled_id
id_before (Char c) rest = ap encode_utf8_all (spelled_code-append c rest) ∙ encodes-append (spelled_code c []) rest
id_before (Named name) rest = ap encode_utf8_all (spelled_symbol-append name rest) ∙ encodes-append (spelled_symbol name []) rest
id_before Undefined rest = encodes-append (codes "UNDEFINED") rest

module _ {X : Type 0} (spelled : X → List ℕ → List ℕ) (before : StandsBefore spelled) where
  -- members one behind another
  pub all_before : (xs : List X) (rest : List ℕ) → encode_utf8_all (spelled_all spelled xs rest) ≡ flat_map (λ x. encode_utf8_all (spelled x [])) xs ++ encode_utf8_all rest
  all_before [] rest = refl
  all_before (x ∷ xs) rest =
      before x (spelled_all spelled xs rest) ∙ ap (λ l. encode_utf8_all (spelled x []) ++ l) (all_before xs rest)
      ∙ sym (append_assoc (encode_utf8_all (spelled x [])) (flat_map (λ x. encode_utf8_all (spelled x [])) xs) (encode_utf8_all rest))

  -- members with a semicolon before each
  behind_before : (xs : List X) (rest : List ℕ) → encode_utf8_all (spelled_behind spelled xs rest) ≡ flat_map (behind_bytes spelled) xs ++ encode_utf8_all rest
  behind_before [] rest = refl
  behind_before (x ∷ xs) rest =
      ap (λ l. encode 59 ++ l) (before x (spelled_behind spelled xs rest)) ∙ sym (append_assoc (encode 59) (encode_utf8_all (spelled x [])) (encode_utf8_all (spelled_behind spelled xs rest)))
      ∙ ap (λ l. behind_bytes spelled x ++ l) (behind_before xs rest)
      ∙ sym (append_assoc (behind_bytes spelled x) (flat_map (behind_bytes spelled) xs) (encode_utf8_all rest))

  -- members with a semicolon between them
  pub joined_parts : (x : X) (xs : List X) → encode_utf8_all (spelled_joined spelled (x ∷ xs) []) ≡ encode_utf8_all (spelled x []) ++ flat_map (behind_bytes spelled) xs
  joined_parts x xs = before x (spelled_behind spelled xs []) ∙ ap (λ l. encode_utf8_all (spelled x []) ++ l) (behind_before xs [] ∙ append-nil (flat_map (behind_bytes spelled) xs))

-- a string
pub string_parts : (ids : List Id) (rest : List ℕ) → encode_utf8_all (spelled_string ids rest) ≡ (34 ∷ []) ++ (flat_map id_bytes ids ++ (34 ∷ encode_utf8_all rest))
unfolding encode
string_parts ids rest = ap (λ l. 34 ∷ l) (all_before spelled_id id_before ids (34 ∷ rest))

string_before : StandsBefore spelled_string
string_before ids rest = string_parts ids rest
    ∙ sym (ap (λ l. l ++ encode_utf8_all rest) (string_parts ids []) ∙ ap (λ l. 34 ∷ l) (append_assoc (flat_map id_bytes ids) (34 ∷ []) (encode_utf8_all rest)))

-- weights
names_before : StandsBefore spelled_names
names_before [] rest = string_before [] rest
names_before (only ∷ []) rest = id_before only rest
names_before (first ∷ second ∷ later) rest = string_before (first ∷ second ∷ later) rest

own_before : StandsBefore spelled_own
own_before (Char c) rest = id_before (Char c) rest
own_before (Named name) rest = id_before (Named name) rest
own_before Undefined rest = refl

pub weight_before : (owner : Id) → StandsBefore (spelled_weight owner)
weight_before owner Ignore rest = encodes-append (codes "IGNORE") rest
weight_before owner Own rest = own_before owner rest
weight_before owner (Names ids) rest = names_before ids rest

-- the weights behind an identifier
pub other_weights : (id : Id) (ws : List Weight) → list_all is_own ws ≡ false → encode_utf8_all (weights_behind id ws) ≡ (32 ∷ []) ++ encode_utf8_all (spelled_joined (spelled_weight id) ws [])
unfolding encode
other_weights id ws own = rw own refl

-- a line that an identifier begins
pub entry_parts : (id : Id) (rest : List ℕ) → line_bytes (spelled_id id rest) ≡ id_bytes id ++ (encode_utf8_all rest ++ line_feed ∷ [])
entry_parts id rest = ap (λ l. l ++ line_feed ∷ []) (id_before id rest) ∙ append_assoc (id_bytes id) (encode_utf8_all rest) (line_feed ∷ [])

-- a semicolon and what stands behind it
pub behind_parts : {X : Type 0} (spelled : X → List ℕ → List ℕ) (x : X) → behind_bytes spelled x ≡ (59 ∷ []) ++ encode_utf8_all (spelled x [])
unfolding encode
behind_parts spelled x = refl

-- the line of a symbol
pub symbol_parts : (name : List ℕ) → declaration_bytes (declaration.Symbol name) ≡ codes "collating-symbol " ++ (symbol_bytes name ++ line_feed ∷ [])
unfolding encode
symbol_parts name = refl

-- the line that begins a section
pub section_parts : (name : List ℕ) → visited_bytes (VisitedSection name) ≡ codes "section " ++ (symbol_bytes name ++ line_feed ∷ [])
unfolding encode
section_parts name = refl

-- a statement of one line
pub one_line : (line : List ℕ) → flat_map line_bytes (line ∷ []) ≡ line_bytes line
one_line line = append-nil (line_bytes line)

-- the weights behind an identifier, where they are given
pub given_parts : (ws : List Weight) → encode_utf8_all (given_behind (Some ws)) ≡ (32 ∷ []) ++ encode_utf8_all (spelled_joined spelled_given ws [])
unfolding encode
given_parts ws = refl

-- the line that moves a section
pub section_after_parts : (moved after : List ℕ) → line_bytes (section_after_line moved after) ≡ codes "reorder-section-after " ++ names_bytes moved after
unfolding encode
section_after_parts moved after =
    ap (λ l. codes "reorder-section-after " ++ (l ++ line_feed ∷ [])) (id_before (Named moved) (space ∷ spelled_symbol after []))
    ∙ ap (λ l. codes "reorder-section-after " ++ l) (append_assoc (symbol_bytes moved) (encode_utf8_all (space ∷ spelled_symbol after [])) (line_feed ∷ []))

-- the line of a collating element
text_ids : (chars : List ℕ) → flat_map id_bytes (map Char chars) ≡ flat_map char_bytes chars
text_ids [] = refl
text_ids (c ∷ cs) = ap (λ l. char_bytes c ++ l) (text_ids cs)

from_parts : (chars : List ℕ) → encode_utf8_all (codes " from " ++ spelled_string (map Char chars) []) ++ line_feed ∷ [] ≡ codes " from \"" ++ text_bytes chars
unfolding encode
from_parts chars =
    ap (λ l. codes " from " ++ (l ++ line_feed ∷ [])) (string_parts (map Char chars) [])
    ∙ ap (λ l. codes " from \"" ++ (l ++ line_feed ∷ [])) (ap (λ l. l ++ 34 ∷ []) (text_ids chars))
    ∙ ap (λ l. codes " from \"" ++ l) (append_assoc (flat_map char_bytes chars) (34 ∷ []) (line_feed ∷ []))

pub element_parts : (name chars : List ℕ) → declaration_bytes (declaration.Element name chars) ≡ codes "collating-element " ++ element_bytes name chars
unfolding encode
element_parts name chars =
    ap (λ l. codes "collating-element " ++ (l ++ line_feed ∷ [])) (id_before (Named name) (codes " from " ++ spelled_string (map Char chars) []))
    ∙ ap (λ l. codes "collating-element " ++ l) (append_assoc (symbol_bytes name) (encode_utf8_all (codes " from " ++ spelled_string (map Char chars) [])) (line_feed ∷ [])
    ∙ ap (λ l. symbol_bytes name ++ l) (from_parts chars))

-- the line of a second name
pub equivalence_parts : (name symbol : List ℕ) → declaration_bytes (declaration.Equivalence name symbol) ≡ codes "symbol-equivalence " ++ names_bytes name symbol
unfolding encode
equivalence_parts name symbol =
    ap (λ l. codes "symbol-equivalence " ++ (l ++ line_feed ∷ [])) (id_before (Named name) (space ∷ spelled_symbol symbol []))
    ∙ ap (λ l. codes "symbol-equivalence " ++ l) (append_assoc (symbol_bytes name) (encode_utf8_all (space ∷ spelled_symbol symbol [])) (line_feed ∷ []))

-- rules
rule_by : (backward position : Bool) → (rest : List ℕ) → encode_utf8_all (direction_word backward ++ spelled_position position rest)
    ≡ encode_utf8_all (direction_word backward ++ spelled_position position []) ++ encode_utf8_all rest
rule_by true true rest = encodes-append (codes "backward,position") rest
rule_by true false rest = encodes-append (codes "backward") rest
rule_by false true rest = encodes-append (codes "forward,position") rest
rule_by false false rest = encodes-append (codes "forward") rest

pub rule_before : StandsBefore spelled_rule
rule_before r rest = rule_by r.backward r.position rest

-- the line of the rules
pub rules_parts : (rs : List Rule) → line_bytes (rules_line rs) ≡ codes "order_start " ++ (encode_utf8_all (spelled_joined spelled_rule rs []) ++ line_feed ∷ [])
unfolding encode
rules_parts rs = refl

-- The whole text.

-- the lines of members
pub lines_of_members : {X : Type 0} (line : X → List ℕ) (xs : List X) → flat_map line_bytes (map line xs) ≡ flat_map (λ x. line_bytes (line x)) xs
lines_of_members line [] = refl
lines_of_members line (x ∷ xs) = ap (λ l. line_bytes (line x) ++ l) (lines_of_members line xs)

pub text_parts : (table : Collation) → text table ≡ table_bytes table.rules table.declared (visited table.sections)
unfolding text canonical_lines encode
text_parts table =
    let prefix = map declaration_line table.declared in
    let middle = map visited_line (visited table.sections) in
    let closed : flat_map line_bytes (middle ++ closing_lines) ≡ flat_map visited_bytes (visited table.sections) ++ codes "order_end\nEND LC_COLLATE\n" =
    flat_map-append line_bytes middle closing_lines ∙ ap (λ l. l ++ flat_map line_bytes closing_lines) (lines_of_members visited_line (visited table.sections)) in
    ap (λ l. codes "comment_char %\nescape_char /\nLC_COLLATE\n" ++ l)
    (flat_map-append line_bytes prefix (rules_line table.rules ∷ (middle ++ closing_lines))
    ∙ ap (λ l. l ++ flat_map line_bytes (rules_line table.rules ∷ (middle ++ closing_lines))) (lines_of_members declaration_line table.declared)
    ∙ ap (λ l. flat_map declaration_bytes table.declared ++ (line_bytes (rules_line table.rules) ++ l)) closed)

-- the lines of a block
pub block_parts : (target : Id) (lines : List OrderLine)
    → flat_map line_bytes (block_lines target lines) ≡ (codes "reorder-after " ++ (id_bytes target ++ line_feed ∷ [])) ++ (flat_map order_bytes lines ++ codes "reorder-end\n")
unfolding encode
block_parts target lines =
    ap (λ l. line_bytes (target_line target) ++ l)
    (flat_map-append line_bytes (map order_line lines) (codes "reorder-end" ∷ []) ∙ ap (λ l. l ++ codes "reorder-end\n") (lines_of_members order_line lines))
