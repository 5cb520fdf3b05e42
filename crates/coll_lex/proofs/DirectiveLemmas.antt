-- The directive that a line is, by what stands at its front.
use Rattle.std.proofs.Common.{◌≡◌, ◌≢◌, ◌==◌, [], ◌∷◌, ℕ, ◌+◌, ◌<◌, List, length, drop, get_or, codes, Some, None, true, false, refl, ap, sym, ◌∙◌, arith, ◌≤◌, ◌-◌, take}
use Rattle.std.proofs.lemmas.Bool.Decides.{nat_tests}
use Rattle.std.proofs.lemmas.List.{drop_more, drop_all, take_rest}
use Rattle.coll_lex.specs.Blanks.{is_blank, past_blanks}
use Rattle.coll_lex.specs.declared.tokens.Chars.{Chars}
use Rattle.coll_lex.specs.Directives.{operand_of, named_character, with_comment, with_escape, directive}

-- a blank is passed
pub past_blanks_blank : (line : List ℕ) (i : ℕ) → i < length line → is_blank (get_or line i 0) ≡ true → past_blanks (drop i line) ≡ past_blanks line
    → past_blanks (drop (i + 1) line) ≡ past_blanks line
unfolding past_blanks
past_blanks_blank line i h e same = sym (ap past_blanks (drop_more line i 0 h) ∙ rw e refl) ∙ same

-- another character stays
pub past_blanks_other : (line : List ℕ) (i : ℕ) → i < length line → is_blank (get_or line i 0) ≡ false → past_blanks (drop i line) ≡ past_blanks line
    → take (length line - i) (drop i line) ≡ past_blanks line
unfolding past_blanks
past_blanks_other line i h e same =
    take_rest line i ∙ (drop_more line i 0 h ∙ (sym (ap past_blanks (drop_more line i 0 h) ∙ rw e refl) ∙ same))

-- past the last character nothing is left
pub past_blanks_all : (line : List ℕ) (i : ℕ) → length line ≤ i → past_blanks (drop i line) ≡ past_blanks line → drop (length line) line ≡ past_blanks line
unfolding past_blanks
past_blanks_all line i h same =
    let all : length line ≤ length line = omega arith in
    drop_all (length line) line all ∙ (sym (ap past_blanks (drop_all i line h)) ∙ same)

pub directive_comment : (special : Chars) (line operand : List ℕ) → Some operand ≡ operand_of (codes "comment_char") (past_blanks line)
    → directive special line ≡ Some (with_comment special (named_character (past_blanks operand)))
unfolding directive
directive_comment special line operand e = rw (← e) refl

pub directive_escape : (special : Chars) (line operand : List ℕ) → None ≡ operand_of (codes "comment_char") (past_blanks line) → Some operand ≡ operand_of (codes "escape_char") (past_blanks line)
    → directive special line ≡ Some (with_escape special (named_character (past_blanks operand)))
unfolding directive
directive_escape special line operand e f = rw (← e, ← f) refl

pub directive_none : (special : Chars) (line : List ℕ) → None ≡ operand_of (codes "comment_char") (past_blanks line) → None ≡ operand_of (codes "escape_char") (past_blanks line)
    → directive special line ≡ None
unfolding directive
directive_none special line e f = rw (← e, ← f) refl

-- a line that begins with another byte is no directive

pub nothing_begun : (text : List ℕ) (w : ℕ) (ws : List ℕ) → length text ≡ 0 → None ≡ operand_of (w ∷ ws) text
unfolding operand_of
nothing_begun [] w ws e = refl
nothing_begun (b ∷ bs) w ws e = absurd (omega (arith, e))

begun_otherwise : (b w : ℕ) (bs ws : List ℕ) → b ≢ w → None ≡ operand_of (w ∷ ws) (b ∷ bs)
unfolding operand_of
begun_otherwise b w bs ws h =
    let other : (w == b) ≡ false = grind (arith, nat_tests) in
    rw other refl

pub not_begun : (text : List ℕ) (b w : ℕ) (bs ws : List ℕ) → text ≡ b ∷ bs → b ≢ w → None ≡ operand_of (w ∷ ws) text
not_begun text b w bs ws e h = rw e (begun_otherwise b w bs ws h)

-- which directive a line may be, by its first byte behind the blanks

pub no_directive_in_nothing : (special : Chars) (line : List ℕ) → length (past_blanks line) ≡ 0 → None ≡ directive special line
no_directive_in_nothing special line e =
    sym (directive_none special line (nothing_begun (past_blanks line) 99 _ e) (nothing_begun (past_blanks line) 101 _ e))

pub no_comment_directive : (special : Chars) (line bs : List ℕ) (b : ℕ) → past_blanks line ≡ b ∷ bs → b ≡ 99 → None ≡ operand_of (codes "comment_char") (past_blanks line) → None ≡ directive special line
no_comment_directive special line bs b e is h =
    let other : b ≢ 101 = grind (arith, nat_tests) in
    sym (directive_none special line h (not_begun (past_blanks line) b 101 bs _ e other))

pub no_escape_directive : (special : Chars) (line bs : List ℕ) (b : ℕ) → past_blanks line ≡ b ∷ bs → b ≡ 101 → None ≡ operand_of (codes "escape_char") (past_blanks line) → None ≡ directive special line
no_escape_directive special line bs b e is h =
    let other : b ≢ 99 = grind (arith, nat_tests) in
    sym (directive_none special line (not_begun (past_blanks line) b 99 bs _ e other) h)

pub no_directive : (special : Chars) (line bs : List ℕ) (b : ℕ) → past_blanks line ≡ b ∷ bs → b ≢ 99 → b ≢ 101 → None ≡ directive special line
no_directive special line bs b e h k = sym (directive_none special line (not_begun (past_blanks line) b 99 bs _ e h) (not_begun (past_blanks line) b 101 bs _ e k))

pub escape_directive : (special : Chars) (line bs operand : List ℕ) (b : ℕ) → past_blanks line ≡ b ∷ bs → b ≡ 101 → Some operand ≡ operand_of (codes "escape_char") (past_blanks line)
    → Some (with_escape special (named_character (past_blanks operand))) ≡ directive special line
escape_directive special line bs operand b e is h =
    let other : b ≢ 99 = grind (arith, nat_tests) in
    sym (directive_escape special line operand (not_begun (past_blanks line) b 99 bs _ e other) h)

-- a line that begins with a bracket is none, and so is an empty one

pub bracket_first : (special : Chars) (line rest : List ℕ) (b : ℕ) → line ≡ b ∷ rest → b ≡ 60 → directive special line ≡ None
unfolding past_blanks
bracket_first special line rest b e is = rw (e, is) (sym (no_directive special (60 ∷ rest) rest 60 refl (omega arith) (omega arith)))

pub nothing_there : (special : Chars) (line : List ℕ) → length line ≡ 0 → directive special line ≡ None
unfolding past_blanks
nothing_there special [] e = sym (no_directive_in_nothing special [] refl)
nothing_there special (b ∷ bs) e = absurd (omega (arith, e))
