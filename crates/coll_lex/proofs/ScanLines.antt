-- A scan over the characters of a physical line.
use Rattle.std.proofs.Common.{◌≡◌, ◌≢◌, ℕ, ◌==◌, Bool, true, false, List, [], ◌∷◌, ◌++◌, length, chars, ◌⊎◌, inl, inr, refl, ap, sym, ◌∙◌, arith}
use Rattle.std.proofs.lemmas.Bool.Decides.{nat_tests}
use Rattle.std.proofs.lemmas.Str.{chars-nil}
use Rattle.coll_lex.specs.Marked.{Mark, Plain, Literal, marks, ends_escaped}
use Rattle.coll_lex.specs.Scanning.{reading_left, TakesMark, Refuses, TakesCharacter, RefusesCharacter, TakesPart, RefusesPart, GathersPart}
use Rattle.coll_lex.specs.Scanning.{is_continued, TakesLine, Gathers, GathersCharacter}
use Rattle.coll_lex.specs.declared.tokens.Chars.{Chars}
use Rattle.coll_lex.specs.declared.faults.LexFault.{LexFault}
use Rattle.coll_lex.specs.declared.scanning.Scan.{Scan}
use Rattle.coll_lex.specs.declared.scanning.Mode.{Mode}
use Rattle.coll_lex.specs.declared.scanning.Mode.TheVariants as mode
use Rattle.coll_lex.proofs.ScanRows.{differs, equals}

-- one character, by whether it is escaped, an escape character, or another

pub literal_taken : (special : Chars) (old new : Scan) (c : ℕ) → old.escaped ≡ true → TakesMark special.comment (record old { escaped = false }) (Literal c) new → TakesCharacter special old c new
unfolding reading_left marks ends_escaped
literal_taken special old new c e t = record {
  reads = λ cs ms. rw (e, t.same_escape) (t.reads (marks special.escape false cs ++ ms));
  ends = λ cs. rw (e, t.same_escape) refl;
}

pub literal_refused : (special : Chars) (old : Scan) (c : ℕ) (fault : LexFault) → old.escaped ≡ true → Refuses special.comment (record old { escaped = false }) (Literal c) fault
    → RefusesCharacter special old c fault
unfolding reading_left marks
literal_refused special old c fault e t = record { stops = λ cs ms. rw e (t.stops (marks special.escape false cs ++ ms)) }

pub literal_gathers : (special : Chars) (old : Scan) (c : ℕ) → old.escaped ≡ true → Gathers special.comment (record old { escaped = false }) (Literal c) → GathersCharacter special old c
unfolding reading_left marks
literal_gathers special old c e t = record { reads = λ cs ms. rw e (t.reads (marks special.escape false cs ++ ms)) }

pub escape_taken : (special : Chars) (old : Scan) (c : ℕ) → old.escaped ≡ false → c ≡ special.escape → TakesCharacter special old c (record old { escaped = true })
unfolding reading_left marks ends_escaped
escape_taken special old c e f =
    let is : (c == special.escape) ≡ true = equals c special.escape f in
    record { reads = λ cs ms. rw (e, is) refl; ends = λ cs. rw (e, is) refl }

pub plain_taken : (special : Chars) (old new : Scan) (c : ℕ) → old.escaped ≡ false → c ≢ special.escape → TakesMark special.comment old (Plain c) new → TakesCharacter special old c new
unfolding reading_left marks ends_escaped
plain_taken special old new c e f t =
    let not : (c == special.escape) ≡ false = differs c special.escape f in
    let stays : new.escaped ≡ false = t.same_escape ∙ e in
    record { reads = λ cs ms. rw (e, not, stays) (t.reads (marks special.escape false cs ++ ms)); ends = λ cs. rw (e, not, stays) refl }

pub plain_refused : (special : Chars) (old : Scan) (c : ℕ) (fault : LexFault) → old.escaped ≡ false → c ≢ special.escape → Refuses special.comment old (Plain c) fault
    → RefusesCharacter special old c fault
unfolding reading_left marks
plain_refused special old c fault e f t =
    let not : (c == special.escape) ≡ false = differs c special.escape f in
    record { stops = λ cs ms. rw (e, not) (t.stops (marks special.escape false cs ++ ms)) }

pub plain_gathers : (special : Chars) (old : Scan) (c : ℕ) → old.escaped ≡ false → c ≢ special.escape → Gathers special.comment old (Plain c) → GathersCharacter special old c
unfolding reading_left marks
plain_gathers special old c e f t =
    let not : (c == special.escape) ≡ false = differs c special.escape f in
    record { reads = λ cs ms. rw (e, not) (t.reads (marks special.escape false cs ++ ms)) }

-- one character is a part

pub character_taken : (special : Chars) (old new : Scan) (text rest : List ℕ) (c : ℕ) → chars text ≡ c ∷ chars rest → TakesCharacter special old c new → TakesPart special old text new rest
character_taken special old new text rest c e t = record { reads = λ ms. rw e (t.reads (chars rest) ms); ends = inl (rw e (t.ends (chars rest))) }

pub character_refused : (special : Chars) (old : Scan) (text rest : List ℕ) (c : ℕ) (fault : LexFault) → chars text ≡ c ∷ chars rest → RefusesCharacter special old c fault
    → RefusesPart special old text fault
character_refused special old text rest c fault e t = record { stops = λ ms. rw e (t.stops (chars rest) ms) }

pub character_gathers : (special : Chars) (old : Scan) (text rest : List ℕ) (c : ℕ) → chars text ≡ c ∷ chars rest → GathersCharacter special old c → GathersPart special old text
character_gathers special old text rest c e t = record { reads = λ ms. rw e (t.reads (chars rest) ms) }

-- parts, one after another

-- past a part that leaves something
later_ends : {A B : Type 0} (mid : List ℕ) → A ⊎ (B × (mid ≡ [])) → (length mid == 0) ≡ false → A
later_ends mid (inl a) e = a
later_ends [] (inr b) e = absurd (cc)
later_ends (x ∷ xs) (inr b) e = absurd (cc)

pub joined_ends : {a b c : Bool} {P : Type 0} → a ≡ b → (b ≡ c) ⊎ P → (a ≡ c) ⊎ P
joined_ends e (inl f) = inl (e ∙ f)
joined_ends e (inr p) = inr p

pub part_more : (special : Chars) (old mid new : Scan) (text left rest : List ℕ) → TakesPart special old text mid left → (length left == 0) ≡ false → TakesPart special mid left new rest
    → TakesPart special old text new rest
part_more special old mid new text left rest f some t = record {
  reads = λ ms. f.reads ms ∙ t.reads ms;
  ends = joined_ends (later_ends left f.ends some) t.ends;
}

none_left : (escape : ℕ) (escaped : Bool) (rest : List ℕ) (ms : List Mark) → (length rest == 0) ≡ true → marks escape escaped (chars rest) ++ ms ≡ ms
unfolding marks
none_left escape escaped [] ms e = rw chars-nil refl
none_left escape escaped (c ∷ cs) ms e = absurd (grind (arith, nat_tests))

none_ends : (escape : ℕ) (escaped : Bool) (rest : List ℕ) → (length rest == 0) ≡ true → ends_escaped escape escaped (chars rest) ≡ escaped
unfolding ends_escaped
none_ends escape escaped [] e = rw chars-nil refl
none_ends escape escaped (c ∷ cs) e = absurd (grind (arith, nat_tests))

ends_there : (m : Mode) (P : Type 0) {a b : Bool} → (a ≡ b) ⊎ ((m ≡ mode.Comment) × P) → is_continued m ≡ true → b ≡ a
ends_there m P (inl e) f = sym e
ends_there mode.Plain P (inr h) f = let e = h.0 in absurd (cc)
ends_there mode.Symbol P (inr h) f = let e = h.0 in absurd (cc)
ends_there mode.Text P (inr h) f = let e = h.0 in absurd (cc)
ends_there mode.SymbolInText P (inr h) f = let e = h.0 in absurd (cc)
ends_there mode.Comment P (inr h) f = cc

-- past the last part of a line
pub part_all : (special : Chars) (old new : Scan) (line rest : List ℕ) → old.escaped ≡ false → TakesPart special old line new rest → (length rest == 0) ≡ true → TakesLine special old (chars line) new
part_all special old new line rest e f none = record {
  reads = λ ms. rw (← e) (f.reads ms ∙ ap (reading_left special.comment new) (none_left special.escape new.escaped rest ms none));
  ends = λ g. sym (none_ends special.escape new.escaped rest none) ∙ rw (← e) (ends_there new.mode _ f.ends g);
}
