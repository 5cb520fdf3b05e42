-- Words of a list are told what stands beside them, and marked where they stand beside others in another list.
use Rattle.std.proofs.Common.{◌≡◌, ℕ, suc, ◌+◌, ◌<◌, ◌≤◌, ◌==◌, ◌||◌, not, Bool, true, false, cond, if◌then◌else◌, List, [], ◌∷◌, ◌++◌, length, get_or, set, drop, Option, refl, sym, ap, subst, ◌∙◌, arith}
use Rattle.std.proofs.Common.{append_assoc, append-nil, length-append, eq-eqb}
use Rattle.std.specs.Prelude.{All, encode_utf8_all, filter}
use Rattle.std.specs.Io.KnownBytes.{Appends}
use Rattle.std.specs.List.{flat_map}
use Rattle.std.proofs.KnownBytes.{Appends-trans}
use Rattle.std.proofs.Math.Seq.{set-append_seam}
use Rattle.std.proofs.lemmas.List.{get_or-append-add, length-map, map-append}
use Rattle.std.proofs.lemmas.List.Elements.{All-cons, All-nil, All-push}
use Rattle.coll_devices.specs.Devices.{AppendsPrefix}
use Rattle.coll_devices.specs.PhysicalLines.{line_feed}
use Rattle.coll_devices.proofs.WritingLemmas.{AppendsPrefix-before, AppendsPrefix-after}
use Rattle.coll_nodes.specs.Table.{Collation}
use Rattle.coll_key.proofs.KeyOrder.{All-first, All-others}
use Rattle.coll_word_lists.specs.KeyedWords.{KeyedWord, IsKeyed}
use Rattle.coll_word_lists.specs.Neighbours.{NumberedWord}
use Rattle.coll_word_lists.specs.NumberedWords.{numbered_from}
use Rattle.coll_word_lists.proofs.NumberedLemmas.{length_numbered}
use Rattle.coll_edit_replies.specs.ToldLists.{AreKeyedLines, IsToldIn, PutsWord, all_numbered, has_others, marked_lines, numbered_of, told, without_key, without_keys}
use Rattle.coll_edit_replies.specs.WordLists.{first_line, line_before, line_behind, mark, marked_line, stands_elsewhere, word_line}
use Rattle.coll_edit_replies.specs.declared.word_lists.ListedWord.{ListedWord}

-- Lines that stand once.

-- no word of a list has the line
abbrev pub AreOthers : ℕ → List NumberedWord → Type 0
AreOthers line words = All (λ (word : NumberedWord). (line == word.line) ≡ false) words

-- no line stands twice
abbrev pub StandOnce : List NumberedWord → Type 0
StandOnce words = (line : ℕ) → length (filter (λ (word : NumberedWord). line == word.line) words) ≤ 1

filter_more : (line : ℕ) (word : NumberedWord) (words : List NumberedWord) (b : Bool) → (line == word.line) ≡ b
    → length (filter (λ (word : NumberedWord). line == word.line) (word ∷ words)) ≡ cond b 1 0 + length (filter (λ (word : NumberedWord). line == word.line) words)
filter_more line word words true e = rw e (omega arith)
filter_more line word words false e = rw e (omega arith)

one_if : (b : Bool) (n : ℕ) → cond b 1 0 + n ≤ 1 → n ≤ 1
one_if true n few = omega (arith, few)
one_if false n few = omega (arith, few)

once_later : (word : NumberedWord) (words : List NumberedWord) → StandOnce (word ∷ words) → StandOnce words
once_later word words once line =
    one_if (line == word.line) (length (filter (λ (word : NumberedWord). line == word.line) words)) (omega (arith, once line, filter_more line word words (line == word.line) refl))

none_of : (b : Bool) (n : ℕ) → cond b 1 0 + n ≡ 0 → b ≡ false
none_of true n none = absurd (omega (arith, none))
none_of false n none = refl

rest_of : (b : Bool) (n : ℕ) → cond b 1 0 + n ≡ 0 → n ≡ 0
rest_of b n none = omega (arith, none)

others_if : (line : ℕ) (words : List NumberedWord) → length (filter (λ (word : NumberedWord). line == word.line) words) ≡ 0 → AreOthers line words
others_if line [] none = All-nil (λ (word : NumberedWord). (line == word.line) ≡ false)
others_if line (word ∷ words) none =
    let counted : cond (line == word.line) 1 0 + length (filter (λ (word : NumberedWord). line == word.line) words) ≡ 0 = sym (filter_more line word words (line == word.line) refl) ∙ none in
    All-cons (λ (word : NumberedWord). (line == word.line) ≡ false) word words (none_of (line == word.line) _ counted) (others_if line words (rest_of (line == word.line) _ counted))

itself : (line : ℕ) → (line == line) ≡ true
itself line = eq-eqb line line refl

others_behind : (word : NumberedWord) (words : List NumberedWord) → StandOnce (word ∷ words) → AreOthers word.line words
others_behind word words once =
    others_if word.line words (omega (arith, once word.line, filter_more word.line word words true (itself word.line)))

-- Told.

-- the words stay the same
pub numbered_told : (before : ℕ) (list : List ListedWord) → all_numbered (told before list) ≡ all_numbered list
numbered_told before [] = refl
numbered_told before (listed ∷ list) = ap (λ (words : List NumberedWord). numbered_of listed ∷ words) (numbered_told listed.line list)

-- what holds of the lines of words holds of those of the list
lines_of : (P : ℕ → Type 0) (list : List ListedWord) → All (λ (word : NumberedWord). P word.line) (all_numbered list) → All (λ (listed : ListedWord). P listed.line) list
lines_of P [] all = All-nil (λ (listed : ListedWord). P listed.line)
lines_of P (listed ∷ list) all =
    All-cons (λ (listed : ListedWord). P listed.line) listed list (All-first (λ (word : NumberedWord). P word.line) (numbered_of listed) (all_numbered list) all)
    (lines_of P list (All-others (λ (word : NumberedWord). P word.line) (numbered_of listed) (all_numbered list) all))

-- a word before the list, which has another line
one_under : (before : ℕ) (word : NumberedWord) (words : List NumberedWord) (listed : ListedWord) → (word.line == listed.line) ≡ false → IsToldIn word.line words listed → IsToldIn before (word ∷ words) listed
one_under before word words listed other is = (
  is.0 ∙ sym (ap (λ (b : Bool). if b then before else line_before word.line words listed.line) other),
  is.1 ∙ sym (ap (λ (b : Bool). if b then first_line words else line_behind words listed.line) other),
)

all_under : (before : ℕ) (word : NumberedWord) (words : List NumberedWord) (list : List ListedWord) → All (λ (listed : ListedWord). (word.line == listed.line) ≡ false) list → All (IsToldIn word.line words) list
    → All (IsToldIn before (word ∷ words)) list
all_under before word words [] others all = All-nil (IsToldIn before (word ∷ words))
all_under before word words (listed ∷ list) others all =
    All-cons (IsToldIn before (word ∷ words)) listed list
    (one_under before word words listed (All-first (λ (listed : ListedWord). (word.line == listed.line) ≡ false) listed list others) (All-first (IsToldIn word.line words) listed list all))
    (all_under before word words list (All-others (λ (listed : ListedWord). (word.line == listed.line) ≡ false) listed list others) (All-others (IsToldIn word.line words) listed list all))

-- each word was told what stands beside it
pub all_told : (before : ℕ) (list : List ListedWord) → StandOnce (all_numbered list) → All (IsToldIn before (all_numbered list)) (told before list)
all_told before [] once = All-nil (IsToldIn before [])
all_told before (listed ∷ list) once =
    let others : AreOthers listed.line (all_numbered (told listed.line list)) =
    subst (AreOthers listed.line) (sym (numbered_told listed.line list)) (others_behind (numbered_of listed) (all_numbered list) once) in
    All-cons (IsToldIn before (all_numbered (listed ∷ list))) (record listed { before = before; behind = first_line (all_numbered list) }) (told listed.line list) (
      sym (ap (λ (b : Bool). if b then before else line_before listed.line (all_numbered list) listed.line) (itself listed.line)),
      sym (ap (λ (b : Bool). if b then first_line (all_numbered list) else line_behind (all_numbered list) listed.line) (itself listed.line)),
    )
    (all_under before (numbered_of listed) (all_numbered list) (told listed.line list) (lines_of (λ (line : ℕ). (listed.line == line) ≡ false) (told listed.line list) others)
    (all_told listed.line list (once_later (numbered_of listed) (all_numbered list) once)))

-- Marked.

-- words are marked where they stand beside others than they were told
marked_from : (old new : List NumberedWord) (before : ℕ) (list : List ListedWord) → All (IsToldIn 0 old) list → All (IsToldIn 0 new) (told before list)
    → marked_lines before list ≡ flat_map (word_line old new) (all_numbered list)
marked_from old new before [] was is = refl
marked_from old new before (listed ∷ list) was is =
    let now : ListedWord = record listed { before = before; behind = first_line (all_numbered list) } in
    let told_old = All-first (IsToldIn 0 old) listed list was in
    let told_new = All-first (IsToldIn 0 new) now (told listed.line list) is in
    let same : has_others listed before (first_line (all_numbered list)) ≡ stands_elsewhere old new listed.line =
    ap (λ (line : ℕ). not (line == before) || not (listed.behind == first_line (all_numbered list))) told_old.0
    ∙ ap (λ (line : ℕ). not (line_before 0 old listed.line == line) || not (listed.behind == first_line (all_numbered list))) told_new.0
    ∙ ap (λ (line : ℕ). not (line_before 0 old listed.line == line_before 0 new listed.line) || not (line == first_line (all_numbered list))) told_old.1
    ∙ ap (λ (line : ℕ). not (line_before 0 old listed.line == line_before 0 new listed.line) || not (line_behind old listed.line == line)) told_new.1 in
    ap (λ (b : Bool). marked_line b listed.word.text ++ marked_lines listed.line list) same
    ∙ ap (λ (bytes : List ℕ). word_line old new (numbered_of listed) ++ bytes)
    (marked_from old new listed.line list (All-others (IsToldIn 0 old) listed list was) (All-others (IsToldIn 0 new) now (told listed.line list) is))

pub marked_all : (old : List NumberedWord) (list : List ListedWord) → StandOnce (all_numbered list) → All (IsToldIn 0 old) list
    → marked_lines 0 list ≡ flat_map (word_line old (all_numbered list)) (all_numbered list)
marked_all old list once was = marked_from old (all_numbered list) 0 list was (all_told 0 list once)

-- Word by word.

-- behind so many members and one more
drop_past : {X : Type 0} (front : List X) (x : X) (left : List X) → drop (length front + 1) (front ++ x ∷ left) ≡ left
drop_past [] x left = refl
drop_past (first ∷ front) x left = ap (λ (n : ℕ). drop n (first ∷ (front ++ x ∷ left))) (shifted (length front)) ∙ drop_past front x left
  where
    shifted : (n : ℕ) → suc n + 1 ≡ suc (n + 1)
    shifted n = omega arith

-- a list, of which so many members are passed
pub record IsPassed {X : Type 0} (list : List X) (count : ℕ) (front left : List X) : Type 0 where
  pub list_is : list ≡ front ++ left
  pub count_is : length front ≡ count

module _ {X : Type 0} (list : List X) (count : ℕ) (front left : List X) (x : X) (passed : IsPassed list count front (x ∷ left)) where
  here : count ≡ length front + 0
  here = omega (arith, passed.count_is)

  -- the next member
  pub next_is : (d : X) → get_or list count d ≡ x
  next_is d =
      ap (λ (l : List X). get_or l count d) passed.list_is ∙ ap (λ (n : ℕ). get_or (front ++ x ∷ left) n d) here
      ∙ get_or-append-add front (x ∷ left) 0 d

  -- what is behind it
  pub behind_next : drop (count + 1) list ≡ left
  behind_next =
      ap (λ (l : List X). drop (count + 1) l) passed.list_is ∙ ap (λ (n : ℕ). drop (n + 1) (front ++ x ∷ left)) (sym passed.count_is)
      ∙ drop_past front x left

  -- another one in its place
  pub put_next : (y : X) → set list count y ≡ front ++ y ∷ left
  put_next y =
      ap (λ (l : List X). set l count y) passed.list_is ∙ ap (λ (n : ℕ). set (front ++ x ∷ left) n y) (sym passed.count_is)
      ∙ set-append_seam front x left y

  -- and passed
  pub passed_next : (y : X) → IsPassed (set list count y) (count + 1) (front ++ y ∷ []) left
  passed_next y = record {
    list_is = put_next y ∙ sym (append_assoc front (y ∷ []) left);
    count_is = omega (arith, length-append front (y ∷ []), passed.count_is);
  }

-- nothing is left where all are passed, and something where not
none_left : {X : Type 0} (list : List X) (count : ℕ) (front left : List X) → IsPassed list count front left → length list ≤ count → left ≡ []
none_left list count front [] passed all = refl
none_left list count front (x ∷ left) passed all =
    absurd (omega (arith, all, ap length passed.list_is, length-append front (x ∷ left), passed.count_is))

-- so many words of a list were told
pub record ToldSoFar (list now : List ListedWord) (count before : ℕ) : Type 0 where
  pub front : List ListedWord
  pub left : List ListedWord
  pub passed : IsPassed now count front left
  pub told_is : told 0 list ≡ front ++ told before left

pub none_told : (list : List ListedWord) → ToldSoFar list list 0 0
none_told list = record { front = []; left = list; passed = record { list_is = refl; count_is = refl }; told_is = refl }

module _ (list now : List ListedWord) (count before : ℕ) where
  told_next : (front left : List ListedWord) → IsPassed now count front left → told 0 list ≡ front ++ told before left → (behind : ℕ) (d : ListedWord) → count < length now
      → behind ≡ first_line (all_numbered (drop (count + 1) now))
      → ToldSoFar list (set now count (record (get_or now count d) { before = before; behind = behind })) (count + 1) (get_or now count d).line
  told_next front [] passed told_is behind d within is = absurd (omega (arith, within, ap length passed.list_is, length-append front [], passed.count_is))
  told_next front (listed ∷ left) passed told_is behind d within is =
      let this : get_or now count d ≡ listed = next_is now count front left listed passed d in
      let next : behind ≡ first_line (all_numbered left) = is ∙ ap (λ (l : List ListedWord). first_line (all_numbered l)) (behind_next now count front left listed passed) in
      let with : ListedWord = record listed { before = before; behind = first_line (all_numbered left) } in
      let same : record (get_or now count d) { before = before; behind = behind } ≡ with =
      ap (λ (l : ListedWord). record l { before = before; behind = behind }) this ∙ ap (λ (line : ℕ). record listed { before = before; behind = line }) next in
      subst (λ (l : ListedWord). ToldSoFar list (set now count l) (count + 1) (get_or now count d).line) (sym same)
      (subst (λ (l : ListedWord). ToldSoFar list (set now count with) (count + 1) l.line) (sym this) (record {
        front = front ++ with ∷ [];
        left = left;
        passed = passed_next now count front left listed passed with;
        told_is = told_is ∙ sym (append_assoc front (with ∷ []) (told listed.line left));
      }))

  -- one word more
  pub told_more : ToldSoFar list now count before → (behind : ℕ) (d : ListedWord) → count < length now → behind ≡ first_line (all_numbered (drop (count + 1) now))
      → ToldSoFar list (set now count (record (get_or now count d) { before = before; behind = behind })) (count + 1) (get_or now count d).line
  told_more so_far behind d within is = told_next so_far.front so_far.left so_far.passed so_far.told_is behind d within is

  -- all were
  pub told_whole : ToldSoFar list now count before → length now ≤ count → now ≡ told 0 list
  told_whole so_far all =
      let none : so_far.left ≡ [] = none_left now count so_far.front so_far.left so_far.passed all in
      so_far.passed.list_is ∙ ap (λ (l : List ListedWord). so_far.front ++ l) none
      ∙ sym (so_far.told_is ∙ ap (λ (l : List ListedWord). so_far.front ++ told before l) none)

-- so many words of a list got their keys by a table
pub record KeyedSoFar (table : Collation) (list now : List ListedWord) (count : ℕ) : Type 0 where
  pub front : List ListedWord
  pub left : List ListedWord
  pub passed : IsPassed now count front left
  pub keyed : AreKeyedLines table front
  pub same : without_keys now ≡ without_keys list

pub none_keyed : (table : Collation) (list : List ListedWord) → KeyedSoFar table list list 0
none_keyed table list = record {
  front = [];
  left = list;
  passed = record { list_is = refl; count_is = refl };
  keyed = All-nil (λ (listed : ListedWord). IsKeyed table listed.word);
  same = refl;
}

module _ (table : Collation) (list now : List ListedWord) (count : ℕ) where
  keyed_next : (front left : List ListedWord) → IsPassed now count front left → AreKeyedLines table front → without_keys now ≡ without_keys list → (word : KeyedWord) (d : ListedWord)
      → count < length now → word.text ≡ (get_or now count d).word.text → IsKeyed table word → KeyedSoFar table list (set now count (record (get_or now count d) { word = word })) (count + 1)
  keyed_next front [] passed keyed same word d within text is = absurd (omega (arith, within, ap length passed.list_is, length-append front [], passed.count_is))
  keyed_next front (listed ∷ left) passed keyed same word d within text is =
      let this : get_or now count d ≡ listed = next_is now count front left listed passed d in
      let with : ListedWord = record listed { word = word } in
      let text_is : word.text ≡ listed.word.text = text ∙ ap (λ (l : ListedWord). l.word.text) this in
      subst (λ (l : ListedWord). KeyedSoFar table list (set now count (record l { word = word })) (count + 1)) (sym this) (record {
        front = front ++ with ∷ [];
        left = left;
        passed = passed_next now count front left listed passed with;
        keyed = All-push (λ (listed : ListedWord). IsKeyed table listed.word) front with keyed is;
        same = ap without_keys (put_next now count front left listed passed with) ∙ map-append without_key front (with ∷ left)
            ∙ ap (λ (t : List ℕ). without_keys front ++ record listed { word = record { text = t; key = [] } } ∷ without_keys left) text_is
            ∙ sym (map-append without_key front (listed ∷ left)) ∙ ap without_keys (sym passed.list_is) ∙ same;
      })

  -- one word more
  pub keyed_more : KeyedSoFar table list now count → (word : KeyedWord) (d : ListedWord) → count < length now → word.text ≡ (get_or now count d).word.text → IsKeyed table word
      → KeyedSoFar table list (set now count (record (get_or now count d) { word = word })) (count + 1)
  keyed_more so_far word d within text is = keyed_next so_far.front so_far.left so_far.passed so_far.keyed so_far.same word d within text is

  -- all have
  pub keyed_whole : KeyedSoFar table list now count → length now ≤ count → AreKeyedLines table now
  keyed_whole so_far all =
      let none : so_far.left ≡ [] = none_left now count so_far.front so_far.left so_far.passed all in
      subst (AreKeyedLines table)
      (sym (so_far.passed.list_is ∙ ap (λ (l : List ListedWord). so_far.front ++ l) none ∙ append-nil so_far.front)) so_far.keyed

-- so many words were numbered, and have their keys by a table
pub record NumberedSoFar (table : Collation) (texts : List (List ℕ)) (list : List ListedWord) : Type 0 where
  pub lines : all_numbered list ≡ numbered_from 1 texts
  pub keyed : AreKeyedLines table list

numbered_behind : (n : ℕ) (texts : List (List ℕ)) (text : List ℕ) → numbered_from n (texts ++ text ∷ []) ≡ numbered_from n texts ++ record { line = n + length texts; text = text } ∷ []
numbered_behind n [] text = ap (λ (line : ℕ). record { line = line; text = text } ∷ []) (plus_none n)
  where
    plus_none : (n : ℕ) → n ≡ n + 0
    plus_none n = omega arith
numbered_behind n (first ∷ texts) text =
    ap (λ (l : List NumberedWord). record { line = n; text = first } ∷ l) (numbered_behind (suc n) texts text
    ∙ ap (λ (line : ℕ). numbered_from (suc n) texts ++ record { line = line; text = text } ∷ []) (shifted n (length texts)))
  where
    shifted : (n k : ℕ) → suc n + k ≡ n + suc k
    shifted n k = omega arith

pub none_numbered : (table : Collation) → NumberedSoFar table [] []
none_numbered table = record { lines = refl; keyed = All-nil (λ (listed : ListedWord). IsKeyed table listed.word) }

-- one word more
pub numbered_more : (table : Collation) (texts : List (List ℕ)) (text : List ℕ) (old new : List ListedWord) → NumberedSoFar table texts old → PutsWord table text old new
    → NumberedSoFar table (texts ++ text ∷ []) new
numbered_more table texts text old new so_far (listed, is, line_is, key) =
    let count : length old + 1 ≡ 1 + length texts = omega (arith, length-map old numbered_of, ap length so_far.lines, length_numbered 1 texts) in
    record {
      lines =
          ap all_numbered is ∙ map-append numbered_of old (listed ∷ [])
          ∙ ap (λ (l : List NumberedWord). l ++ numbered_of listed ∷ []) so_far.lines
          ∙ ap (λ (word : NumberedWord). numbered_from 1 texts ++ word ∷ []) line_is
          ∙ ap (λ (n : ℕ). numbered_from 1 texts ++ record { line = n; text = text } ∷ []) count
          ∙ sym (numbered_behind 1 texts text);
      keyed = subst (AreKeyedLines table) (sym is) (All-push (λ (listed : ListedWord). IsKeyed table listed.word) old listed so_far.keyed key);
    }

-- Written.

-- the lines of some words are written, and those of the others are left
pub record WrittenSoFar (list left : List ListedWord) (line : ℕ) (before now : Option (List ℕ)) : Type 0 where
  pub done : List ℕ
  pub lines : marked_lines 0 list ≡ done ++ marked_lines line left
  pub appends : Appends before now done

pub none_written : (list : List ListedWord) (before : Option (List ℕ)) → Appends before before [] → WrittenSoFar list list 0 before before
none_written list before none = record { done = []; lines = refl; appends = none }

module _ (list left : List ListedWord) (line : ℕ) (a b c : Option (List ℕ)) (so_far : WrittenSoFar list left line a b) (listed : ListedWord) (later : List ListedWord) (begins : left ≡ listed ∷ later)
    (written : List ℕ) (is : written ≡ marked_line (has_others listed line (first_line (all_numbered later))) listed.word.text) where
  begun : marked_lines 0 list ≡ so_far.done ++ (written ++ marked_lines listed.line later)
  begun =
      so_far.lines ∙ ap (λ (l : List ListedWord). so_far.done ++ marked_lines line l) begins
      ∙ ap (λ (bytes : List ℕ). so_far.done ++ (bytes ++ marked_lines listed.line later)) (sym is)

  -- one word more
  pub written_next : Appends b c written → WrittenSoFar list later listed.line a c
  written_next more = record {
    done = so_far.done ++ written;
    lines = begun ∙ sym (append_assoc so_far.done written (marked_lines listed.line later));
    appends = Appends-trans a b c so_far.done written so_far.appends more;
  }

  -- the next stops
  pub written_part : AppendsPrefix b c written → AppendsPrefix a c (marked_lines 0 list)
  written_part part =
      subst (AppendsPrefix a c) (sym begun)
      (AppendsPrefix-after a b c so_far.done (written ++ marked_lines listed.line later) so_far.appends (AppendsPrefix-before b c written (marked_lines listed.line later) part))

-- a word is written behind its mark
pub line_written : (listed : ListedWord) (before behind : ℕ) (later : List ListedWord) (marked : Bool) (first text : List ℕ) → marked ≡ has_others listed before behind
    → behind ≡ first_line (all_numbered later) → first ≡ mark marked → encode_utf8_all listed.word.text ≡ text
    → first ++ (text ++ line_feed ∷ []) ≡ marked_line (has_others listed before (first_line (all_numbered later))) listed.word.text
line_written listed before behind later marked first text is next first_is bytes =
    ap (λ (l : List ℕ). l ++ (text ++ line_feed ∷ [])) (first_is ∙ ap mark (is ∙ ap (has_others listed before) next))
    ∙ ap (λ (t : List ℕ). mark (has_others listed before (first_line (all_numbered later))) ++ (t ++ line_feed ∷ [])) (sym bytes)

-- all are written
pub written_whole : (list left : List ListedWord) (line : ℕ) (a b : Option (List ℕ)) → WrittenSoFar list left line a b → left ≡ [] → Appends a b (marked_lines 0 list)
written_whole list left line a b so_far none =
    subst (Appends a b) (sym (so_far.lines ∙ ap (λ (l : List ListedWord). so_far.done ++ marked_lines line l) none ∙ append-nil so_far.done)) so_far.appends
