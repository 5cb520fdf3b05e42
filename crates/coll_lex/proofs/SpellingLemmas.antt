-- Spellings in parts, and as bytes.
use Rattle.std.proofs.Common.{◌≡◌, ℕ, zero, suc, ◌+◌, ◌/◌, ◌%◌, ◌<◌, ◌≤◌, Bool, true, false, if◌then◌else◌, ltb, cond, List, [], ◌∷◌, ◌++◌, All}
use Rattle.std.proofs.Common.{length, take, drop, get_or, refl, sym, ap, ◌∙◌, subst, ⊎_elim, append_assoc, take-append-drop, arith}
use Rattle.std.proofs.Math.Utf8.{encode, encodes}
use Rattle.std.proofs.lemmas.Str.{encode_ascii, encodes-IsAscii}
use Rattle.std.proofs.lemmas.Bool.{cases_lt, ne_eqb, le-ltb, lt-ltb}
use Rattle.std.proofs.lemmas.List.{drop_more}
use Rattle.std.proofs.lemmas.List.Elements.{All-head, All-tail, All-nil, All-cons, All-append, All-push, All-weaker}
use Rattle.std.proofs.lemmas.Str.Ascii.{IsAscii-from_all}
use Rattle.coll_lex.specs.Spelling.{is_escaped, spelled_char, spelled_name, spelled_symbol, spelled_code, hex_digit, hex_digits, digit_count}

-- one character more of a name
pub spelled_name-cons : (c : ℕ) (cs rest : List ℕ) → spelled_name (c ∷ cs) rest ≡ spelled_char c (spelled_name cs rest)
unfolding spelled_name
spelled_name-cons c cs rest = refl

-- a name of no characters is spelled by nothing
pub spelled_name-nil : (rest : List ℕ) → spelled_name [] rest ≡ rest
unfolding spelled_name
spelled_name-nil rest = refl

-- a character that is escaped
pub spelled_name-escaped : (c : ℕ) (cs rest : List ℕ) → is_escaped c ≡ true → spelled_name (c ∷ cs) rest ≡ 47 ∷ c ∷ spelled_name cs rest
spelled_name-escaped c cs rest e =
    let spelled = spelled_name cs rest in
    spelled_name-cons c cs rest ∙ ap (λ b. if b then 47 ∷ c ∷ spelled else c ∷ spelled) e

-- a character that is not
pub spelled_name-bare : (c : ℕ) (cs rest : List ℕ) → is_escaped c ≡ false → spelled_name (c ∷ cs) rest ≡ c ∷ spelled_name cs rest
spelled_name-bare c cs rest e =
    let spelled = spelled_name cs rest in
    spelled_name-cons c cs rest ∙ ap (λ b. if b then 47 ∷ c ∷ spelled else c ∷ spelled) e

-- a run of characters that are not
pub spelled_name-run : (run cs rest : List ℕ) → All (λ c. is_escaped c ≡ false) run → spelled_name (run ++ cs) rest ≡ run ++ spelled_name cs rest
spelled_name-run [] cs rest bare = refl
spelled_name-run (c ∷ run) cs rest bare =
    let P : ℕ → Type 0 = λ b. is_escaped b ≡ false in
    spelled_name-bare c (run ++ cs) rest (All-head P c run bare) ∙ ap (λ l. c ∷ l) (spelled_name-run run cs rest (All-tail P c run bare))

-- a name with nothing to escape
pub spelled_name-all_bare : (cs : List ℕ) → All (λ c. is_escaped c ≡ false) cs → spelled_name cs [] ≡ cs
spelled_name-all_bare [] bare = spelled_name-nil []
spelled_name-all_bare (c ∷ cs) bare =
    let P : ℕ → Type 0 = λ b. is_escaped b ≡ false in
    spelled_name-bare c cs [] (All-head P c cs bare) ∙ ap (λ l. c ∷ l) (spelled_name-all_bare cs (All-tail P c cs bare))

-- what follows a name stands behind it
pub spelled_name-append : (cs rest : List ℕ) → spelled_name cs rest ≡ spelled_name cs [] ++ rest
spelled_name-append [] rest = spelled_name-nil rest ∙ ap (λ l. l ++ rest) (sym (spelled_name-nil []))
spelled_name-append (c ∷ cs) rest =
    let both : (b : Bool) → let s = spelled_name cs rest in let t = spelled_name cs [] in (if b then 47 ∷ c ∷ s else c ∷ s) ≡ (if b then 47 ∷ c ∷ t else c ∷ t) ++ rest =
    elim [ true ↦ ap (λ l. 47 ∷ c ∷ l) (spelled_name-append cs rest) | false ↦ ap (λ l. c ∷ l) (spelled_name-append cs rest) ] in
    spelled_name-cons c cs rest ∙ both (is_escaped c) ∙ ap (λ l. l ++ rest) (sym (spelled_name-cons c cs []))

-- the spelling of more than one run
spelled_name-runs : (cs ds rest : List ℕ) → spelled_name (cs ++ ds) rest ≡ spelled_name cs (spelled_name ds rest)
spelled_name-runs [] ds rest = sym (spelled_name-nil (spelled_name ds rest))
spelled_name-runs (c ∷ cs) ds rest =
    spelled_name-cons c (cs ++ ds) rest ∙ ap (λ l. spelled_char c l) (spelled_name-runs cs ds rest) ∙ sym (spelled_name-cons c cs (spelled_name ds rest))

-- one more character at the end of a name
pub spelled_name-push : (cs : List ℕ) (c : ℕ) → spelled_name (cs ++ c ∷ []) [] ≡ spelled_name cs [] ++ spelled_char c []
spelled_name-push cs c =
    spelled_name-runs cs (c ∷ []) []
    ∙ spelled_name-append cs (spelled_name (c ∷ []) [])
    ∙ ap (λ l. spelled_name cs [] ++ l) (spelled_name-cons c [] [] ∙ ap (λ l. spelled_char c l) (spelled_name-nil []))

-- a name cut at an escaped byte
pub spelled_name-cut : (name : List ℕ) (at : ℕ) → at < length name → All (λ c. is_escaped c ≡ false) (take at name) → is_escaped (get_or name at 0) ≡ true
    → spelled_name name [] ≡ take at name ++ (47 ∷ get_or name at 0 ∷ spelled_name (drop (at + 1) name) [])
spelled_name-cut name at within run escaped =
    ap (λ l. spelled_name l []) (sym (take-append-drop at name))
    ∙ spelled_name-run (take at name) (drop at name) [] run
    ∙ ap (λ l. take at name ++ spelled_name l []) (drop_more name at 0 within)
    ∙ ap (λ l. take at name ++ l) (spelled_name-escaped (get_or name at 0) (drop (at + 1) name) [] escaped)

-- no byte from 128 on is escaped
high_bare : (b : ℕ) → 128 ≤ b → is_escaped b ≡ false
high_bare b high = let e = ne_eqb b 62 (λ same. omega arith) in let f = ne_eqb b 47 (λ same. omega arith) in rw (e, f) refl

-- each byte of a character from 128 on is from 128 on
encode-high : (c : ℕ) → 128 ≤ c → All (λ b. 128 ≤ b) (encode c)
unfolding encode
encode-high c high =
    let P : ℕ → Type 0 = λ b. 128 ≤ b in
    let push : (b : ℕ) (bs : List ℕ) → 128 ≤ b → All P bs → All P (b ∷ bs) = λ b bs. All-cons P b bs in
    let one = (128 + c % 64) ∷ [] in
    let two = (128 + c / 64 % 64) ∷ one in
    let three = (128 + c / 4096 % 64) ∷ two in
    let last : All P one = push (128 + c % 64) [] (omega arith) (All-nil P) in
    let middle : All P two = push (128 + c / 64 % 64) one (omega arith) last in
    let prefix : All P three = push (128 + c / 4096 % 64) two (omega arith) middle in
    let of_two : All P ((192 + c / 64) ∷ one) = push (192 + c / 64) one (omega arith) last in
    let of_three : All P ((224 + c / 4096) ∷ two) = push (224 + c / 4096) two (omega arith) middle in
    let of_four : All P ((240 + c / 262144) ∷ three) = push (240 + c / 262144) three (omega arith) prefix in
    let either : (p q : Bool) → All P (cond p ((192 + c / 64) ∷ one) (cond q ((224 + c / 4096) ∷ two) ((240 + c / 262144) ∷ three))) =
    elim [ true ↦ λ q. of_two | false ↦ elim [ true ↦ of_three | false ↦ of_four ] ] in
    rw (le-ltb c 128 high) (either (ltb c 2048) (ltb c 65536))

-- the bytes of a spelled name are its bytes, spelled
pub encodes-spelled_name : (cs rest : List ℕ) → spelled_name (encodes cs) (encodes rest) ≡ encodes (spelled_name cs rest)
encodes-spelled_name [] rest = spelled_name-nil (encodes rest) ∙ ap encodes (sym (spelled_name-nil rest))
encodes-spelled_name (c ∷ cs) rest =
    let P : ℕ → Type 0 = λ b. 128 ≤ b in
    let spelled = spelled_name cs rest in
    let bytes = spelled_name (encodes cs) (encodes rest) in
    let same : bytes ≡ encodes spelled = encodes-spelled_name cs rest in
    ⊎_elim
    (λ low.
    let one : encode c ≡ c ∷ [] = encode_ascii c low in
    let slash : encode 47 ≡ 47 ∷ [] = encode_ascii 47 (omega arith) in
    let both : (b : Bool) → (if b then 47 ∷ c ∷ bytes else c ∷ bytes) ≡ encodes (if b then 47 ∷ c ∷ spelled else c ∷ spelled) =
    elim [ true ↦ (rw (slash, one, same) refl) | false ↦ (rw (one, same) refl) ] in
    ap (λ l. spelled_name (l ++ encodes cs) (encodes rest)) one
    ∙ spelled_name-cons c (encodes cs) (encodes rest)
    ∙ both (is_escaped c)
    ∙ ap encodes (sym (spelled_name-cons c cs rest)))
    (λ high.
    let bare : All (λ b. is_escaped b ≡ false) (encode c) = All-weaker P (λ b. is_escaped b ≡ false) high_bare (encode c) (encode-high c high) in
    spelled_name-run (encode c) (encodes cs) (encodes rest) bare
    ∙ ap (λ l. encode c ++ l) same
    ∙ ap encodes (sym (spelled_name-bare c cs rest (high_bare c high))))
    (cases_lt c 128)

-- the bytes of a spelled symbol
pub encodes-spelled_symbol : (name : List ℕ) → encodes (spelled_symbol name []) ≡ 60 ∷ (spelled_name (encodes name) [] ++ 62 ∷ [])
unfolding spelled_symbol
encodes-spelled_symbol name =
    let low : encode 60 ≡ 60 ∷ [] = encode_ascii 60 (omega arith) in
    let high : encode 62 ≡ 62 ∷ [] = encode_ascii 62 (omega arith) in
    let close : encodes (62 ∷ []) ≡ 62 ∷ [] = rw high refl in
    ap (λ l. l ++ encodes (spelled_name name (62 ∷ []))) low
    ∙ ap (λ l. 60 ∷ l) (sym (encodes-spelled_name name (62 ∷ [])) ∙ ap (λ l. spelled_name (encodes name) l) close ∙ spelled_name-append (encodes name) (62 ∷ []))

-- the digits of a number, one place further left
pub hex_digits-suc : (count n : ℕ) → hex_digits (suc count) n ≡ hex_digits count (n / 16) ++ hex_digit (n % 16) ∷ []
unfolding hex_digits
hex_digits-suc count n = refl

-- no digits
pub hex_digits-zero : (n : ℕ) → hex_digits 0 n ≡ []
unfolding hex_digits
hex_digits-zero n = refl

-- a digit is ASCII
hex_digit-ascii : (d : ℕ) → d < 16 → hex_digit d < 128
hex_digit-ascii d small =
    ⊎_elim (λ low. rw (lt-ltb d 10 low) (omega arith)) (λ high. rw (le-ltb d 10 high) (omega arith)) (cases_lt d 10)

-- what holds of each digit holds of all digits of a number
pub hex_digits-all : (P : ℕ → Type 0) → ((d : ℕ) → d < 16 → P (hex_digit d)) → (count n : ℕ) → All P (hex_digits count n)
hex_digits-all P each zero n = subst (All P) (sym (hex_digits-zero n)) (All-nil P)
hex_digits-all P each (suc count) n =
    subst (All P) (sym (hex_digits-suc count n)) (All-push P (hex_digits count (n / 16)) (hex_digit (n % 16)) (hex_digits-all P each count (n / 16)) (each (n % 16) (omega arith)))

-- the bytes of a spelled character
pub encodes-spelled_code : (c : ℕ) → encodes (spelled_code c []) ≡ 60 ∷ 85 ∷ (hex_digits (digit_count c) c ++ 62 ∷ [])
unfolding spelled_code
encodes-spelled_code c =
    let P : ℕ → Type 0 = λ b. b < 128 in
    let digits = hex_digits (digit_count c) c in
    let close : All P (62 ∷ []) = All-cons P 62 [] (omega arith) (All-nil P) in
    let inner : All P (digits ++ 62 ∷ []) = All-append P digits (62 ∷ []) (hex_digits-all P hex_digit-ascii (digit_count c) c) close in
    let whole : All P (60 ∷ 85 ∷ (digits ++ 62 ∷ [])) = All-cons P 60 (85 ∷ (digits ++ 62 ∷ [])) (omega arith) (All-cons P 85 (digits ++ 62 ∷ []) (omega arith) inner) in
    encodes-IsAscii (60 ∷ 85 ∷ (digits ++ 62 ∷ [])) (IsAscii-from_all (60 ∷ 85 ∷ (digits ++ 62 ∷ [])) whole)

-- four digits, one by one
digits_four : (n : ℕ) (d : List ℕ) → d ≡ hex_digits 4 n → hex_digits 4 n ≡ get_or d 0 0 ∷ get_or d 1 0 ∷ get_or d 2 0 ∷ get_or d 3 0 ∷ []
unfolding hex_digits
digits_four n d is = rw is refl

-- eight digits are the four before the last four, and these
digits_eight : (n : ℕ) → hex_digits 8 n ≡ hex_digits 4 (n / 65536) ++ hex_digits 4 n
unfolding hex_digits
digits_eight n =
    let further : n / 16 / 16 / 16 / 16 ≡ n / 65536 = omega arith in
    rw further refl

-- the bytes of a character up to FFFF
pub code_of_four : (c : ℕ) (d : List ℕ) → d ≡ hex_digits 4 c → c < 65536 → encodes (spelled_code c []) ≡ 60 ∷ 85 ∷ get_or d 0 0 ∷ get_or d 1 0 ∷ get_or d 2 0 ∷ get_or d 3 0 ∷ 62 ∷ []
code_of_four c d is low =
    let count : digit_count c ≡ 4 = rw (lt-ltb c 65536 low) refl in
    encodes-spelled_code c ∙ ap (λ n. 60 ∷ 85 ∷ (hex_digits n c ++ 62 ∷ [])) count ∙ ap (λ l. 60 ∷ 85 ∷ (l ++ 62 ∷ [])) (digits_four c d is)

-- the bytes of a character above
pub code_of_eight : (c : ℕ) (h d : List ℕ) → h ≡ hex_digits 4 (c / 65536) → d ≡ hex_digits 4 c → 65536 ≤ c
    → encodes (spelled_code c []) ≡ 60 ∷ 85 ∷ get_or h 0 0 ∷ get_or h 1 0 ∷ get_or h 2 0 ∷ get_or h 3 0 ∷ get_or d 0 0 ∷ get_or d 1 0 ∷ get_or d 2 0 ∷ get_or d 3 0 ∷ 62 ∷ []
code_of_eight c h d first is high =
    let count : digit_count c ≡ 8 = rw (le-ltb c 65536 high) refl in
    let both : hex_digits 8 c ≡ (get_or h 0 0 ∷ get_or h 1 0 ∷ get_or h 2 0 ∷ get_or h 3 0 ∷ []) ++ (get_or d 0 0 ∷ get_or d 1 0 ∷ get_or d 2 0 ∷ get_or d 3 0 ∷ []) =
    digits_eight c ∙ ap (λ l. l ++ hex_digits 4 c) (digits_four (c / 65536) h first) ∙ ap (λ l. (get_or h 0 0 ∷ get_or h 1 0 ∷ get_or h 2 0 ∷ get_or h 3 0 ∷ []) ++ l) (digits_four c d is) in
    encodes-spelled_code c ∙ ap (λ n. 60 ∷ 85 ∷ (hex_digits n c ++ 62 ∷ [])) count ∙ ap (λ l. 60 ∷ 85 ∷ (l ++ 62 ∷ [])) both

-- what follows a symbol stands behind it
pub spelled_symbol-append : (name rest : List ℕ) → spelled_symbol name rest ≡ spelled_symbol name [] ++ rest
unfolding spelled_symbol
spelled_symbol-append name rest =
    ap (λ l. 60 ∷ l) (spelled_name-append name (62 ∷ rest) ∙ sym (append_assoc (spelled_name name []) (62 ∷ []) rest) ∙ ap (λ l. l ++ rest) (sym (spelled_name-append name (62 ∷ []))))

-- what follows a character's code stands behind it
pub spelled_code-append : (c : ℕ) (rest : List ℕ) → spelled_code c rest ≡ spelled_code c [] ++ rest
unfolding spelled_code
spelled_code-append c rest = ap (λ l. 60 ∷ 85 ∷ l) (sym (append_assoc (hex_digits (digit_count c) c) (62 ∷ []) rest))
