use Rattle.std.proofs.Common.{◌≡◌, [], ◌∷◌, ◌++◌, chars, encode_utf8_all, ap, ◌∙◌, rules}
use Rattle.std.proofs.lemmas.Str.{encodes-chars}
use Rattle.coll_lex.specs.Spelling.{spelled_name, spelled_symbol}
use Rattle.coll_lex.proofs.SpellingLemmas.{encodes-spelled_symbol}
use Rattle.coll_lex.proofs.spelling.write_symbol.Goals as goal

pub returns-then-name-gt-FEW_NAME_BYTES : goal.returns-then-name-gt-FEW_NAME_BYTES
returns-then-name-gt-FEW_NAME_BYTES g c =
    record {
      sent = let name = c.args.name.now in
          let whole : encode_utf8_all (spelled_symbol (chars name) []) ≡ 60 ∷ (spelled_name name [] ++ 62 ∷ []) =
          encodes-spelled_symbol (chars name) ∙ ap (λ l. 60 ∷ (spelled_name l [] ++ 62 ∷ [])) (encodes-chars name c.utf8.name) in
          let sent = rw (c.as_slice.ensures.value, c.symbol_bytes-bytes.ensures, c.as_bytes.ensures.value) at c.write_bytes.ensures.sent in
          rw whole sent;
      errors = search rules;
    }

pub returns : goal.returns
returns g c =
    record {
      sent = let name = c.args.name.now in
          let whole : encode_utf8_all (spelled_symbol (chars name) []) ≡ 60 ∷ (spelled_name name [] ++ 62 ∷ []) =
          encodes-spelled_symbol (chars name) ∙ ap (λ l. 60 ∷ (spelled_name l [] ++ 62 ∷ [])) (encodes-chars name c.utf8.name) in
          let sent = rw (c.as_slice-2.ensures.value, c.symbol_bytes-bytes-2.ensures, c.as_bytes-2.ensures.value) at c.write_bytes-2.ensures.sent in
          rw whole sent;
      errors = search rules;
    }
