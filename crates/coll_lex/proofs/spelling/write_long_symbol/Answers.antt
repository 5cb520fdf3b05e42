use Rattle.std.proofs.Common.{◌≡◌, [], ◌∷◌, ◌++◌, chars, encode_utf8_all, ap, ◌∙◌, rules}
use Rattle.std.proofs.lemmas.Str.{encodes-chars}
use Rattle.coll_lex.specs.Spelling.{spelled_name, spelled_symbol}
use Rattle.coll_devices.proofs.WritingLemmas.{AppendsPrefix-before, AppendsPrefix-after, Sends-after, Sends-stopped}
use Rattle.coll_lex.proofs.SpellingLemmas.{encodes-spelled_symbol}
use Rattle.coll_lex.proofs.spelling.write_long_symbol.Goals as goal

pub returns-in_err-write_bytes : goal.returns-in_err-write_bytes
returns-in_err-write_bytes g c =
    record {
      sent = let taken = g.W.Sink.taken in
          let name = c.args.name.now in
          let whole : encode_utf8_all (spelled_symbol (chars name) []) ≡ (60 ∷ []) ++ (spelled_name name [] ++ 62 ∷ []) =
          encodes-spelled_symbol (chars name) ∙ ap (λ l. 60 ∷ (spelled_name l [] ++ 62 ∷ [])) (encodes-chars name c.utf8.name) in
          rw whole
          (Sends-stopped (taken c.args.out.now) (taken c.write_bytes.new.out) ((60 ∷ []) ++ (spelled_name name [] ++ 62 ∷ [])) c.from_residual.result c.from_residual.ensures.0
          (AppendsPrefix-before _ _ (60 ∷ []) (spelled_name name [] ++ 62 ∷ []) c.in_err-write_bytes.ensures.sent));
      errors = search rules;
    }

pub returns-in_err-write_name : goal.returns-in_err-write_name
returns-in_err-write_name g c =
    record {
      sent = let taken = g.W.Sink.taken in
          let name = c.args.name.now in
          let whole : encode_utf8_all (spelled_symbol (chars name) []) ≡ (60 ∷ []) ++ (spelled_name name [] ++ 62 ∷ []) =
          encodes-spelled_symbol (chars name) ∙ ap (λ l. 60 ∷ (spelled_name l [] ++ 62 ∷ [])) (encodes-chars name c.utf8.name) in
          let part = rw c.as_bytes.ensures.value at c.in_err-write_name.ensures.sent in
          rw whole
          (Sends-stopped (taken c.args.out.now) (taken c.write_name.new.out) ((60 ∷ []) ++ (spelled_name name [] ++ 62 ∷ [])) c.from_residual-in_err-write_name.result
          c.from_residual-in_err-write_name.ensures.0
          (AppendsPrefix-after _ _ _ (60 ∷ []) (spelled_name name [] ++ 62 ∷ []) c.in_ok-write_bytes.ensures.sent (AppendsPrefix-before _ _ (spelled_name name []) (62 ∷ []) part)));
      errors = search rules;
    }

pub returns : goal.returns
returns g c =
    record {
      sent = let taken = g.W.Sink.taken in
          let name = c.args.name.now in
          let whole : encode_utf8_all (spelled_symbol (chars name) []) ≡ (60 ∷ []) ++ (spelled_name name [] ++ 62 ∷ []) =
          encodes-spelled_symbol (chars name) ∙ ap (λ l. 60 ∷ (spelled_name l [] ++ 62 ∷ [])) (encodes-chars name c.utf8.name) in
          let sent = rw c.as_bytes.ensures.value at c.in_ok-write_name.ensures.sent in
          rw whole
          (Sends-after (taken c.args.out.now) _ (taken c.write_bytes-2.new.out) (60 ∷ []) (spelled_name name [] ++ 62 ∷ []) c.write_bytes-2.result c.in_ok-write_bytes.ensures.sent
          (Sends-after _ _ (taken c.write_bytes-2.new.out) (spelled_name name []) (62 ∷ []) c.write_bytes-2.result sent c.write_bytes-2.ensures.sent));
      errors = search rules;
    }
